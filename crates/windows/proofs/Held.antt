-- What windows hold is a proper set, and a proper set can be filled in.
use Rattle.std.proofs.Common.{◌≡◌, ℕ, ◌<◌, ◌≤◌, false, List, length, get_or, sym, ap, ◌∙◌, arith}
use Rattle.std.proofs.lemmas.List.{length-take-le, get_or-take}
use Rattle.std.proofs.lemmas.Bool.Decides.{nat_tests}
use Rattle.windows.specs.declared.refusal.Refusal.{Refusal}
use Rattle.windows.specs.declared.refusal.Refusal.TheVariants.{SheetLength, Version, Limit, ListLength, Entry, BadWindow, Unfit, CapTooHigh, NoSchedule, Idle, Done, CapNotLower, NoPlan, ShortMemory}
use Rattle.windows.specs.declared.windows.Windows.{Windows}
use Rattle.windows.specs.Refusals.{number, struck}
use Rattle.windows.specs.WindowSets.{Proper, nowhere}
use Rattle.windows.specs.Filling.{set_of, paired, fill_checks}
use Rattle.windows.specs.Sizes.{out_of_size}
use Rattle.windows.proofs.Fills.{none_bad, not_good, paired_at, length_paired, fill_accepted}

pub held_length : (w : Windows) → length (set_of w).each ≡ w.extent.batches
held_length w = length-take-le w.extent.batches w.each (omega arith)

pub held_proper : (w : Windows) → Proper (set_of w)
held_proper w =
    let n = held_length w in
    record {
      some = w.extent.some;
      most = w.extent.most;
      few = omega (arith, w.extent.few);
      starts = λ k h. (let c : k < w.extent.batches = omega arith in omega (arith, w.starts k c, ap (λ v. v.earliest) (get_or-take w.extent.batches w.each k nowhere c)));
      holds = λ k h. (let c : k < w.extent.batches = omega arith in let e = get_or-take w.extent.batches w.each k nowhere c in omega (arith, w.holds k c, ap (λ v. v.earliest) e, ap (λ v. v.latest) e));
      ends = λ k h. (let c : k < w.extent.batches = omega arith in omega (arith, w.ends k c, ap (λ v. v.latest) (get_or-take w.extent.batches w.each k nowhere c)));
    }

-- Lists that give a proper set are accepted.
pub fills : (n T : ℕ) (es ls : List ℕ) → length es ≡ n → length ls ≡ n → Proper (record { periods = T; each = paired es ls }) → struck (fill_checks n T es ls) ≡ 0
fills n T es ls a b p =
    let m = length_paired es ls (a ∙ sym b) in
    let few = p.few in
    let some = p.some in
    let most = p.most in
    let size : out_of_size n T ≡ false = (let c : n ≤ 32 = omega arith in grind (arith, nat_tests)) in
    fill_accepted n T es ls size a b (none_bad T es ls (a ∙ sym b) (λ k h.
    (let e = paired_at es ls k (a ∙ sym b) h in
    let low = ap (λ v. v.earliest) e in
    let high = ap (λ v. v.latest) e in
    not_good T (get_or es k 0) (get_or ls k 0) (record { starts = omega (arith, p.starts k (omega arith)); holds = omega (arith, p.holds k (omega arith)); ends = omega (arith, p.ends k (omega arith)) }))))

-- No refusal has the number 0, which says that no check strikes.
pub numbered : (e : Refusal) → 1 ≤ number e
numbered SheetLength = omega arith
numbered Version = omega arith
numbered Limit = omega arith
numbered ListLength = omega arith
numbered Entry = omega arith
numbered BadWindow = omega arith
numbered Unfit = omega arith
numbered CapTooHigh = omega arith
numbered NoSchedule = omega arith
numbered Idle = omega arith
numbered Done = omega arith
numbered CapNotLower = omega arith
numbered NoPlan = omega arith
numbered ShortMemory = omega arith
