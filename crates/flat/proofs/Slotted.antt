-- Slots is Flat with due periods and a cap that never bind.
use Rattle.std.proofs.Common.{◌≡◌, ℕ, ◌<◌, Bool, true, false, ◌&&◌, leb, List, length, get_or, refl, ap, arith}
use Rattle.std.proofs.lemmas.Bool.{le-leb, false≢true}
use Rattle.windows.specs.WindowSets.{WindowSet, Lies, Proper}
use Rattle.windows.specs.Schedules.{schedules, hull}
use Rattle.windows.proofs.Members.{kept_same, schedules_out}
use Rattle.rule.specs.Meaning.{max_charge}
use Rattle.flat.specs.Tests.{on_time, waited}
use Rattle.flat.specs.Rules.{slots_allows, flat_within, slots, flat}
use Rattle.flat.specs.Tested.{on_time_from, waited_bound}

and_mid : (a b c : Bool) → a ≡ true → c ≡ true → ((a && b) && c) ≡ b
and_mid true true c e d = d
and_mid true false c e d = refl
and_mid false b c e d = absurd (false≢true e)

same_test : (n T : ℕ) (cs ds : List ℕ) (w : WindowSet) → Proper w → length ds ≡ length w.each → ((k : ℕ) → k < length ds → get_or ds k 0 ≡ 64) → (x : List ℕ) → Lies x w.each → flat_within n T cs ds w.periods max_charge x ≡ slots_allows n T cs w.periods x
same_test n T cs ds w p even last x l =
    let size = l.same_size in
    let most = p.most in
    let few = p.few in
    let on = on_time_from ds x (omega arith) (λ k h. omega (arith, last k h, l.not_after k (omega arith), p.ends k (omega arith))) in
    let cheap = waited_bound ds x (λ k h. omega (arith, last k h)) in
    and_mid (on_time ds x) (slots_allows n T cs w.periods x) (leb (waited ds x) max_charge) on (le-leb (waited ds x) max_charge (omega arith))

pub slots_cut : (n T : ℕ) (cs ds : List ℕ) (w : WindowSet) (limit : ℕ) → Proper w → length ds ≡ length w.each → ((k : ℕ) → k < length ds → get_or ds k 0 ≡ 64) → (flat n T cs ds).cut w max_charge ≡ (slots n T cs).cut w limit
slots_cut n T cs ds w limit p even last =
    ap (hull w.periods) (kept_same (flat_within n T cs ds w.periods max_charge) (slots_allows n T cs w.periods) (schedules w.each) (λ x m. same_test n T cs ds w p even last x (schedules_out x w.each m)))
