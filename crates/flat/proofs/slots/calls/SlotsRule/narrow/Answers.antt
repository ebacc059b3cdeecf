use Rattle.std.proofs.Common.{◌≡◌, ℕ, true, List, length, take, replicate, Option, sym, refl, ◌∙◌, subst, arith}
use Rattle.std.proofs.lemmas.List.{length-take-le, get_or-take, get_or-replicate}
use Rattle.windows.specs.WindowSets.{WindowSet}
use Rattle.windows.specs.Filling.{set_of}
use Rattle.windows.proofs.Held.{held_proper}
use Rattle.rule.specs.Narrowing.{CutTo}
use Rattle.rule.proofs.Entries.{repeated_most}
use Rattle.rule.proofs.Narrowings.{narrowed_cut, admitted_parts}
use Rattle.flat.specs.Loading.{slots_of}
use Rattle.flat.specs.Tested.{fit_known, same_size_parts}
use Rattle.flat.proofs.Slotted.{slots_cut}
use Rattle.flat.proofs.slots.calls.SlotsRule.narrow.Goals as goal

pub invariant_of-never_due : goal.invariant_of-never_due
invariant_of-never_due c = record {
  dated = refl;
  soon = (λ k. repeated_most 32 64 k);
}

pub returns : goal.returns
returns c =
    let s = c.args.self.now in
    let w = c.args.windows.now in
    let n = s.extent.batches in
    let ds : List ℕ = take n (replicate 32 64) in
    let admitted = admitted_parts c.fits.result c.args.limit c.in_ok-admit.ensures in
    let fits = fit_known true n s.extent.periods (length (set_of w).each) w.extent.periods c.size.result.batches c.size.result.periods (sym admitted.0 ∙ c.fits.ensures) c.size.ensures.batches c.size.ensures.periods in
    let long : length ds ≡ n = length-take-le {A = ℕ} n (replicate 32 64) (omega (arith, s.extent.few)) in
    let same = slots_cut n s.extent.periods (take s.extent.periods s.capacities) ds (set_of w) c.args.limit (held_proper w) (long ∙ sym (same_size_parts n s.extent.periods (length (set_of w).each) w.extent.periods fits).0)
    (λ k h. get_or-take {A = ℕ} n (replicate 32 64) k 0 (omega (arith, long)) ∙ get_or-replicate {A = ℕ} 32 k 64 0 (omega (arith, long, s.extent.few))) in
    narrowed_cut (slots_of s) c.args.limit w fits admitted.1 c.cut.new.windows c.cut.result
    (subst (λ (o : Option WindowSet). CutTo o w c.cut.new.windows c.cut.result) same c.cut.ensures)
