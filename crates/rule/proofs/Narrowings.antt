-- The way out of a narrowing past its first two checks.
use Rattle.std.proofs.Common.{◌≡◌, ℕ, ◌≤◌, Bool, true, false, cond, ltb, Ok, Err, Option, Result, sym, refl, ap, ◌∙◌, arith}
use Rattle.std.proofs.lemmas.Bool.{cond-false, not_from_true, le-ltb}
use Rattle.std.proofs.lemmas.Bool.Decides.{nat_tests}
use Rattle.windows.specs.declared.refusal.Refusal.{Refusal}
use Rattle.windows.specs.declared.windows.Windows.{Windows}
use Rattle.windows.specs.Refusals.{number, struck}
use Rattle.windows.specs.WindowSets.{WindowSet}
use Rattle.windows.specs.Filling.{set_of}
use Rattle.rule.specs.Meaning.{Meaning, max_charge}
use Rattle.rule.specs.Narrowing.{none, fitting, first_checks, narrow_checks, Narrowed, CutTo}

module _ (m : Meaning) (limit : ℕ) (w : Windows) where
  past_7 : fitting m (set_of w) ≡ true → struck (narrow_checks m limit (set_of w)) ≡ cond (ltb max_charge limit) 8 (cond (none (m.cut (set_of w) limit)) 9 0)
  past_7 e = cond-false _ 7 _ (not_from_true (fitting m (set_of w)) e)

  pub narrowed_cut : fitting m (set_of w) ≡ true → limit ≤ max_charge → (v : Windows) (r : Result (Unit {0}) Refusal) → CutTo (m.cut (set_of w) limit) w v r → Narrowed m limit w v r
  narrowed_cut e h v r = go r
    where
      past_8 : struck (narrow_checks m limit (set_of w)) ≡ cond (none (m.cut (set_of w) limit)) 9 0
      past_8 = past_7 e ∙ cond-false _ 8 _ (le-ltb max_charge limit h)

      go : (r : Result (Unit {0}) Refusal) → CutTo (m.cut (set_of w) limit) w v r → Narrowed m limit w v r
      go (Ok u) c = (past_8 ∙ ap (λ (o : Option WindowSet). cond (none o) 9 0) c, c)
      go (Err f) c = (past_8 ∙ ap (λ (o : Option WindowSet). cond (none o) 9 0) c.0 ∙ ap number (sym c.1), c.2)

-- What an admitted narrowing was asked.
pub admitted_parts : (fits : Bool) (limit : ℕ) → struck (first_checks fits limit) ≡ 0 → (fits ≡ true) × (limit ≤ max_charge)
admitted_parts true limit e = (refl, grind (arith, nat_tests))
admitted_parts false limit e = absurd (omega (arith, e))
