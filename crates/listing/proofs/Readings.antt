-- The plan held, and what is told of an opened search.
use Rattle.std.proofs.Common.{◌≡◌, ℕ, true, eqb, length, Some, None, Option, sym, ◌∙◌}
use Rattle.std.proofs.lemmas.Bool.{cond-true, eq-eqb, eqb-true}
use Rattle.windows.specs.WindowSets.{WindowSet}
use Rattle.rule.specs.Meaning.{Meaning}
use Rattle.runs.specs.Run.{Plan, «open», fresh, refusal}
use Rattle.runs.specs.Law.{Standing, opens, NothingLost}
use Rattle.runs.proofs.Runs.{open_accepted}
use Rattle.report.specs.Texts.{state_text}
use Rattle.listing.specs.Running.{HasSize, searched, searched_text}

pub plan_sized : (m : Meaning) (o : Standing) (parts : _) (plan : Option Plan) → NothingLost m (Some o) parts plan → HasSize (length o.windows.each) plan
plan_sized m o parts None h = tt
plan_sized m o parts (Some p) h = h.0.lies.same_size

module _ (m : Meaning) (w : WindowSet) (limit : ℕ) where
  pub opened : refusal m fresh («open» w limit) ≡ 0 → opens m w limit ≡ true
  opened e = sym (open_accepted m fresh w limit) ∙ eq-eqb (refusal m fresh («open» w limit)) 0 e

  pub opening : opens m w limit ≡ true → refusal m fresh («open» w limit) ≡ 0
  opening e = eqb-true (refusal m fresh («open» w limit)) 0 (open_accepted m fresh w limit ∙ e)

  pub told : (k : ℕ) → refusal m fresh («open» w limit) ≡ 0 → searched_text m w limit k ≡ state_text (searched m w limit k)
  told k e = cond-true (eqb (refusal m fresh («open» w limit)) 0) _ _ (eq-eqb (refusal m fresh («open» w limit)) 0 e)
