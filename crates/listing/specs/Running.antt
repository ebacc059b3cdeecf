-- A search that is stepped until it is done, at most so often.
use Rattle.std.specs.Prelude.{◌≡◌, ℕ, zero, suc, ◌*◌, ◌<◌, true, false, cond, List, length, Some, Ok, Err, Option, Result, IfSome, ◌==◌}
use Rattle.windows.specs.declared.refusal.Refusal.{Refusal}
use Rattle.windows.specs.Refusals.{number}
use Rattle.windows.specs.WindowSets.{WindowSet}
use Rattle.rule.specs.Meaning.{Meaning}
use Rattle.runs.specs.Run.{Plan, State, «open», step, fresh, is_idle, is_done, refusal, next}
use Rattle.runs.specs.Law.{Standing, NothingLost, BestAtEnd, product}
use Rattle.report.specs.declared.outcome.Outcome.{Outcome}
use Rattle.report.specs.Texts.{state_text, refused_text, outcome_text}

-- At most k steps, and none once the search is done. It stays shut: open, a million of them would be computed.
unfoldable pub steps_until_done : Meaning → ℕ → State → State
steps_until_done m zero s = s
steps_until_done m (suc k) s = cond (is_done s.phase) s (steps_until_done m k (next m s step))

-- A new search, opened and then stepped at most k times.
abbrev pub searched : Meaning → WindowSet → ℕ → ℕ → State
searched m w limit k = steps_until_done m k (next m fresh («open» w limit))

-- A plan, if there is one, has a period for each of n batches.
abbrev pub HasSize : ℕ → Option Plan → Type 0
HasSize n o = IfSome o (λ p. length p.schedule ≡ n)

-- The text of what a search came to, or of its refusal.
abbrev pub result_text : Result Outcome Refusal → List ℕ
result_text (Ok o) = outcome_text o
result_text (Err e) = refused_text (number e)

-- What is told of a search with at most k steps: what it came to, or that its opening was refused.
abbrev pub searched_text : Meaning → WindowSet → ℕ → ℕ → List ℕ
searched_text m w limit k = cond (refusal m fresh («open» w limit) == 0) (state_text (searched m w limit k)) (refused_text (refusal m fresh («open» w limit)))

-- What a search came to with at most k steps: no contender is lost, and once it is done the plan held is the best one. If it is
-- not done, k is less than twice the product of the window lengths.
pub record Ended (m : Meaning) (o : Standing) (k : ℕ) (s : State) : Type 0 where
  pub kept : NothingLost m (Some o) s.parts s.plan
  pub best : is_done s.phase ≡ true → BestAtEnd m (Some o) s.plan
  pub awake : is_idle s.phase ≡ false
  pub large : is_done s.phase ≡ false → k < 2 * product o.windows.each
