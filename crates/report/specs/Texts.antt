-- The texts that tell what a search came to, and what is left of a memory that a text is written into.
use Rattle.std.specs.Prelude.{◌≡◌, ℕ, ◌+◌, ◌<◌, ◌≤◌, Bool, cond, List, [], ◌∷◌, ◌++◌, length, take, Some, None, Ok, Err, codes, decimal, Option, Result, ◌≢◌, nat_lt, slice_index, IfSome}
use Rattle.std.specs.Option.{option_map}
use Rattle.windows.specs.declared.refusal.Refusal.{Refusal}
use Rattle.windows.specs.Refusals.{number, struck}
use Rattle.windows.specs.Halves.{over}
use Rattle.rule.specs.Meaning.{max_charge}
use Rattle.runs.specs.Run.{Plan, State, is_done}
use Rattle.report.specs.declared.plan.Plan.{Plan as PlanValue}
use Rattle.report.specs.declared.outcome.Outcome.{Outcome}
use Rattle.report.specs.declared.outcome.Outcome.TheVariants.{Refused, Done, Stopped}

-- The line of batch b in period p.
abbrev pub line : ℕ → ℕ → List ℕ
line b p = decimal b ++ (codes " " ++ (decimal p ++ codes "\n"))

-- A line for each period, the batches numbered from k.
abbrev pub lines_from : ℕ → List ℕ → List ℕ
lines_from k [] = []
lines_from k (p ∷ ps) = line k p ++ lines_from (k + 1) ps

-- A plan: its charge, then the period of each batch, numbered from 1.
abbrev pub plan_text : Plan → List ℕ
plan_text p = codes "plan " ++ (decimal p.charge ++ (codes "\n" ++ lines_from 1 p.schedule))

-- There is no plan.
abbrev pub none_text : List ℕ
none_text = codes "none\n"

-- The search was stopped before it was done.
abbrev pub stopped_line : List ℕ
stopped_line = codes "stopped\n"

-- The sheet was refused, by the refusal of number k.
abbrev pub refused_text : ℕ → List ℕ
refused_text k = codes "refused " ++ (decimal k ++ codes "\n")

-- A search that is done: its plan, or that there is none.
abbrev pub done_text : Option Plan → List ℕ
done_text None = none_text
done_text (Some p) = plan_text p

-- A search that was stopped: the plan held then follows, and nothing if there is none.
abbrev pub stopped_text : Option Plan → List ℕ
stopped_text None = stopped_line
stopped_text (Some p) = stopped_line ++ plan_text p

-- A search in some state: one that is not done was stopped.
abbrev pub state_text : State → List ℕ
state_text s = cond (is_done s.phase) (done_text s.plan) (stopped_text s.plan)

-- The plan that a value holds: of its 32 periods the first are in use, one for each batch.
abbrev pub plan_of : PlanValue → Plan
plan_of p = record { schedule = take p.count p.periods; charge = p.charge }

abbrev pub plan_in : Option PlanValue → Option Plan
plan_in o = option_map plan_of o

-- The text of an outcome.
abbrev pub outcome_text : Outcome → List ℕ
outcome_text (Refused e) = refused_text (number e)
outcome_text (Done p) = done_text (plan_in p)
outcome_text (Stopped p) = stopped_text (plan_in p)

-- A memory that is shorter than the text is refused by 14.
abbrev pub write_checks : List ℕ → List ℕ → List (ℕ × Bool)
write_checks text memory = (14, nat_lt (length memory) (length text)) ∷ []

-- A text written over the start of a memory, with its length for an answer; a refused memory stays as it was.
abbrev pub Reported : List ℕ → List ℕ → List ℕ → Result ℕ Refusal → Type 0
Reported text before after (Ok k) = (struck (write_checks text before) ≡ 0) × (k ≡ length text) × (after ≡ over text before)
Reported text before after (Err e) = (struck (write_checks text before) ≡ number e) × (after ≡ before)

-- A plan whose charge and periods keep their limits.
pub record Small (p : Plan) : Type 0 where
  pub charge : p.charge ≤ max_charge
  pub periods : (k : ℕ) → k < length p.schedule → slice_index p.schedule k ≤ 64

-- The plan, if there is one, keeps its limits.
abbrev pub SmallIfAny : Option Plan → Type 0
SmallIfAny o = IfSome o Small

-- A text can be read in one way only.
pub record OneReading : Type 0 where
  -- plans with one text are one plan, and refusals with one text are one
  pub one_plan : (p q : Plan) → Small p → Small q → plan_text p ≡ plan_text q → p ≡ q
  pub one_refusal : (j k : ℕ) → j ≤ 14 → k ≤ 14 → refused_text j ≡ refused_text k → j ≡ k
  -- a text tells of a plan, of none, of a stopped search or of a refusal, and never of two of these
  pub plan_not_none : (p : Plan) → plan_text p ≢ none_text
  pub plan_not_stopped : (p : Plan) (xs : List ℕ) → plan_text p ≢ stopped_line ++ xs
  pub plan_not_refused : (p : Plan) (k : ℕ) → plan_text p ≢ refused_text k
  pub none_not_stopped : (xs : List ℕ) → none_text ≢ stopped_line ++ xs
  pub none_not_refused : (k : ℕ) → none_text ≢ refused_text k
  pub refused_not_stopped : (k : ℕ) (xs : List ℕ) → refused_text k ≢ stopped_line ++ xs
  -- so states with one text are both done or both not, and hold the same plan or both none
  pub one_state : (s t : State) → SmallIfAny s.plan → SmallIfAny t.plan → state_text s ≡ state_text t
      → (is_done s.phase ≡ is_done t.phase) × (s.plan ≡ t.plan)
