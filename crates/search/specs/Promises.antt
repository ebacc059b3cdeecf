-- What the calls on a search promise.
use Rattle.std.specs.Prelude.{◌≡◌, ℕ, Bool, cond, List, [], ◌∷◌, Some, None, Ok, Err, Option, Result}
use Rattle.std.specs.Option.{option_map}
use Rattle.windows.specs.declared.refusal.Refusal.{Refusal}
use Rattle.windows.specs.Refusals.{number}
use Rattle.windows.specs.Halves.{over}
use Rattle.rule.specs.Meaning.{Meaning}
use Rattle.runs.specs.Run.{Plan, State, Call, «open», step, tighten, read, is_idle, is_done, checks, next, after}
use Rattle.runs.specs.Law.{Given, Upheld}

-- A call takes a search from the state s to t. That is the state which its account gives; and whatever calls led to s, the law
-- holds with this call after them.
pub record Goes (m : Meaning) (c : Call) (s t : State) : Type 0 where
  pub exact : t ≡ next m s c
  pub law : (cs : List Call) → Given cs → s ≡ after m cs → Upheld m (c ∷ cs) t × (t ≡ after m (c ∷ cs))

-- The checks of a call, before a reading looks at the plan and the memory.
abbrev pub checked : Meaning → State → Call → List (ℕ × Bool)
checked m s («open» w limit) = checks m s («open» w limit)
checked m s step = checks m s step
checked m s (tighten limit) = checks m s (tighten limit)
checked m s (read room) = (10, is_idle s.phase) ∷ []

-- A call answers by the number of the first check that strikes. If none does, the answer is right; and if one does, nothing
-- has changed.
abbrev pub Answers : {X : Type 0} → ℕ → (X → Type 0) → Type 0 → Result X Refusal → Type 0
Answers refusal right unchanged (Ok x) = (refusal ≡ 0) × right x
Answers refusal right unchanged (Err e) = (refusal ≡ number e) × unchanged

-- A reading answers the charge held and whether the search is done, and writes the schedule over the start of the memory.
abbrev pub Reads : State → List ℕ → List ℕ → Option Plan → ℕ × Bool → Type 0
Reads s before after None a = ⊥
Reads s before after (Some p) a = (a ≡ (p.charge, is_done s.phase)) × (after ≡ over p.schedule before)

-- The charge of the plan held, and the cap standing, if there is one.
abbrev pub charge_held : Option Plan → Option ℕ
charge_held = option_map (λ p. p.charge)

abbrev pub cap_standing : State → Option ℕ
cap_standing s = cond (is_idle s.phase) None (Some s.cap)
