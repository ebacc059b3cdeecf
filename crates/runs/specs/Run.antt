-- What a search holds and answers after each call, by the arguments of the calls and the rule's meaning alone.
use Rattle.std.specs.Prelude.{ℕ, ◌-◌, Bool, true, false, cond, not, List, [], ◌∷◌, length, Some, None, Option, ◌==◌, nat_le, nat_lt}
use Rattle.windows.specs.Refusals.{struck}
use Rattle.windows.specs.WindowSets.{WindowSet}
use Rattle.windows.specs.Halves.{one_each, earlier, later, first_periods}
use Rattle.rule.specs.Meaning.{Meaning, max_charge}
use Rattle.rule.specs.Narrowing.{none, fitting, narrow_checks}
use Rattle.runs.specs.declared.phase.Phase.{Phase}
use Rattle.runs.specs.declared.phase.Phase.TheVariants.{Idle, Running, Done}
use Rattle.runs.specs.declared.step.Step.{Step}
use Rattle.runs.specs.declared.step.Step.TheVariants.{Closed, Split}
use Rattle.runs.specs.declared.step.Step.TheVariants.{Plan as Found}

-- A plan: a schedule and its charge.
pub record Plan : Type 0 where
  pub schedule : List ℕ
  pub charge : ℕ

pub record State : Type 0 where
  pub phase : Phase
  -- the cap standing; 0 while the search is idle
  pub cap : ℕ
  -- the open parts, the newest first
  pub parts : List WindowSet
  pub plan : Option Plan

pub data Call : Type 0 where
  «open» : WindowSet → ℕ → Call
  step : Call
  tighten : ℕ → Call
  -- with the length of the memory handed in
  read : ℕ → Call

-- A new search has no part and no plan.
abbrev pub fresh : State
fresh = record { phase = Idle; cap = 0; parts = []; plan = None }

abbrev pub is_idle : Phase → Bool
is_idle Idle = true
is_idle Running = false
is_idle Done = false

abbrev pub is_done : Phase → Bool
is_done Idle = false
is_done Running = false
is_done Done = true

abbrev pub size_of : Option Plan → ℕ
size_of None = 0
size_of (Some p) = length p.schedule

-- The checks of the calls: the first that strikes gives the number of the refusal.
abbrev pub open_checks : Bool → ℕ → List (ℕ × Bool)
open_checks fits limit = (7, not fits) ∷ ((8, nat_lt max_charge limit) ∷ [])

abbrev pub step_checks : State → List (ℕ × Bool)
step_checks s = (10, is_idle s.phase) ∷ ((11, is_done s.phase) ∷ [])

abbrev pub tighten_checks : State → ℕ → List (ℕ × Bool)
tighten_checks s limit = (8, nat_lt max_charge limit) ∷ ((10, is_idle s.phase) ∷ ((12, nat_le s.cap limit) ∷ []))

abbrev pub read_checks : State → ℕ → List (ℕ × Bool)
read_checks s room = (10, is_idle s.phase) ∷ ((13, none s.plan) ∷ ((14, nat_lt room (size_of s.plan)) ∷ []))

abbrev pub checks : Meaning → State → Call → List (ℕ × Bool)
checks m s («open» w limit) = open_checks (fitting m w) limit
checks m s step = step_checks s
checks m s (tighten limit) = tighten_checks s limit
checks m s (read room) = read_checks s room

-- The number by which a call is refused; 0 where it is accepted.
abbrev pub refusal : Meaning → State → Call → ℕ
refusal m s c = struck (checks m s c)

abbrev pub accepted : Meaning → State → Call → Bool
accepted m s c = refusal m s c == 0

-- An opened search is running while a part is open, and else done.
abbrev pub phase_of : List WindowSet → Phase
phase_of [] = Done
phase_of (p ∷ ps) = Running

abbrev pub holding : ℕ → Option Plan → List WindowSet → State
holding limit plan ps = record { phase = phase_of ps; cap = limit; parts = ps; plan = plan }

-- What narrowing leaves of some windows: the cut, or nothing where it is refused.
abbrev pub narrowed : Meaning → WindowSet → ℕ → Option WindowSet
narrowed m w limit = cond (struck (narrow_checks m limit w) == 0) (m.cut w limit) None

-- What becomes of a part in a step: it is closed; or one schedule is left of it, which is the plan now; or it is split.
pub data Fate : Type 0 where
  closed : Fate
  found : WindowSet → Fate
  split : WindowSet → Fate

-- Windows of one period each are asked once more, others are split.
abbrev pub asked_again : Option WindowSet → Fate
asked_again None = closed
asked_again (Some u) = found u

abbrev pub left_over : Meaning → ℕ → Option WindowSet → Fate
left_over m limit None = closed
left_over m limit (Some v) = cond (one_each v) (asked_again (narrowed m v limit)) (split v)

-- A part under a limit, if there is one.
abbrev pub fate : Meaning → WindowSet → Option ℕ → Fate
fate m p None = closed
fate m p (Some limit) = left_over m limit (narrowed m p limit)

-- The limit of a step: the cap, or the held charge less 1; there is none below a charge of 0.
abbrev pub limit_of : ℕ → Option Plan → Option ℕ
limit_of limit None = Some limit
limit_of limit (Some p) = cond (p.charge == 0) None (Some (p.charge - 1))

-- The fate of the newest part p, and what is left of the search with the other parts.
abbrev pub fate_of : Meaning → State → WindowSet → Fate
fate_of m s p = fate m p (limit_of s.cap s.plan)

abbrev pub left : Meaning → State → List WindowSet → Fate → State
left m s ps closed = holding s.cap s.plan ps
left m s ps (found u) = holding s.cap (Some (record { schedule = first_periods u.each; charge = m.floor u })) ps
left m s ps (split v) = holding s.cap s.plan (later v ∷ (earlier v ∷ ps))

abbrev pub stepped : Meaning → State → List WindowSet → State
stepped m s [] = s
stepped m s (p ∷ ps) = left m s ps (fate_of m s p)

-- What a step answers.
abbrev pub told : Fate → Step
told closed = Closed
told (found u) = Found
told (split v) = Split

abbrev pub step_answer : Meaning → State → List WindowSet → Step
step_answer m s [] = Closed
step_answer m s (p ∷ ps) = told (fate_of m s p)

-- A plan whose charge is above the cap is dropped.
abbrev pub within_cap : ℕ → Option Plan → Option Plan
within_cap limit None = None
within_cap limit (Some p) = cond (nat_le p.charge limit) (Some p) None

-- What an accepted call leaves.
abbrev pub taken : Meaning → State → Call → State
taken m s («open» w limit) = holding limit None (w ∷ [])
taken m s step = stepped m s s.parts
taken m s (tighten limit) = record { phase = s.phase; cap = limit; parts = s.parts; plan = within_cap limit s.plan }
taken m s (read room) = s

-- A refused call changes nothing.
abbrev pub next : Meaning → State → Call → State
next m s c = cond (accepted m s c) (taken m s c) s

-- The state after a list of calls, the newest first.
abbrev pub after : Meaning → List Call → State
after m [] = fresh
after m (c ∷ cs) = next m (after m cs) c
