-- The numbers of the refusals, and the order in which the checks of a call run.
use Rattle.std.specs.Prelude.{ℕ, Bool, cond, List, [], ◌∷◌, Some, None, Ok, Err, Option, Result, ◌≡◌}
use Rattle.windows.specs.declared.refusal.Refusal.{Refusal}
use Rattle.windows.specs.declared.refusal.Refusal.TheVariants.{SheetLength, Version, Limit, ListLength, Entry, BadWindow, Unfit, CapTooHigh, NoSchedule, Idle, Done, CapNotLower, NoPlan, ShortMemory}

-- The number of a refusal.
abbrev pub number : Refusal → ℕ
number SheetLength = 1
number Version = 2
number Limit = 3
number ListLength = 4
number Entry = 5
number BadWindow = 6
number Unfit = 7
number CapTooHigh = 8
number NoSchedule = 9
number Idle = 10
number Done = 11
number CapNotLower = 12
number NoPlan = 13
number ShortMemory = 14

-- The number of a refusal, or 0 where there is none.
abbrev pub refused_by : Option Refusal → ℕ
refused_by None = 0
refused_by (Some e) = number e

-- The checks of a call, each a refusal's number and whether it strikes: the first that strikes gives its number, and 0 says
-- that none does.
abbrev pub struck : List (ℕ × Bool) → ℕ
struck [] = 0
struck (c ∷ cs) = cond c.1 c.0 (struck cs)

-- A call that only judges answers what its first check that strikes says.
abbrev pub Judged : ℕ → Result (Unit {0}) Refusal → Type 0
Judged n (Ok u) = n ≡ 0
Judged n (Err e) = n ≡ number e
