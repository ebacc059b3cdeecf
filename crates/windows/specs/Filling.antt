-- What windows hold, and what the calls on them do.
use Rattle.std.specs.Prelude.{◌≡◌, ℕ, ◌-◌, Bool, cond, not, ◌&&◌, ◌||◌, List, [], ◌∷◌, length, take, Some, None, Ok, Err, Option, Result, ◌==◌, nat_le, nat_lt}
use Rattle.std.specs.List.{list_any, zip}
use Rattle.windows.specs.declared.refusal.Refusal.{Refusal}
use Rattle.windows.specs.declared.window.Window.{Window}
use Rattle.windows.specs.declared.windows.Windows.{Windows}
use Rattle.windows.specs.Sizes.{out_of_size}
use Rattle.windows.specs.Refusals.{number, struck}
use Rattle.windows.specs.WindowSets.{WindowSet, window, earliest_of, latest_of}

-- The set of windows that a value holds.
abbrev pub set_of : Windows → WindowSet
set_of w = record { periods = w.extent.periods; each = take w.extent.batches w.each }

-- No batches and one period.
abbrev pub blank : WindowSet
blank = record { periods = 1; each = [] }

-- Both ends of the window of a batch, numbered from 1; nothing if there is no such batch.
abbrev pub window_asked : WindowSet → ℕ → Option (ℕ × ℕ)
window_asked s b = cond (nat_le 1 b && nat_le b (length s.each)) (Some (earliest_of s.each (b - 1), latest_of s.each (b - 1))) None

-- The windows of which two lists give the earliest and the latest periods.
abbrev pub paired : List ℕ → List ℕ → List Window
paired [] ls = []
paired (e ∷ es) [] = []
paired (e ∷ es) (l ∷ ls) = window e l ∷ paired es ls

-- A window is empty or leaves the periods 1 to T.
abbrev pub bad : ℕ → ℕ → ℕ → Bool
bad T e l = nat_lt e 1 || (nat_lt l e || nat_lt T l)

-- Some window of two lists is bad.
abbrev pub some_bad : ℕ → List ℕ → List ℕ → Bool
some_bad T es ls = list_any (λ p. bad T p.0 p.1) (zip es ls)

-- n and T, then the lengths of the lists, then each window.
abbrev pub fill_checks : ℕ → ℕ → List ℕ → List ℕ → List (ℕ × Bool)
fill_checks n T es ls =
    (3, out_of_size n T) ∷
    ((4, not (length es == n && length ls == n)) ∷
    ((6, some_bad T es ls) ∷ []))

-- A fill from n, T and two lists: the windows are those of the lists, or stay as they were.
abbrev pub Filled : ℕ → ℕ → List ℕ → List ℕ → Windows → Windows → Result (Unit {0}) Refusal → Type 0
Filled n T es ls before after (Ok u) = (struck (fill_checks n T es ls) ≡ 0) × (set_of after ≡ record { periods = T; each = paired es ls })
Filled n T es ls before after (Err e) = (struck (fill_checks n T es ls) ≡ number e) × (after ≡ before)
