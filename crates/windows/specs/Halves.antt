-- Windows cut in two halves, and the schedule of windows of one period each.
use Rattle.std.specs.Prelude.{◌≡◌, ℕ, suc, ◌+◌, ◌/◌, Bool, true, false, cond, List, [], ◌∷◌, ◌++◌, length, map, drop, Some, None, Ok, Err, Option, Result, nat_le, nat_lt, slice_index_or, slice_set}
use Rattle.windows.specs.declared.refusal.Refusal.{Refusal}
use Rattle.windows.specs.declared.window.Window.{Window}
use Rattle.windows.specs.declared.windows.Windows.{Windows}
use Rattle.windows.specs.Refusals.{number, struck}
use Rattle.windows.specs.WindowSets.{WindowSet, window, nowhere}
use Rattle.windows.specs.Filling.{set_of}

-- A window has more than one period.
abbrev pub wide : Window → Bool
wide w = nat_lt w.earliest w.latest

-- The lowest-numbered batch with more than one period, counted from 0; the number of batches if there is none.
abbrev pub first_wide : List Window → ℕ
first_wide [] = 0
first_wide (w ∷ ws) = cond (wide w) 0 (suc (first_wide ws))

-- Every window is one period.
abbrev pub one_each : WindowSet → Bool
one_each s = nat_le (length s.each) (first_wide s.each)

-- The period that ends the earlier half of a window.
abbrev pub middle : Window → ℕ
middle w = (w.earliest + w.latest) / 2

abbrev pub earlier_half : Window → Window
earlier_half w = window w.earliest (middle w)

abbrev pub later_half : Window → Window
later_half w = window (middle w + 1) w.latest

-- The windows with a half of the first wide one, and the others as they are.
abbrev pub halved : (Window → Window) → List Window → List Window
halved half ws = slice_set ws (first_wide ws) (half (slice_index_or ws (first_wide ws) nowhere))

abbrev pub earlier : WindowSet → WindowSet
earlier s = record { periods = s.periods; each = halved earlier_half s.each }

abbrev pub later : WindowSet → WindowSet
later s = record { periods = s.periods; each = halved later_half s.each }

-- A split: the windows become their earlier half and the later half is answered, or every window is one period and nothing
-- changes.
abbrev pub SplitUp : Windows → Windows → Option Windows → Type 0
SplitUp before after None = (one_each (set_of before) ≡ true) × (after ≡ before)
SplitUp before after (Some half) = (one_each (set_of before) ≡ false) × (set_of after ≡ earlier (set_of before)) × (set_of half ≡ later (set_of before))

-- The earliest period of each batch: the schedule, if every window is one period.
abbrev pub first_periods : List Window → List ℕ
first_periods ws = map (λ w. w.earliest) ws

-- A schedule written over the start of a memory, and what is beyond left as it was.
abbrev pub over : List ℕ → List ℕ → List ℕ
over x memory = x ++ drop (length x) memory

-- The earliest periods written into a memory, refused by 14 if it is too short.
abbrev pub Wrote : List ℕ → List ℕ → List ℕ → Result (Unit {0}) Refusal → Type 0
Wrote x before after (Ok u) = (struck ((14, nat_lt (length before) (length x)) ∷ []) ≡ 0) × (after ≡ over x before)
Wrote x before after (Err e) = (struck ((14, nat_lt (length before) (length x)) ∷ []) ≡ number e) × (after ≡ before)
