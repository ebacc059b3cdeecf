-- All schedules in some windows, and what is taken of them: their hull, the least of their charges, how many share a period.
use Rattle.std.specs.Prelude.{ℕ, ◌+◌, ◌-◌, min, max, Bool, cond, List, [], ◌∷◌, ◌++◌, map, Some, None, Option, ◌==◌}
use Rattle.std.specs.List.{range_with_len}
use Rattle.windows.specs.declared.window.Window.{Window}
use Rattle.windows.specs.WindowSets.{WindowSet, window}

-- The elements that pass a test.
abbrev pub kept : {X : Type 0} → (X → Bool) → List X → List X
kept p [] = []
kept p (x ∷ xs) = cond (p x) (x ∷ kept p xs) (kept p xs)

-- The lists of all elements, one after the other.
abbrev pub joined : {X Y : Type 0} → (X → List Y) → List X → List Y
joined f [] = []
joined f (x ∷ xs) = f x ++ joined f xs

-- The periods of a window, in order.
abbrev pub periods_in : Window → List ℕ
periods_in w = range_with_len w.earliest (w.latest + 1 - w.earliest)

-- Every schedule in the windows: each period of the first window, followed by each schedule of the others.
abbrev pub schedules : List Window → List (List ℕ)
schedules [] = [] ∷ []
schedules (w ∷ ws) = joined (λ t. map (λ x. t ∷ x) (schedules ws)) (periods_in w)

-- The windows of one schedule, one period each.
abbrev pub alone : List ℕ → List Window
alone [] = []
alone (t ∷ x) = window t t ∷ alone x

-- The windows made just wide enough to hold the schedule too.
abbrev pub cover : List Window → List ℕ → List Window
cover [] x = []
cover (w ∷ ws) [] = []
cover (w ∷ ws) (t ∷ x) = window (min w.earliest t) (max w.latest t) ∷ cover ws x

abbrev pub covers : List Window → List (List ℕ) → List Window
covers ws [] = ws
covers ws (x ∷ xs) = covers (cover ws x) xs

-- The hull of some schedules over T periods: the earliest and the latest period that each batch takes in any of them; of
-- none it is none.
abbrev pub hull : ℕ → List (List ℕ) → Option WindowSet
hull T [] = None
hull T (x ∷ xs) = Some (record { periods = T; each = covers (alone x) xs })

-- The least of some numbers; of none it is none.
abbrev pub least_of : ℕ → List ℕ → ℕ
least_of a [] = a
least_of a (b ∷ bs) = least_of (min a b) bs

abbrev pub least : List ℕ → Option ℕ
least [] = None
least (a ∷ bs) = Some (least_of a bs)

-- How many batches a schedule has in period t.
abbrev pub count : ℕ → List ℕ → ℕ
count t [] = 0
count t (v ∷ x) = cond (v == t) 1 0 + count t x
