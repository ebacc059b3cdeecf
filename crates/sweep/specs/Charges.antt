-- Batches, their schedules within capacities, and what a schedule is charged. Batches stand in a list; k counts them from 0.
use Rattle.std.specs.Prelude.{◌≡◌, ℕ, ◌+◌, ◌-◌, ◌*◌, ◌<◌, ◌≤◌, List, [], ◌∷◌, map, length, take, slice_index, slice_index_or, slice_set}
use Rattle.line.specs.declared.batch.Batch.{Batch}
use Rattle.sweep.specs.Feasible.{Feasible}

-- What is read past the end of a list of batches.
abbrev pub no_batch : Batch
no_batch = record { earliest = 0; latest = 0; due = 0; rate = 0 }

-- The batch at k, the ends of its window and its due period.
abbrev pub at : List Batch → ℕ → Batch
at bs k = slice_index_or bs k no_batch

abbrev pub earliest_at : List Batch → ℕ → ℕ
earliest_at bs k = (at bs k).earliest

abbrev pub latest_at : List Batch → ℕ → ℕ
latest_at bs k = (at bs k).latest

abbrev pub due_at : List Batch → ℕ → ℕ
due_at bs k = (at bs k).due

-- The capacity of period t. The list begins with that of period 1.
abbrev pub capacity_at : List ℕ → ℕ → ℕ
capacity_at cs t = slice_index cs (t - 1)

-- The schedule x fits: it has each batch in its window, and no period from 1 to last has more batches than its capacity.
abbrev pub Fits : List Batch → List ℕ → ℕ → List ℕ → Type 0
Fits bs cs last x = Feasible (length bs) last (earliest_at bs) (latest_at bs) (capacity_at cs) x

-- No schedule fits.
abbrev pub Impossible : List Batch → List ℕ → ℕ → Type 0
Impossible bs cs last = (x : List ℕ) → Fits bs cs last x → ⊥

-- The schedule x has batch i in period v.
abbrev pub Has : ℕ → ℕ → List ℕ → Type 0
Has i v x = (i < length x) × (slice_index x i ≡ v)

-- The sum of f b v over the batches b and their periods v.
abbrev pub cost : (Batch → ℕ → ℕ) → List Batch → List ℕ → ℕ
cost f [] x = 0
cost f (b ∷ bs) [] = 0
cost f (b ∷ bs) (v ∷ x) = f b v + cost f bs x

-- What a schedule is charged where batch b costs w b for each period that it waits before it is due.
abbrev pub charge : (Batch → ℕ) → List Batch → List ℕ → ℕ
charge w bs x = cost (λ b v. w b * (b.due - v)) bs x

-- The table p of 32 periods begins with a schedule that fits, and no schedule that fits is charged less.
pub record Cheapest (w : Batch → ℕ) (bs : List Batch) (cs : List ℕ) (last : ℕ) (p : List ℕ) : Type 0 where
  pub long : length p ≡ 32
  pub fits : Fits bs cs last (take (length bs) p)
  pub least : (x : List ℕ) → Fits bs cs last x → charge w bs (take (length bs) p) ≤ charge w bs x

-- The table p of 32 periods begins with a schedule that fits and has batch i in period v, and no such schedule is charged
-- less.
pub record Forced (w : Batch → ℕ) (bs : List Batch) (cs : List ℕ) (last i v : ℕ) (p : List ℕ) : Type 0 where
  pub long : length p ≡ 32
  pub fits : Fits bs cs last (take (length bs) p)
  pub has : Has i v (take (length bs) p)
  pub least : (x : List ℕ) → Fits bs cs last x → Has i v x → charge w bs (take (length bs) p) ≤ charge w bs x

-- A batch with its window opened to period 1, and batches with every window opened.
abbrev pub opened : Batch → Batch
opened b = record { earliest = 1; latest = b.latest; due = b.due; rate = b.rate }

abbrev pub relaxed : List Batch → List Batch
relaxed bs = map opened bs

-- There is a batch i, and period v lies in its window.
abbrev pub InWindow : List Batch → ℕ → ℕ → Type 0
InWindow bs i v = (i < length bs) × (earliest_at bs i ≤ v) × (v ≤ latest_at bs i)

-- A batch with its window narrowed to period v, and batches with the window of batch i narrowed.
abbrev pub narrowed : Batch → ℕ → Batch
narrowed b v = record { earliest = v; latest = v; due = b.due; rate = b.rate }

abbrev pub pinned : List Batch → ℕ → ℕ → List Batch
pinned bs i v = slice_set bs i (narrowed (at bs i) v)

-- A batch over the periods 1 to last whose window is not empty, lies in the periods and ends by its due period.
abbrev pub IsSound : ℕ → Batch → Type 0
IsSound last b = (1 ≤ b.earliest) × (b.earliest ≤ b.latest) × (b.latest ≤ last) × (b.latest ≤ b.due)

-- The first n batches of a list are sound over the periods 1 to last: there are at most 32 batches and 64 periods, no window
-- is empty, all lie in the periods, and each ends by its batch's due period.
pub record Sound (n last : ℕ) (bs : List Batch) : Type 0 where
  pub few : n ≤ 32
  pub most : last ≤ 64
  pub starts : (k : ℕ) → k < n → 1 ≤ earliest_at bs k
  pub holds : (k : ℕ) → k < n → earliest_at bs k ≤ latest_at bs k
  pub ends : (k : ℕ) → k < n → latest_at bs k ≤ last
  pub timely : (k : ℕ) → k < n → latest_at bs k ≤ due_at bs k
