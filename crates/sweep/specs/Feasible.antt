-- Feasible schedules. A schedule is a list of periods, one for each batch; k counts the batches from 0.
use Rattle.std.specs.Prelude.{◌≡◌, ℕ, suc, ◌+◌, ◌<◌, ◌≤◌, List, [], ◌∷◌, length, slice_index}
use Rattle.windows.specs.Schedules.{count}

-- x has a period for each of n batches, that of batch k from lo k to hi k, and at most cap t batches in each period t from
-- 1 to last.
pub record Feasible (n last : ℕ) (lo hi cap : ℕ → ℕ) (x : List ℕ) : Type 0 where
  pub size : length x ≡ n
  pub within : (k : ℕ) → k < n → (lo k ≤ slice_index x k) × (slice_index x k ≤ hi k)
  pub fits : (t : ℕ) → 1 ≤ t → t ≤ last → count t x ≤ cap t

-- The sum of f k v over the periods v of a schedule, whose batches are numbered from j on.
abbrev pub total : (ℕ → ℕ → ℕ) → ℕ → List ℕ → ℕ
total f j [] = 0
total f j (v ∷ x) = f j v + total f (suc j) x
