-- The front of a line.
use Rattle.std.specs.Prelude.{◌≡◌, ℕ, ◌<◌, Bool, true, false, List, length, slice_index_or}

-- Place p is the front of the line xs: the first place, counted from 0, that no element is ahead of. `leads x y` says that
-- x is ahead of y, and d, which is read past the end of a list, may be anything.
pub record Front {X : Type 0} (leads : X → X → Bool) (xs : List X) (p : ℕ) : Type 0 where
  pub inside : p < length xs
  pub unled : (k : ℕ) (d : X) → k < length xs → leads (slice_index_or xs k d) (slice_index_or xs p d) ≡ false
  pub first : (q : ℕ) → q < p → (k : ℕ) × (k < length xs) × ((d : X) → leads (slice_index_or xs k d) (slice_index_or xs q d) ≡ true)
