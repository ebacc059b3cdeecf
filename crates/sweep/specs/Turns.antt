-- How batches are placed in turn: in each period those go first that no batch which waits is ahead of.
use Rattle.std.specs.Prelude.{◌≡◌, ℕ, ◌+◌, ◌*◌, ◌^◌, ◌<◌, ◌≤◌, Bool, false, List, length, take, slice_index}
use prog.Memory.{size}
use Rattle.std.specs.Borrow.{RattleType}
use denote.Param.{layout}
use Rattle.line.specs.declared.batch.Batch.{Batch}
use Rattle.sweep.specs.Feasible.{total}
use Rattle.sweep.specs.Charges.{at, earliest_at, latest_at, Fits}

-- A line of 32 elements fits in memory.
abbrev pub Roomy : RattleType → Type 0
Roomy R = 32 * size (layout R) < 2 ^ 63

-- Batch k waits at period t: p has it in no period, which is 0, and its window does not end before t.
abbrev pub Waiting : List Batch → List ℕ → ℕ → ℕ → Type 0
Waiting bs p t k = (slice_index p k ≡ 0) × (t ≤ latest_at bs k)

-- The element of the line that stands for batch k.
abbrev pub element : {E : Type 0} → (Batch → ℕ → E) → List Batch → ℕ → E
element made bs k = made (at bs k) k

-- Batch b is the next to go at t: it waits, and no batch that waits is ahead of it.
pub record Next {E : Type 0} (leads : E → E → Bool) (made : Batch → ℕ → E) (bs : List Batch) (p : List ℕ) (t b : ℕ) : Type 0 where
  pub inside : b < length bs
  pub waits : Waiting bs p t b
  pub unled : (k : ℕ) → k < length bs → Waiting bs p t k → leads (element made bs k) (element made bs b) ≡ false

-- The earliest period of a batch is not later than that of any batch that it is not ahead of.
abbrev pub LatestFirst : {E : Type 0} → (E → E → Bool) → (Batch → ℕ → E) → List Batch → Type 0
LatestFirst leads made bs =
    (b k : ℕ) →
    b < length bs →
    k < length bs →
    leads (element made bs k) (element made bs b) ≡ false →
    earliest_at bs k ≤ earliest_at bs b

-- The worth f k v of batch k in period v rises with v, and rises most for the batches that are ahead.
pub record Suits {E : Type 0} (leads : E → E → Bool) (made : Batch → ℕ → E) (bs : List Batch) (f : ℕ → ℕ → ℕ) : Type 0 where
  pub rises : (b u t : ℕ) → b < length bs → u ≤ t → f b u ≤ f b t
  pub swaps : (b k u t : ℕ) → b < length bs → k < length bs → leads (element made bs k) (element made bs b) ≡ false → u < t → f b u + f k t ≤ f b t + f k u

-- The table p of 32 periods begins with a schedule that fits, and none that fits is worth more, by any worth that suits the
-- order.
pub record Best {E : Type 0} (leads : E → E → Bool) (made : Batch → ℕ → E) (bs : List Batch) (cs : List ℕ) (last : ℕ) (p : List ℕ) : Type 0 where
  pub long : length p ≡ 32
  pub fits : Fits bs cs last (take (length bs) p)
  pub most : (f : ℕ → ℕ → ℕ) → Suits leads made bs f → (x : List ℕ) → Fits bs cs last x → total f 0 x ≤ total f 0 (take (length bs) p)
