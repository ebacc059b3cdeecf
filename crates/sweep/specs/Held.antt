-- What a value of the type of batches holds.
use Rattle.std.specs.Prelude.{◌≡◌, ℕ, List, take, Option, slice_get}
use Rattle.line.specs.declared.batch.Batch.{Batch}
use Rattle.sweep.specs.declared.batches.Batches.{Batches}

-- Its batches, in their order.
abbrev pub listed : Batches → List Batch
listed b = take b.count b.each

-- Its last period.
abbrev pub last_of : Batches → ℕ
last_of b = b.last

-- It holds the table bs, of which the first n batches count, and the periods 1 to last.
pub record Holds (n last : ℕ) (bs : List Batch) (b : Batches) : Type 0 where
  pub same_count : b.count ≡ n
  pub same_last : b.last ≡ last
  pub same_each : b.each ≡ bs

-- The batch at k of a list; nothing past its end.
abbrev pub batch_asked : List Batch → ℕ → Option Batch
batch_asked bs k = slice_get bs k
