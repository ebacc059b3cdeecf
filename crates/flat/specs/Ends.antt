-- The batches of some windows, and the ends of the periods that they take in the schedules up to a cap.
use Rattle.std.specs.Prelude.{◌≡◌, ℕ, ◌<◌, ◌≤◌, min, max, true, List, [], ◌∷◌, length, take, slice_index}
use Rattle.windows.specs.declared.window.Window.{Window}
use Rattle.windows.specs.declared.windows.Windows.{Windows}
use Rattle.windows.specs.Filling.{set_of}
use Rattle.windows.specs.Hulls.{Passes}
use Rattle.line.specs.declared.batch.Batch.{Batch}
use Rattle.sweep.specs.declared.batches.Batches.{Batches}
use Rattle.sweep.specs.Charges.{Fits, charge}
use Rattle.sweep.specs.Held.{listed, last_of}
use Rattle.flat.specs.declared.flat.Flat.{Flat}
use Rattle.flat.specs.declared.ends.Ends.{Ends}
use Rattle.flat.specs.declared.ends.sought.Sought.{Sought}
use Rattle.flat.specs.Tests.{same_size}
use Rattle.flat.specs.Rules.{flat_allows}

-- The batches of some windows, each window ended by the due period.
abbrev pub clipped : List ℕ → List Window → List Batch
clipped [] ws = []
clipped (d ∷ ds) [] = []
clipped (d ∷ ds) (w ∷ ws) = record { earliest = w.earliest; latest = min w.latest d; due = d; rate = 1 } ∷ clipped ds ws

-- b holds the clipped batches of windows that fit the rule.
pub record Clips (f : Flat) (w : Windows) (b : Batches) : Type 0 where
  pub fits : same_size f.slots.extent.batches f.slots.extent.periods (length (set_of w).each) (set_of w).periods ≡ true
  pub batches : listed b ≡ clipped (take f.slots.extent.batches f.dues) (set_of w).each
  pub periods : last_of b ≡ (set_of w).periods

-- No schedule that Flat allows lies in the windows.
abbrev pub NothingAllowed : Flat → Windows → Type 0
NothingAllowed f w = (x : List ℕ) → Passes (flat_allows f.slots.extent.batches f.slots.extent.periods (take f.slots.extent.periods f.slots.capacities) (take f.slots.extent.batches f.dues) (set_of w).periods) (set_of w).each x → ⊥

-- The schedule x fits the batches and the capacities, with a charge up to the cap.
pub record Good (s : Sought) (x : List ℕ) : Type 0 where
  pub fits : Fits (listed s.batches) s.capacities (last_of s.batches) x
  pub cheap : charge (λ _. 1) (listed s.batches) x ≤ s.limit

-- The schedule at the start of a table.
abbrev pub placed_in : Sought → List ℕ → List ℕ
placed_in s p = take (length (listed s.batches)) p

-- x is good, and no good schedule has batch k earlier, or later.
pub record Earliest (s : Sought) (k : ℕ) (x : List ℕ) : Type 0 where
  pub good : Good s x
  pub first : (y : List ℕ) → Good s y → slice_index x k ≤ slice_index y k

pub record Latest (s : Sought) (k : ℕ) (x : List ℕ) : Type 0 where
  pub good : Good s x
  pub final : (y : List ℕ) → Good s y → slice_index y k ≤ slice_index x k

-- e is d moved outward to hold the schedule at the start of a table p.
pub record Taken (d : Ends) (p : List ℕ) (e : Ends) : Type 0 where
  pub first : (k : ℕ) → k < 32 → slice_index e.earliest k ≡ min (slice_index d.earliest k) (slice_index p k)
  pub final : (k : ℕ) → k < 32 → slice_index e.latest k ≡ max (slice_index d.latest k) (slice_index p k)

-- Each end is the period of its batch in a good schedule.
pub record Supported (s : Sought) (e : Ends) : Type 0 where
  pub first : (k : ℕ) → k < length (listed s.batches) → (x : List ℕ) × Good s x × (slice_index x k ≡ slice_index e.earliest k)
  pub final : (k : ℕ) → k < length (listed s.batches) → (x : List ℕ) × Good s x × (slice_index x k ≡ slice_index e.latest k)

-- No good schedule has batch k before its earliest period found, or after its latest.
abbrev pub Reached : Sought → Ends → ℕ → Type 0
Reached s e k = (x : List ℕ) → Good s x → (slice_index e.earliest k ≤ slice_index x k) × (slice_index x k ≤ slice_index e.latest k)

-- The ends of n batches have only moved outward.
abbrev pub Wider : ℕ → Ends → Ends → Type 0
Wider n d e = (k : ℕ) → k < n → (slice_index e.earliest k ≤ slice_index d.earliest k) × (slice_index d.latest k ≤ slice_index e.latest k)

-- The ends of each batch over the good schedules, of which there is one.
pub record Hulled (s : Sought) (e : Ends) : Type 0 where
  pub some : (x : List ℕ) × Good s x
  pub supported : ∥ Supported s e ∥₁
  pub reached : (k : ℕ) → k < length (listed s.batches) → Reached s e k
