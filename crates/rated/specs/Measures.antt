-- The batches of some windows, and the periods into which one of them can be forced up to a cap.
use Rattle.std.specs.Prelude.{◌≡◌, ℕ, ◌<◌, ◌≤◌, min, true, List, map, length, take}
use Rattle.std.specs.List.{zip}
use Rattle.windows.specs.declared.window.Window.{Window}
use Rattle.windows.specs.declared.windows.Windows.{Windows}
use Rattle.windows.specs.WindowSets.{earliest_of, latest_of}
use Rattle.windows.specs.Filling.{set_of}
use Rattle.windows.specs.Hulls.{Passes}
use Rattle.line.specs.declared.batch.Batch.{Batch}
use Rattle.sweep.specs.declared.batches.Batches.{Batches}
use Rattle.sweep.specs.Charges.{at, Fits, Has, charge, relaxed as opened_list}
use Rattle.sweep.specs.Held.{listed, last_of}
use Rattle.flat.specs.Tests.{same_size, within}
use Rattle.rated.specs.declared.rated.Rated.{Rated}
use Rattle.rated.specs.declared.measure.Forcing.{Forcing}
use Rattle.rated.specs.Rates.{relaxed}

-- The batches of some windows, each from period 1 to the lower of its latest and its due period.
abbrev pub priced : List ℕ → List ℕ → List Window → List Batch
priced rs ds ws = map (λ p. record { earliest = 1; latest = min p.1.1.latest p.1.0; due = p.1.0; rate = p.0 }) (zip rs (zip ds ws))

-- b holds these batches of windows that fit the rule.
pub record Prices (r : Rated) (w : Windows) (b : Batches) : Type 0 where
  pub fits : same_size r.extent.batches r.extent.periods (length (set_of w).each) (set_of w).periods ≡ true
  pub batches : listed b ≡ priced (take r.extent.batches r.rates) (take r.extent.batches r.dues) (set_of w).each
  pub periods : last_of b ≡ (set_of w).periods

-- If the windows fit the rule, no schedule in the relaxed windows keeps the capacities.
abbrev pub NothingFits : Rated → Windows → Type 0
NothingFits r w = same_size r.extent.batches r.extent.periods (length (set_of w).each) (set_of w).periods ≡ true → (x : List ℕ) → Passes (within (take r.extent.periods r.capacities) 1) (relaxed (take r.extent.batches r.dues) (set_of w).each) x → ⊥

-- f forces the batches b within the capacities cs, up to the cap limit.
pub record Forces (f : Forcing) (b : Batches) (cs : List ℕ) (limit : ℕ) : Type 0 where
  pub same_batches : f.batches.now ≡ b
  pub same_capacities : f.capacities ≡ cs
  pub same_limit : f.limit ≡ limit

-- The batches of a forcing with every window opened to period 1, a schedule that fits them, and its charge by the rates.
abbrev pub opened_of : Forcing → List Batch
opened_of f = opened_list (listed f.batches.now)

abbrev pub FitsOpened : Forcing → List ℕ → Type 0
FitsOpened f x = Fits (opened_of f) f.capacities (last_of f.batches.now) x

abbrev pub charged : Forcing → List ℕ → ℕ
charged f x = charge (λ b. b.rate) (opened_of f) x

-- No schedule that fits has batch i in period v.
abbrev pub Unplaceable : Forcing → ℕ → ℕ → Type 0
Unplaceable f i v = (x : List ℕ) → FitsOpened f x → Has i v x → ⊥

-- Batch i is o, and it may go into period v with its window opened to period 1.
pub record MayGo (f : Forcing) (i v : ℕ) (o : Batch) : Type 0 where
  pub inside : i < length (listed f.batches.now)
  pub is : o ≡ at (listed f.batches.now) i
  pub starts : 1 ≤ v
  pub ends : v ≤ o.latest
  pub short : v ≤ last_of f.batches.now

-- a is the least charge of a schedule that fits and has batch i in period v.
pub record LeastWith (f : Forcing) (i v a : ℕ) : Type 0 where
  pub at : List ℕ
  pub fits : FitsOpened f at
  pub has : Has i v at
  pub is : charged f at ≡ a
  pub below : (y : List ℕ) → FitsOpened f y → Has i v y → a ≤ charged f y

-- A schedule that fits, with a charge up to the cap, has batch i in period v.
abbrev pub Affords : Forcing → ℕ → ℕ → Type 0
Affords f i v = (x : List ℕ) × FitsOpened f x × Has i v x × (charged f x ≤ f.limit)

-- Some batch has no such period in its window.
abbrev pub SomeUnaffordable : Forcing → List Window → Type 0
SomeUnaffordable f ws = (k : ℕ) × (k < length ws) × ((v : ℕ) → earliest_of ws k ≤ v → v ≤ latest_of ws k → Affords f k v → ⊥)

-- v is the first such period in the window of batch k, or the last.
pub record First (f : Forcing) (ws : List Window) (k v : ℕ) : Type 0 where
  pub starts : earliest_of ws k ≤ v
  pub ends : v ≤ latest_of ws k
  pub affords : Affords f k v
  pub before : (u : ℕ) → earliest_of ws k ≤ u → u < v → Affords f k u → ⊥

pub record Final (f : Forcing) (ws : List Window) (k v : ℕ) : Type 0 where
  pub starts : earliest_of ws k ≤ v
  pub ends : v ≤ latest_of ws k
  pub affords : Affords f k v
  pub after : (u : ℕ) → v < u → u ≤ latest_of ws k → Affords f k u → ⊥
