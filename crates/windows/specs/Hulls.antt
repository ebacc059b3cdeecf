-- What a hull is, and what a least is, without listing anything.
use Rattle.std.specs.Prelude.{◌≡◌, ℕ, ◌<◌, ◌≤◌, Bool, true, ◌⊎◌, List, [], ◌∷◌, length, slice_index}
use Rattle.windows.specs.declared.window.Window.{Window}
use Rattle.windows.specs.WindowSets.{Lies, earliest_of, latest_of}

abbrev pub Among : {X : Type 0} → X → List X → Type 0
Among x [] = ⊥
Among x (y ∷ ys) = (y ≡ x) ⊎ Among x ys

-- vs is the hull of the schedules of which P holds: there is one, all lie in vs, and each end of each window is taken by one.
pub record Hull (P : List ℕ → Type 0) (vs : List Window) : Type 0 where
  pub some : (x : List ℕ) × P x
  pub lies : (x : List ℕ) → P x → Lies x vs
  pub first : (k : ℕ) → k < length vs → (x : List ℕ) × P x × (slice_index x k ≡ earliest_of vs k)
  pub final : (k : ℕ) → k < length vs → (x : List ℕ) × P x × (slice_index x k ≡ latest_of vs k)

-- a is the least of the numbers.
pub record Least (xs : List ℕ) (a : ℕ) : Type 0 where
  pub attained : Among a xs
  pub below : (b : ℕ) → Among b xs → a ≤ b

-- A schedule that lies in windows and passes a test.
abbrev pub Passes : (List ℕ → Bool) → List Window → List ℕ → Type 0
Passes p ws x = Lies x ws × (p x ≡ true)

-- a is the least charge of the schedules that lie in windows and pass a test.
pub record Cheapest (charge : List ℕ → ℕ) (p : List ℕ → Bool) (ws : List Window) (a : ℕ) : Type 0 where
  pub at : List ℕ
  pub passes : Passes p ws at
  pub is : charge at ≡ a
  pub below : (y : List ℕ) → Passes p ws y → a ≤ charge y
