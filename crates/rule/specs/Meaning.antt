-- What a rule means, and the laws of every rule.
use Rattle.std.specs.Prelude.{◌≡◌, ℕ, ◌≤◌, Bool, true, false, List, length, Some, None, Option}
use Rattle.windows.specs.WindowSets.{WindowSet, Lies, Inside, Single, Proper}

-- The greatest charge and cap, C.
abbrev pub max_charge : ℕ
max_charge = 1000000000000

-- The five parts of a rule.
pub record Meaning : Type 0 where
  -- whether it fits windows of n batches and T periods
  pub fits : ℕ → ℕ → Bool
  -- whether it allows a schedule over T periods
  pub allows : ℕ → List ℕ → Bool
  -- the charge of a schedule over T periods
  pub charge : ℕ → List ℕ → ℕ
  -- a floor: a charge that no allowed schedule in the windows goes below
  pub floor : WindowSet → ℕ
  -- a cut of the windows under a cap: narrower windows that keep every allowed schedule up to the cap, or none
  pub cut : WindowSet → ℕ → Option WindowSet

-- The laws, for every proper set of windows and every cap up to C.
pub record Lawful (m : Meaning) : Type 0 where
  -- an allowed schedule has a size that fits, and a charge of at most C
  pub sized : (T : ℕ) (x : List ℕ) → m.allows T x ≡ true → (m.fits (length x) T ≡ true) × (m.charge T x ≤ max_charge)
  -- a floor is at most C, and not above the charge of any allowed schedule in the windows
  pub floor_top : (w : WindowSet) → Proper w → m.floor w ≤ max_charge
  pub floor_below : (w : WindowSet) (x : List ℕ) → Proper w → Lies x w.each → m.allows w.periods x ≡ true → m.floor w ≤ m.charge w.periods x
  -- if every window is one period and that schedule is allowed, the floor is its charge
  pub floor_single : (w : WindowSet) (x : List ℕ) → Proper w → Single w.each x → m.allows w.periods x ≡ true → m.floor w ≡ m.charge w.periods x
  -- the floor of windows that don't fit is C
  pub floor_unfit : (w : WindowSet) → Proper w → m.fits (length w.each) w.periods ≡ false → m.floor w ≡ max_charge
  -- a cut is a proper set of windows inside the given ones
  pub cut_inside : (w v : WindowSet) (limit : ℕ) → Proper w → limit ≤ max_charge → m.cut w limit ≡ Some v → (v.periods ≡ w.periods) × Inside v.each w.each × Proper v
  -- a cut keeps every allowed schedule in the windows with a charge up to the cap
  pub cut_keeps : (w v : WindowSet) (limit : ℕ) (x : List ℕ) → Proper w → limit ≤ max_charge → m.cut w limit ≡ Some v → Lies x w.each → m.allows w.periods x ≡ true → m.charge w.periods x ≤ limit → Lies x v.each
  -- a cut is none only if there is no such schedule
  pub cut_none : (w : WindowSet) (limit : ℕ) (x : List ℕ) → Proper w → limit ≤ max_charge → m.cut w limit ≡ None → Lies x w.each → m.allows w.periods x ≡ true → m.charge w.periods x ≤ limit → ⊥
  -- if every window is one period, the cut is none exactly if that schedule is not allowed or is above the cap: with the law
  -- above, a cut that is not none says that it is allowed and within the cap
  pub cut_single : (w v : WindowSet) (limit : ℕ) (x : List ℕ) → Proper w → limit ≤ max_charge → Single w.each x → m.cut w limit ≡ Some v → (m.allows w.periods x ≡ true) × (m.charge w.periods x ≤ limit)
