-- The outermost period of a batch in a good schedule, found by asking for each period in turn.
use Rattle.std.proofs.Common.{ℕ, ◌<◌, ◌≤◌, List, length, get_or, refl, ap, ⊎_elim, arith}
use Rattle.std.proofs.lemmas.Bool.{cases_lt}
use Rattle.std.proofs.lemmas.List.{get_or-take, length-take-le}
use Rattle.sweep.specs.Charges.{Has, no_batch}
use Rattle.sweep.specs.Held.{listed, last_of}
use Rattle.flat.specs.declared.ends.sought.Sought.{Sought}
use Rattle.flat.specs.Ends.{Good, Earliest, Latest}

module _ (s : Sought) (i : ℕ) (one : i < length (listed s.batches)) where
  -- No good schedule has the batch in period v.
  abbrev pub Never : ℕ → Type 0
  Never v = (x : List ℕ) → Good s x → Has i v x → ⊥

  here : i < s.batches.count
  here = let n = length-take-le s.batches.count s.batches.each (omega (arith, s.batches.long, s.batches.sound.few)) in omega arith

  pub starts_at : (x : List ℕ) → Good s x → 1 ≤ get_or x i 0
  starts_at x good = omega (arith, (good.fits.within i one).0, ap (λ b. b.earliest) (get_or-take s.batches.count s.batches.each i no_batch here), s.batches.sound.starts i here)

  pub ends_at : (x : List ℕ) → Good s x → get_or x i 0 ≤ last_of s.batches
  ends_at x good = omega (arith, (good.fits.within i one).1, ap (λ b. b.latest) (get_or-take s.batches.count s.batches.each i no_batch here), s.batches.sound.ends i here)

  has : (x : List ℕ) → Good s x → Has i (get_or x i 0) x
  has x good = (omega (arith, good.fits.size), refl)

  pub none_before : (t : ℕ) → ((v : ℕ) → 1 ≤ v → v < t → Never v) → (x : List ℕ) → Good s x → t ≤ get_or x i 0
  none_before t none x good = ⊎_elim (λ h. absurd (none (get_or x i 0) (starts_at x good) h x good (has x good))) (λ h. h) (cases_lt (get_or x i 0) t)

  pub none_after : (t : ℕ) → ((v : ℕ) → t < v → v ≤ last_of s.batches → Never v) → (x : List ℕ) → Good s x → get_or x i 0 ≤ t
  none_after t none x good = ⊎_elim (λ h. absurd (none (get_or x i 0) h (ends_at x good) x good (has x good))) (λ h. h) (cases_lt t (get_or x i 0))

  pub is_earliest : (x : List ℕ) (t : ℕ) → Good s x × Has i t x → ((v : ℕ) → 1 ≤ v → v < t → Never v) → Earliest s i x
  is_earliest x t got none = record { good = got.0; first = λ y good. omega (arith, got.1.1, none_before t none y good) }

  pub is_latest : (x : List ℕ) (t : ℕ) → Good s x × Has i t x → ((v : ℕ) → t < v → v ≤ last_of s.batches → Never v) → Latest s i x
  is_latest x t got none = record { good = got.0; final = λ y good. omega (arith, got.1.1, none_after t none y good) }
