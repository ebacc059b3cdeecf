-- The exchange over batches, for every worth that suits the order.
use Rattle.std.proofs.Common.{◌≡◌, ℕ, ◌+◌, ◌-◌, ◌<◌, ◌≤◌, Bool, List, length, get_or, set, replicate, arith}
use Rattle.line.specs.declared.batch.Batch.{Batch}
use Rattle.sweep.specs.declared.batches.Batches.{Batches}
use Rattle.sweep.specs.Charges.{earliest_at, latest_at, capacity_at, Impossible, Sound}
use Rattle.sweep.specs.Held.{listed, last_of}
use Rattle.sweep.specs.Turns.{LatestFirst, Suits, Next, Best}
use Rattle.sweep.proofs.Exchange.{Sweep, Over, start, put, close, stuck, done_fits, done_most}
use Rattle.sweep.proofs.Sounds.{listed_sound}

-- what holds of the placements p while period t has `room` left
abbrev pub Going : {E : Type 0} → (E → E → Bool) → (Batch → ℕ → E) → Batches → List ℕ → ℕ → ℕ → List ℕ → Type 0
Going leads made b cs t room p =
    (f : ℕ → ℕ → ℕ) → Suits leads made (listed b) f → Sweep (length (listed b)) (last_of b) (earliest_at (listed b)) (latest_at (listed b)) (capacity_at cs) f t room p

-- period t is done
abbrev pub Filled : Batches → ℕ → ℕ → List ℕ → Type 0
Filled b t room p = Over (length (listed b)) (latest_at (listed b)) t room p

module _ {E : Type 0} (leads : E → E → Bool) (made : Batch → ℕ → E) (b : Batches) (cs : List ℕ) where
  abbrev bs : List Batch
  bs = listed b

  sound : Sound (length bs) (last_of b) bs
  sound = listed_sound b

  -- a worth that always suits
  flat : Suits leads made bs (λ _ _. 0)
  flat = record { rises = λ i u t _ _. omega arith; swaps = λ i k u t _ _ _ _. omega arith }

  pub going_start : Going leads made b cs (last_of b) (capacity_at cs (last_of b)) (replicate 32 0)
  going_start f _ = start (length bs) (last_of b) (earliest_at bs) (latest_at bs) (capacity_at cs) f 32 sound.few (λ k h. (sound.holds k h, sound.ends k h))

  pub going_put : LatestFirst leads made bs → (t room left i : ℕ) (p : List ℕ) → Going leads made b cs t room p → 1 ≤ t → left + 1 ≡ room → Next leads made bs p t i → Going leads made b cs t left (set p i t)
  going_put order t room left i p go pos one goes f suits =
      put (length bs) (last_of b) (earliest_at bs) (latest_at bs) (capacity_at cs) f t room left i p (go f suits) pos one goes.inside goes.waits.0 goes.waits.1
      (λ u le. suits.rises i u t goes.inside le)
      (λ k h pk upto u low below.
      let behind = goes.unled k h (pk, upto) in
      (omega (arith, order i k goes.inside h behind), suits.swaps i k u t goes.inside h behind below))

  pub going_close : (t room : ℕ) (p : List ℕ) → Going leads made b cs t room p → 1 ≤ t → Filled b t room p → ((k : ℕ) → k < length bs → get_or p k 0 ≡ 0 → earliest_at bs k < t) → Going leads made b cs (t - 1) (capacity_at cs (t - 1)) p
  going_close t room p go pos filled under f suits = close (length bs) (last_of b) (earliest_at bs) (latest_at bs) (capacity_at cs) f t room p (go f suits) pos filled under

  pub going_stuck : (t room : ℕ) (p : List ℕ) → Going leads made b cs t room p → 1 ≤ t → Filled b t room p → (k : ℕ) × (k < length bs) × (get_or p k 0 ≡ 0) × (t ≤ earliest_at bs k) → Impossible bs cs (last_of b)
  going_stuck t room p go pos filled k = stuck (length bs) (last_of b) (earliest_at bs) (latest_at bs) (capacity_at cs) _ t room k.0 p (go _ flat) pos filled k.1 k.2 k.3

  pub going_done : (room : ℕ) (p : List ℕ) → length p ≡ 32 → Going leads made b cs 0 room p → Best leads made bs cs (last_of b) p
  going_done room p long go = record {
    long = long;
    fits = done_fits (length bs) (last_of b) (earliest_at bs) (latest_at bs) (capacity_at cs) _ room p (go _ flat) sound.starts;
    most = λ f suits. done_most (length bs) (last_of b) (earliest_at bs) (latest_at bs) (capacity_at cs) f room p (go f suits);
  }
