-- Batches with one window narrowed to a period.
use Rattle.std.proofs.Common.{◌≡◌, ℕ, zero, suc, ◌-◌, ◌*◌, ◌≤◌, List, [], ◌∷◌, length, get_or, take, set, Some, None, Option, sym, refl, ap, ◌∙◌, subst, ⊎_elim, arith, slice_get, length-set, get_or-set_other, get_or-set_same, MatchOption}
use lib.Seq.{take-set-lt}
use Rattle.std.proofs.lemmas.Bool.{cases_eq}
use Rattle.std.proofs.lemmas.Option.{slice_get_within, get_or_from_slice_get}
use Rattle.line.specs.declared.batch.Batch.{Batch}
use Rattle.sweep.specs.declared.batches.Batches.{Batches}
use Rattle.sweep.specs.Charges.{no_batch, at, earliest_at, latest_at, Fits, Has, Impossible, cost, charge, Cheapest, Forced, narrowed, InWindow, pinned}
use Rattle.sweep.specs.Held.{listed}
use Rattle.sweep.proofs.Sounds.{length_listed}

-- a table in which one batch that is listed has a narrowed window lists the batches so
pub pinned_listed : (b : Batches) (i v : ℕ) (o : Batch) → slice_get (listed b) i ≡ Some o → take b.count (set b.each i (narrowed o v)) ≡ pinned (listed b) i v
pinned_listed b i v o e =
    take-set-lt b.count b.each i (narrowed o v) (omega (arith, slice_get_within (listed b) i o e, length_listed b)) ∙
    ap (λ a. set (listed b) i (narrowed a v)) (sym (get_or_from_slice_get (listed b) i o no_batch e))

-- a batch that is listed has the periods of its window
pub in_window : (bs : List Batch) (i v : ℕ) (o : Batch) → slice_get bs i ≡ Some o → o.earliest ≤ v → v ≤ o.latest → InWindow bs i v
in_window bs i v o e low high =
    let is = get_or_from_slice_get bs i o no_batch e in
    (slice_get_within bs i o e, omega (arith, ap (λ b. b.earliest) is), omega (arith, ap (λ b. b.latest) is))

-- what is charged does not depend on the windows
cost_set : (f : Batch → ℕ → ℕ) (bs : List Batch) (i : ℕ) (b : Batch) → ((v : ℕ) → f b v ≡ f (at bs i) v) → (x : List ℕ) → cost f (set bs i b) x ≡ cost f bs x
cost_set f [] i b e x = refl
cost_set f (a ∷ bs) zero b e [] = refl
cost_set f (a ∷ bs) zero b e (v ∷ x) = omega (arith, e v)
cost_set f (a ∷ bs) (suc i) b e [] = refl
cost_set f (a ∷ bs) (suc i) b e (v ∷ x) = omega (arith, cost_set f bs i b e x)

module _ (bs : List Batch) (cs : List ℕ) (last i v : ℕ) (goes : InWindow bs i v) where
  here : at (pinned bs i v) i ≡ narrowed (at bs i) v
  here = get_or-set_same bs i (narrowed (at bs i) v) no_batch goes.0

  other : (k : ℕ) → (k ≡ i → ⊥) → at (pinned bs i v) k ≡ at bs k
  other k ne = get_or-set_other bs i k (narrowed (at bs i) v) no_batch ne

  size : length (pinned bs i v) ≡ length bs
  size = length-set bs i (narrowed (at bs i) v)

  same_charge : (x : List ℕ) → charge (λ _. 1) (pinned bs i v) x ≡ charge (λ _. 1) bs x
  same_charge x = cost_set (λ b v. 1 * (b.due - v)) bs i (narrowed (at bs i) v) (λ v. refl) x

  -- the schedules of the narrowed batches are those of the batches that have batch i in period v
  fits_pinned : (x : List ℕ) → Fits bs cs last x → Has i v x → Fits (pinned bs i v) cs last x
  fits_pinned x ok has = record {
    size = ok.size ∙ sym size;
    within = λ k h. ⊎_elim
        (λ e. (omega (arith, ap (λ a. earliest_at (pinned bs i v) a) e, ap (λ b. b.earliest) here, ap (λ a. get_or x a 0) e, has.1), omega (arith, ap (λ a. latest_at (pinned bs i v) a) e, ap (λ b. b.latest) here, ap (λ a. get_or x a 0) e, has.1)))
        (λ ne. subst (λ b. (b.earliest ≤ get_or x k 0) × (get_or x k 0 ≤ b.latest)) (sym (other k ne)) (ok.within k (omega (arith, size))))
        (cases_eq k i);
    fits = ok.fits;
  }

  has_pinned : (x : List ℕ) → Fits (pinned bs i v) cs last x → Has i v x
  has_pinned x ok =
      let w = ok.within i (omega (arith, size)) in
      (omega (arith, ok.size, size), omega (arith, w.0, w.1, ap (λ b. b.earliest) here, ap (λ b. b.latest) here))

  fits_free : (x : List ℕ) → Fits (pinned bs i v) cs last x → Fits bs cs last x
  fits_free x ok = record {
    size = ok.size ∙ size;
    within = λ k h. ⊎_elim
        (λ e. (omega (arith, ap (λ a. earliest_at bs a) e, ap (λ a. get_or x a 0) e, (has_pinned x ok).1), omega (arith, ap (λ a. latest_at bs a) e, ap (λ a. get_or x a 0) e, (has_pinned x ok).1)))
        (λ ne. subst (λ b. (b.earliest ≤ get_or x k 0) × (get_or x k 0 ≤ b.latest)) (other k ne) (ok.within k (omega (arith, size))))
        (cases_eq k i);
    fits = ok.fits;
  }

  forced : (p : List ℕ) → Cheapest (λ _. 1) (pinned bs i v) cs last p → Forced (λ _. 1) bs cs last i v p
  forced p cheap =
      let ok = subst (λ m. Fits (pinned bs i v) cs last (take m p)) size cheap.fits in
      record {
        long = cheap.long;
        fits = fits_free (take (length bs) p) ok;
        has = has_pinned (take (length bs) p) ok;
        least = λ x fits has. omega (arith, cheap.least x (fits_pinned x fits has), same_charge x, same_charge (take (length bs) p), ap (λ m. charge (λ _. 1) (pinned bs i v) (take m p)) size);
      }

  -- the cheapest schedule of the narrowed batches is the cheapest with batch i in period v
  pub forced_answer : (r : Option (List ℕ)) → MatchOption r (Impossible (pinned bs i v) cs last) (λ p. Cheapest (λ _. 1) (pinned bs i v) cs last p) →
      MatchOption r ((x : List ℕ) → Fits bs cs last x → Has i v x → ⊥) (λ p. Forced (λ _. 1) bs cs last i v p)
  forced_answer (Some p) h = forced p h
  forced_answer None h = λ x ok has. h x (fits_pinned x ok has)
