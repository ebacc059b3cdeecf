-- A charge falls as a worth rises.
use Rattle.std.proofs.Common.{◌≡◌, ℕ, suc, ◌+◌, ◌-◌, ◌*◌, ◌<◌, ◌≤◌, Bool, List, [], ◌∷◌, length, get_or, take, Some, None, Option, sym, refl, ap, ◌∙◌, subst, mul-le-mul_right, zero-add, mul-add, arith, min, MatchOption, sum_by}
use Rattle.std.specs.List.{zip}
use Rattle.std.proofs.lemmas.List.Sums.{sum_by-cons}
use Rattle.line.specs.declared.batch.Batch.{Batch}
use Rattle.sweep.specs.Feasible.{total}
use Rattle.sweep.specs.Charges.{at, cost, charge, Fits, Cheapest, Sound}
use Rattle.sweep.specs.Turns.{Suits, Best}

-- the charge and the worth of a schedule add up to what does not depend on it
charge_worth : (w d : ℕ → ℕ) (j : ℕ) (x : List ℕ) → ((k : ℕ) → k < length x → get_or x k 0 ≤ d (j + k)) → total (λ k v. w k * (d k - v)) j x + total (λ k v. w k * v) j x ≡ total (λ k _. w k * d k) j x
charge_worth w d j [] h = refl
charge_worth w d j (v ∷ x) h =
    let le : v ≤ d j = subst (λ a. v ≤ d a) (omega arith) (h 0 (omega arith)) in
    let back : d j - v + v ≡ d j = omega arith in
    let one = (sym (mul-add (w j) (d j - v) v) ∙ ap (λ a. w j * a) back) in
    let rest = charge_worth w d (suc j) x (λ k lt. subst (λ a. get_or x k 0 ≤ d a) (omega arith) (h (suc k) (omega arith))) in
    omega (arith, one, rest)

total_fixed : (c : ℕ → ℕ) (j : ℕ) (x y : List ℕ) → length x ≡ length y → total (λ k _. c k) j x ≡ total (λ k _. c k) j y
total_fixed c j [] [] e = refl
total_fixed c j [] (b ∷ y) e = absurd (omega arith)
total_fixed c j (a ∷ x) [] e = absurd (omega arith)
total_fixed c j (a ∷ x) (b ∷ y) e = omega (arith, total_fixed c (suc j) x y (omega arith))

total_shift : (f : ℕ → ℕ → ℕ) (j : ℕ) (x : List ℕ) → total (λ k. f (suc k)) j x ≡ total f (suc j) x
total_shift f j [] = refl
total_shift f j (v ∷ x) = omega (arith, total_shift f (suc j) x)

-- a cost is a total over places
cost_total : (g : Batch → ℕ → ℕ) (bs : List Batch) (x : List ℕ) → length x ≡ length bs → cost g bs x ≡ total (λ k v. g (at bs k) v) 0 x
cost_total g [] [] e = refl
cost_total g [] (v ∷ x) e = absurd (omega arith)
cost_total g (b ∷ bs) [] e = absurd (omega arith)
cost_total g (b ∷ bs) (v ∷ x) e = omega (arith, cost_total g bs x (omega arith), total_shift (λ k v. g (at (b ∷ bs) k) v) 0 x)

-- a sum over the batches with their periods is a cost
cost_sum : (g : Batch → ℕ → ℕ) (bs : List Batch) (x : List ℕ) → sum_by (λ (p : Batch × ℕ). g p.0 p.1) (zip bs x) ≡ cost g bs (take (length bs) x)
cost_sum g [] x = refl
cost_sum g (b ∷ bs) [] = refl
cost_sum g (b ∷ bs) (v ∷ x) = omega (arith, cost_sum g bs x, sum_by-cons (λ (p : Batch × ℕ). g p.0 p.1) (b, v) (zip bs x))

pub charge_sum : (w : Batch → ℕ) (bs ls : List Batch) (x : List ℕ) → ls ≡ bs → sum_by (λ (p : Batch × ℕ). w p.0 * (p.0.due - p.1)) (zip ls x) ≡ charge w bs (take (length bs) x)
charge_sum w bs ls x e = rw e (cost_sum (λ b v. w b * (b.due - v)) bs x)

-- a sum over the batches with their periods, none of which gives more than m
pub small_sum : (bs : List Batch) (x : List ℕ) (m : ℕ) (f : Batch × ℕ → ℕ) → sum_by (λ (p : Batch × ℕ). min (f p) m) (zip bs x) ≤ length bs * m
small_sum [] x m f = omega arith
small_sum (b ∷ bs) [] m f = omega arith
small_sum (b ∷ bs) (v ∷ x) m f = omega (arith, small_sum bs x m f, sum_by-cons (λ (p : Batch × ℕ). min (f p) m) (b, v) (zip bs x))

module _ {E : Type 0} (leads : E → E → Bool) (made : Batch → ℕ → E) (bs : List Batch) (cs : List ℕ) (last : ℕ) (w : Batch → ℕ)
    (sound : Sound (length bs) last bs) (suits : Suits leads made bs (λ k v. w (at bs k) * v)) where
  whole : (x : List ℕ) → Fits bs cs last x → charge w bs x + total (λ k v. w (at bs k) * v) 0 x ≡ total (λ k _. w (at bs k) * (at bs k).due) 0 x
  whole x ok =
      ap (λ a. a + total (λ k v. w (at bs k) * v) 0 x) (cost_total (λ b v. w b * (b.due - v)) bs x ok.size) ∙
      charge_worth (λ k. w (at bs k)) (λ k. (at bs k).due) 0 x (λ k h. subst (λ a. get_or x k 0 ≤ (at bs a).due) (sym (zero-add k)) (omega (arith, ok.within k (omega (arith, ok.size)), sound.timely k (omega (arith, ok.size)))))

  cheapest : (p : List ℕ) → Best leads made bs cs last p → Cheapest w bs cs last p
  cheapest p best = record {
    long = best.long;
    fits = best.fits;
    least = λ x ok. omega (arith, best.most (λ k v. w (at bs k) * v) suits x ok, whole x ok, whole (take (length bs) p) best.fits, total_fixed (λ k. w (at bs k) * (at bs k).due) 0 x (take (length bs) p) (ok.size ∙ sym best.fits.size));
  }

  -- what is worth most is charged least
  pub answered : (P : Type 0) (r : Option (List ℕ)) → MatchOption r P (λ p. Best leads made bs cs last p) → MatchOption r P (λ p. Cheapest w bs cs last p)
  answered P (Some p) h = cheapest p h
  answered P None h = h

-- the greater rate gains more by going later
pub rate_gains : (a b u t : ℕ) → a ≤ b → u < t → b * u + a * t ≤ b * t + a * u
rate_gains a b u t le lt =
    let back : u + (t - u) ≡ t = omega arith in
    let ea = (sym (mul-add a u (t - u)) ∙ ap (λ z. a * z) back) in
    let eb = (sym (mul-add b u (t - u)) ∙ ap (λ z. b * z) back) in
    let more : a * (t - u) ≤ b * (t - u) = mul-le-mul_right _ le in
    omega arith
