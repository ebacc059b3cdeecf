-- What is known of windows asked for one by one, of periods that batches share, and of places in the table of charges.
use Rattle.std.proofs.Common.{◌≡◌, ℕ, ◌+◌, ◌-◌, ◌*◌, ◌<◌, ◌≤◌, true, false, not, List, length, take, replicate, Some, None, sym, ap, ◌∙◌, ⊎_elim, mul-le-mul_right, add-mul, arith}
use Rattle.std.specs.Prelude.{◌==◌, ◌≢◌, slice_index, slice_index_or}
use Rattle.std.specs.List.{list_any, range_with_len}
use Rattle.std.proofs.lemmas.List.{ext_get_or, length-take-le, get_or-take, length-replicate, get_or-replicate}
use Rattle.std.proofs.lemmas.List.FromFn.{length-range_with_len, get_or-range_with_len}
use Rattle.std.proofs.lemmas.Bool.{eq-eqb, ne_eqb, le-leb, and_from, cond-true, not_from_true, not_from_false, cases_Bool}
use Rattle.windows.specs.declared.window.Window.{Window}
use Rattle.windows.specs.WindowSets.{WindowSet, earliest_of, latest_of, nowhere}
use Rattle.windows.specs.Schedules.{count}
use Rattle.windows.specs.Filling.{window_asked}
use Rattle.windows.proofs.Hulls.{some_inj}
use Rattle.rule.proofs.Entries.{some_here, none_some}
use Rattle.flat.specs.Tests.{within}
use Rattle.flat.specs.Tested.{within_at, within_from}
use Rattle.reload.specs.declared.reload.Reload.{Reload}
use Rattle.reload.specs.Loads.{reload_charge, some_own_charge}
use Rattle.reload.specs.Rules.{wide, places_of}
use Rattle.reload.specs.Settled.{length_places, place_at}
use Rattle.reload.specs.Tables.{square_most}

-- A window that is asked for is there.
pub asked_at : (s : WindowSet) (k : ℕ) → k < length s.each → window_asked s (k + 1) ≡ Some (earliest_of s.each k, latest_of s.each k)
asked_at s k h =
    let z : k + 1 - 1 ≡ k = omega arith in
    cond-true _ _ None (and_from _ _ (le-leb 1 (k + 1) (omega arith)) (le-leb (k + 1) (length s.each) (omega arith))) ∙ ap (λ i. Some (earliest_of s.each i, latest_of s.each i)) z

-- A table that begins with the earliest periods.
pub places_taken : (ws : List Window) (ps : List ℕ) → length ws ≤ length ps → ((k : ℕ) → k < length ws → slice_index ps k ≡ earliest_of ws k) → take (length ws) ps ≡ places_of ws
places_taken ws ps long h =
    let l = length-take-le (length ws) ps long in
    ext_get_or 0 (take (length ws) ps) (places_of ws) (l ∙ sym (length_places ws)) (λ k b. (let c : k < length ws = omega arith in get_or-take (length ws) ps k 0 c ∙ h k c ∙ sym (place_at ws k c)))

pub wide_asked : (s : WindowSet) (k a b : ℕ) → k < length s.each → Some (a, b) ≡ window_asked s (k + 1) → (a ≢ b) → list_any wide s.each ≡ true
wide_asked s k a b h asked ne =
    let first = earliest_of s.each k in
    let final = latest_of s.each k in
    let is = some_inj (a, b) (first, final) (asked ∙ asked_at s k h) in
    some_here wide s.each nowhere k h (not_from_false (first == final) (ne_eqb first final (λ e. ne (ap (λ p. p.0) is ∙ e ∙ sym (ap (λ p. p.1) is)))))

-- A period with two batches, and periods with one batch at most.
pub crowded : (T t : ℕ) (x : List ℕ) → t < T → 1 < count (t + 1) x → within (replicate T 1) 1 x ≡ false
crowded T t x h two =
    let z : 1 + t ≡ t + 1 = omega arith in
    ⊎_elim (λ e. absurd (omega (arith, ap (λ s. count s x) z, within_at (replicate T 1) 1 x e t (omega (arith, length-replicate {A = ℕ} T 1)), get_or-replicate {A = ℕ} T t 1 0 h))) (λ e. e) (cases_Bool (within (replicate T 1) 1 x))

pub not_crowded : (T : ℕ) (x : List ℕ) → ((t : ℕ) → t < T → count (t + 1) x ≤ 1) → within (replicate T 1) 1 x ≡ true
not_crowded T x h = within_from (replicate T 1) 1 x (λ t b.
    (let c : t < T = omega (arith, length-replicate {A = ℕ} T 1) in
    let z : 1 + t ≡ t + 1 = omega arith in
    omega (arith, ap (λ s. count s x) z, h t c, get_or-replicate {A = ℕ} T t 1 0 c)))

-- Places in a square of K rows of K entries.
pub in_square : (K i j : ℕ) → i < K → j < K → i * K + j < K * K
in_square K i j h g = omega (arith, add-mul i 1 K, mul-le-mul_right {m = i + 1} {n = K} K (omega arith))

module _ (K : ℕ) (q : List ℕ) where
  own_at : (j : ℕ) → j < K → reload_charge K q (slice_index (range_with_len 1 K) j) (slice_index (range_with_len 1 K) j) ≡ slice_index q (j * K + j)
  own_at j h = let z : slice_index_or (range_with_len 1 K) j 0 - 1 ≡ j = omega (arith, get_or-range_with_len 1 K j 0 h) in ap (λ i. slice_index q (i * K + i)) z

  pub own_here : (j : ℕ) → j < K → (slice_index q (j * K + j) ≢ 0) → some_own_charge K q ≡ true
  own_here j h ne =
      some_here (λ a. not (reload_charge K q a a == 0)) (range_with_len 1 K) 0 j (omega (arith, length-range_with_len 1 K))
      (not_from_false (reload_charge K q (slice_index (range_with_len 1 K) j) (slice_index (range_with_len 1 K) j) == 0) (ne_eqb _ 0 (λ e. ne (sym (own_at j h) ∙ e))))

  pub none_own : ((j : ℕ) → j < K → slice_index q (j * K + j) ≡ 0) → some_own_charge K q ≡ false
  none_own all =
      none_some (λ a. not (reload_charge K q a a == 0)) (range_with_len 1 K) 0 (λ j b.
      (let h : j < K = omega (arith, length-range_with_len 1 K) in not_from_true (reload_charge K q (slice_index (range_with_len 1 K) j) (slice_index (range_with_len 1 K) j) == 0) (eq-eqb _ 0 (own_at j h ∙ all j h))))

-- Two kinds of a Reload have their charge in the table, which has no more than 64.
pub in_table : (r : Reload) (a b : ℕ) → (1 ≤ a) × (a ≤ r.kinds_count) → (1 ≤ b) × (b ≤ r.kinds_count) → (a - 1) * r.kinds_count + (b - 1) < r.kinds_count * r.kinds_count
in_table r a b c d = in_square r.kinds_count (a - 1) (b - 1) (omega (arith, c.0, c.1)) (omega (arith, d.0, d.1))

pub table_most : (r : Reload) → r.kinds_count * r.kinds_count ≤ 64
table_most r = square_most r.kinds_count r.eight
