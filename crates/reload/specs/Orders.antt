-- The kinds that a schedule brings, batch by batch and period by period, and a bound on what they draw.
use Rattle.std.specs.Prelude.{◌≡◌, ℕ, suc, ◌+◌, ◌-◌, ◌*◌, ◌<◌, ◌≤◌, true, false, cond, List, [], ◌∷◌, ◌++◌, length, drop, Some, None, Option, ◌==◌, nat_eq, slice_index}
use Rattle.std.proofs.Common.{ap, ◌∙◌, ⊎_elim, arith}
use Rattle.std.specs.List.{range_with_len}
use Rattle.std.proofs.lemmas.List.{length-append, get_or_past, drop_more, drop_all}
use Rattle.std.proofs.lemmas.List.FromFn.{length-range_with_len}
use Rattle.std.proofs.lemmas.Bool.{cases_lt, cond_both, cond-true, cond-false}
use Rattle.windows.specs.Schedules.{joined}
use Rattle.reload.specs.Loads.{kinds_at, in_order, reload_charge, drawn, reloads, reloads_of}

-- A period brings at most a kind a batch.
length_kinds_at : (t : ℕ) (ks x : List ℕ) → length (kinds_at t ks x) ≤ length x
length_kinds_at t [] x = omega arith
length_kinds_at t (k ∷ ks) [] = omega arith
length_kinds_at t (k ∷ ks) (v ∷ x) =
    let m = length_kinds_at t ks x in
    cond_both (v == t) (k ∷ kinds_at t ks x) (kinds_at t ks x) (λ l. length l ≤ suc (length x)) (λ _. omega arith) (λ _. omega arith)

length_joined : (ks x ts : List ℕ) → length x ≤ 32 → length (joined (λ t. kinds_at t ks x) ts) ≤ 32 * length ts
length_joined ks x [] few = omega arith
length_joined ks x (t ∷ ts) few = omega (arith, length-append (kinds_at t ks x) (joined (λ s. kinds_at s ks x) ts), length_kinds_at t ks x, length_joined ks x ts few)

module _ (K : ℕ) (q : List ℕ) (low : (k : ℕ) → k < length q → slice_index q k ≤ 10000) where
  charge_most : (a b : ℕ) → reload_charge K q a b ≤ 10000
  charge_most a b =
      let i = (a - 1) * K + (b - 1) in
      ⊎_elim (λ h. low i h) (λ h. omega (arith, get_or_past q i 0 h)) (cases_lt i (length q))

  drawn_most : (before : Option ℕ) (b : ℕ) → drawn K q before b ≤ 10000
  drawn_most None b = omega arith
  drawn_most (Some a) b = charge_most a b

  reloads_most : (before : Option ℕ) (ks : List ℕ) → reloads K q before ks ≤ 10000 * length ks
  reloads_most before [] = omega arith
  reloads_most before (b ∷ ks) = omega (arith, drawn_most before b, reloads_most (Some b) ks)

  -- A schedule of up to 32 batches over up to 64 periods.
  pub charge_bound : (P : ℕ) (ks x : List ℕ) → P ≤ 64 → length x ≤ 32 → reloads_of K ks q P x ≤ 20480000
  charge_bound P ks x most few = omega (arith, reloads_most None (in_order P ks x), length_joined ks x (range_with_len 1 P) few, length-range_with_len 1 P)

-- The kinds from period t on, of T periods.
abbrev pub kinds_after : ℕ → List ℕ → List ℕ → ℕ → List ℕ
kinds_after T ks x t = joined (λ s. kinds_at s ks x) (range_with_len t (T + 1 - t))

-- The kinds from batch k of period t on.
abbrev pub kinds_from : ℕ → List ℕ → List ℕ → ℕ → ℕ → List ℕ
kinds_from T ks x t k = kinds_at t (drop k ks) (drop k x) ++ kinds_after T ks x (t + 1)

pub all_kinds : (T : ℕ) (ks x : List ℕ) → kinds_after T ks x 1 ≡ in_order T ks x
all_kinds T ks x = let z : T + 1 - 1 ≡ T = omega arith in ap (λ m. joined (λ s. kinds_at s ks x) (range_with_len 1 m)) z

pub no_kinds : (T : ℕ) (ks x : List ℕ) (t : ℕ) → T < t → kinds_after T ks x t ≡ []
no_kinds T ks x t h = let z : T + 1 - t ≡ 0 = omega arith in ap (λ m. joined (λ s. kinds_at s ks x) (range_with_len t m)) z

pub period_opens : (T : ℕ) (ks x : List ℕ) (t : ℕ) → t ≤ T → kinds_after T ks x t ≡ kinds_from T ks x t 0
period_opens T ks x t h = let z : T + 1 - t ≡ suc (T + 1 - (t + 1)) = omega arith in ap (λ m. joined (λ s. kinds_at s ks x) (range_with_len t m)) z

pub period_closes : (T : ℕ) (ks x : List ℕ) (t k : ℕ) → length ks ≤ k → kinds_from T ks x t k ≡ kinds_after T ks x (t + 1)
period_closes T ks x t k h = ap (λ l. kinds_at t l (drop k x) ++ kinds_after T ks x (t + 1)) (drop_all k ks h)

module _ (T : ℕ) (ks x : List ℕ) (t k : ℕ) (a : k < length ks) (b : k < length x) where
  next_batch : kinds_from T ks x t k ≡ cond (slice_index x k == t) (slice_index ks k ∷ kinds_at t (drop (k + 1) ks) (drop (k + 1) x)) (kinds_at t (drop (k + 1) ks) (drop (k + 1) x)) ++ kinds_after T ks x (t + 1)
  next_batch = ap (λ l. kinds_at t l (drop k x) ++ kinds_after T ks x (t + 1)) (drop_more ks k 0 a) ∙ ap (λ l. kinds_at t (slice_index ks k ∷ drop (k + 1) ks) l ++ kinds_after T ks x (t + 1)) (drop_more x k 0 b)

  pub batch_brings : nat_eq (slice_index x k) t ≡ true → kinds_from T ks x t k ≡ slice_index ks k ∷ kinds_from T ks x t (k + 1)
  batch_brings e = next_batch ∙ ap (λ l. l ++ kinds_after T ks x (t + 1)) (cond-true _ (slice_index ks k ∷ kinds_at t (drop (k + 1) ks) (drop (k + 1) x)) _ e)

  pub batch_elsewhere : nat_eq (slice_index x k) t ≡ false → kinds_from T ks x t k ≡ kinds_from T ks x t (k + 1)
  batch_elsewhere e = next_batch ∙ ap (λ l. l ++ kinds_after T ks x (t + 1)) (cond-false _ (slice_index ks k ∷ kinds_at t (drop (k + 1) ks) (drop (k + 1) x)) _ e)
