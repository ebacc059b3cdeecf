-- What the tests say of each batch and each period.
use Rattle.std.specs.Prelude.{◌≡◌, ℕ, zero, suc, ◌+◌, ◌*◌, ◌<◌, ◌≤◌, Bool, true, List, [], ◌∷◌, length, ◌==◌, nat_le, slice_index, refl}
use Rattle.std.proofs.Common.{sym, ap, ◌∙◌, arith}
use Rattle.std.proofs.lemmas.Bool.{le-leb, leb-true, eqb-true, and_parts, and_from}
use Rattle.windows.specs.Schedules.{count}
use Rattle.flat.specs.Tests.{same_size, within, on_time, waited}
use Rattle.flat.specs.Rules.{slots_allows, flat_allows}

pub within_at : (cs : List ℕ) (t : ℕ) (x : List ℕ) → within cs t x ≡ true → (k : ℕ) → k < length cs → count (t + k) x ≤ slice_index cs k
within_at [] t x e k h = absurd (omega arith)
within_at (c ∷ cs) t x e zero h =
    let z : t + 0 ≡ t = omega arith in
    omega (arith, ap (λ a. count a x) z, leb-true (count t x) c (and_parts (nat_le (count t x) c) (within cs (t + 1) x) e).0)
within_at (c ∷ cs) t x e (suc k) h =
    let z : t + suc k ≡ t + 1 + k = omega arith in
    omega (arith, ap (λ a. count a x) z, within_at cs (t + 1) x (and_parts (nat_le (count t x) c) (within cs (t + 1) x) e).1 k (omega arith))

pub within_from : (cs : List ℕ) (t : ℕ) (x : List ℕ) → ((k : ℕ) → k < length cs → count (t + k) x ≤ slice_index cs k) → within cs t x ≡ true
within_from [] t x h = refl
within_from (c ∷ cs) t x h =
    and_from (nat_le (count t x) c) (within cs (t + 1) x)
    (le-leb (count t x) c (let z : t + 0 ≡ t = omega arith in omega (arith, ap (λ a. count a x) z, h 0 (omega arith))))
    (within_from cs (t + 1) x (λ k l. let z : t + suc k ≡ t + 1 + k = omega arith in omega (arith, ap (λ a. count a x) z, h (suc k) (omega arith))))

pub on_time_at : (ds x : List ℕ) → on_time ds x ≡ true → (k : ℕ) → k < length ds → slice_index x k ≤ slice_index ds k
on_time_at [] x e k h = absurd (omega arith)
on_time_at (d ∷ ds) [] e k h = omega arith
on_time_at (d ∷ ds) (v ∷ x) e zero h = leb-true v d (and_parts (nat_le v d) (on_time ds x) e).0
on_time_at (d ∷ ds) (v ∷ x) e (suc k) h = on_time_at ds x (and_parts (nat_le v d) (on_time ds x) e).1 k (omega arith)

pub on_time_from : (ds x : List ℕ) → length x ≡ length ds → ((k : ℕ) → k < length ds → slice_index x k ≤ slice_index ds k) → on_time ds x ≡ true
on_time_from [] [] e h = refl
on_time_from [] (v ∷ x) e h = absurd (omega arith)
on_time_from (d ∷ ds) [] e h = absurd (omega arith)
on_time_from (d ∷ ds) (v ∷ x) e h = and_from (nat_le v d) (on_time ds x) (le-leb v d (h 0 (omega arith))) (on_time_from ds x (omega arith) (λ k l. h (suc k) (omega arith)))

-- Due periods of at most 64 make a charge of at most 64 a batch.
pub waited_bound : (ds x : List ℕ) → ((k : ℕ) → k < length ds → slice_index ds k ≤ 64) → waited ds x ≤ 64 * length x
waited_bound [] x h = omega arith
waited_bound (d ∷ ds) [] h = omega arith
waited_bound (d ∷ ds) (v ∷ x) h = omega (arith, h 0 (omega arith), waited_bound ds x (λ k l. h (suc k) (omega arith)))

pub same_size_parts : (n T k P : ℕ) → same_size n T k P ≡ true → (k ≡ n) × (P ≡ T)
same_size_parts n T k P e = let p = and_parts (k == n) (P == T) e in (eqb-true k n p.0, eqb-true P T p.1)

-- A fit, or none, that was asked of numbers equal to these.
pub fit_known : (b : Bool) (n T k P j Q : ℕ) → b ≡ same_size n T j Q → j ≡ k → Q ≡ P → same_size n T k P ≡ b
fit_known b n T k P j Q e p q = ap (λ (i : ℕ). same_size n T i P) (sym p) ∙ ap (same_size n T j) (sym q) ∙ sym e

-- What Flat allows, and so does Slots where nothing is due.
pub record Allowed (n T : ℕ) (cs ds : List ℕ) (P : ℕ) (x : List ℕ) : Type 0 where
  pub prompt : on_time ds x ≡ true
  pub fits : same_size n T (length x) P ≡ true
  pub held : within cs 1 x ≡ true

pub allowed : (n T : ℕ) (cs ds : List ℕ) (P : ℕ) (x : List ℕ) → flat_allows n T cs ds P x ≡ true → Allowed n T cs ds P x
allowed n T cs ds P x e =
    let p = and_parts (on_time ds x) (slots_allows n T cs P x) e in
    let q = and_parts (same_size n T (length x) P) (within cs 1 x) p.1 in
    record { prompt = p.0; fits = q.0; held = q.1 }

pub allows : (n T : ℕ) (cs ds : List ℕ) (P : ℕ) (x : List ℕ) → Allowed n T cs ds P x → flat_allows n T cs ds P x ≡ true
allows n T cs ds P x a = and_from (on_time ds x) (slots_allows n T cs P x) a.prompt (and_from (same_size n T (length x) P) (within cs 1 x) a.fits a.held)
