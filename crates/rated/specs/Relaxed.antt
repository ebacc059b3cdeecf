-- Relaxed windows, one window forced to a period, and the charge by the rates.
use Rattle.std.specs.Prelude.{◌≡◌, ℕ, suc, ◌-◌, ◌*◌, ◌<◌, ◌≤◌, min, true, List, [], ◌∷◌, length, get_or, nat_le, slice_index, slice_index_or, slice_set, refl}
use Rattle.std.proofs.Common.{sym, ap, ◌∙◌, ⊎_elim, mul-le-mul, mul-le-mul_left, arith, length-set, get_or-set_same, get_or-set_other}
use Rattle.std.specs.List.{zip}
use Rattle.std.proofs.lemmas.List.{length-map, get_or-map}
use Rattle.std.proofs.lemmas.Slice.Zip.{length-zip, get_or-zip}
use Rattle.std.proofs.lemmas.Bool.{cases_eq, and_parts, false≢true}
use Rattle.windows.specs.declared.window.Window.{Window}
use Rattle.windows.specs.WindowSets.{Lies, window, nowhere, earliest_of, latest_of}
use Rattle.flat.specs.Tests.{on_time}
use Rattle.flat.specs.Tested.{on_time_at}
use Rattle.rated.specs.Rates.{spent, relaxed}

pub length_relaxed : (ds : List ℕ) (ws : List Window) → length ds ≡ length ws → length (relaxed ds ws) ≡ length ws
length_relaxed ds ws e = omega (arith, length-map (zip ds ws) (λ p. window 1 (min p.1.latest p.0)), length-zip ds ws)

pub relaxed_short : (ds : List ℕ) (ws : List Window) → length (relaxed ds ws) ≤ length ws
relaxed_short ds ws = omega (arith, length-map (zip ds ws) (λ p. window 1 (min p.1.latest p.0)), length-zip ds ws)

pub relaxed_at : (ds : List ℕ) (ws : List Window) (k : ℕ) → length ds ≡ length ws → k < length ws → slice_index_or (relaxed ds ws) k nowhere ≡ window 1 (min (latest_of ws k) (slice_index ds k))
relaxed_at ds ws k e h =
    let f : ℕ × Window → Window = λ p. window 1 (min p.1.latest p.0) in
    get_or-map f (zip ds ws) k (0, nowhere) nowhere (omega (arith, length-zip ds ws)) ∙ ap f (get_or-zip ds ws k (0, nowhere) (omega arith) h)

pub on_time_long : (ds x : List ℕ) → on_time ds x ≡ true → length ds ≡ length x
on_time_long [] [] e = refl
on_time_long [] (v ∷ x) e = absurd (false≢true e)
on_time_long (d ∷ ds) [] e = absurd (false≢true e)
on_time_long (d ∷ ds) (v ∷ x) e = ap suc (on_time_long ds x (and_parts (nat_le v d) (on_time ds x) e).1)

-- A schedule that is on time lies in the relaxed windows too.
pub relaxed_lies : (ds x : List ℕ) (ws : List Window) → on_time ds x ≡ true → Lies x ws → ((k : ℕ) → k < length ws → 1 ≤ earliest_of ws k) → Lies x (relaxed ds ws)
relaxed_lies ds x ws o l s =
    let size = l.same_size in
    let even : length ds ≡ length ws = on_time_long ds x o ∙ size in
    let long = length_relaxed ds ws even in
    record {
      same_size = omega arith;
      not_before = λ k h. omega (arith, ap (λ w. w.earliest) (relaxed_at ds ws k even (omega arith)), s k (omega arith), l.not_before k (omega arith));
      not_after = λ k h. omega (arith, ap (λ w. w.latest) (relaxed_at ds ws k even (omega arith)), l.not_after k (omega arith), on_time_at ds x o k (omega arith));
    }

-- One window forced to a period.
module _ (vs : List Window) (i v : ℕ) (inside : i < length vs) where
  forced_here : (k : ℕ) → k ≡ i → slice_index_or (slice_set vs i (window v v)) k nowhere ≡ window v v
  forced_here k e = ap (λ j. get_or (slice_set vs i (window v v)) j nowhere) e ∙ get_or-set_same vs i (window v v) nowhere inside

  pub lies_forced : (x : List ℕ) → Lies x vs → slice_index x i ≡ v → Lies x (slice_set vs i (window v v))
  lies_forced x l is =
      let size = length-set vs i (window v v) in
      record {
        same_size = l.same_size ∙ sym size;
        not_before = λ k h. ⊎_elim
            (λ e. omega (arith, ap (λ w. w.earliest) (forced_here k e), ap (λ j. slice_index x j) e))
            (λ ne. omega (arith, ap (λ w. w.earliest) (get_or-set_other vs i k (window v v) nowhere ne), l.not_before k (omega arith)))
            (cases_eq k i);
        not_after = λ k h. ⊎_elim
            (λ e. omega (arith, ap (λ w. w.latest) (forced_here k e), ap (λ j. slice_index x j) e))
            (λ ne. omega (arith, ap (λ w. w.latest) (get_or-set_other vs i k (window v v) nowhere ne), l.not_after k (omega arith)))
            (cases_eq k i);
      }

  pub forced_at : (x : List ℕ) → Lies x (slice_set vs i (window v v)) → slice_index x i ≡ v
  forced_at x l =
      let size = length-set vs i (window v v) in
      let w = forced_here i refl in
      omega (arith, ap (λ w. w.earliest) w, ap (λ w. w.latest) w, l.not_before i (omega arith), l.not_after i (omega arith))

  pub forced_lies : (x : List ℕ) → Lies x (slice_set vs i (window v v)) → earliest_of vs i ≤ v → v ≤ latest_of vs i → Lies x vs
  forced_lies x l low high =
      let size = length-set vs i (window v v) in
      let is = forced_at x l in
      record {
        same_size = l.same_size ∙ size;
        not_before = λ k h. ⊎_elim
            (λ e. omega (arith, ap (earliest_of vs) e, ap (λ j. slice_index x j) e))
            (λ ne. omega (arith, ap (λ w. w.earliest) (get_or-set_other vs i k (window v v) nowhere ne), l.not_before k (omega arith)))
            (cases_eq k i);
        not_after = λ k h. ⊎_elim
            (λ e. omega (arith, ap (latest_of vs) e, ap (λ j. slice_index x j) e))
            (λ ne. omega (arith, ap (λ w. w.latest) (get_or-set_other vs i k (window v v) nowhere ne), l.not_after k (omega arith)))
            (cases_eq k i);
      }

-- Earlier is dearer.
pub spent_later : (rs ds x y : List ℕ) → length x ≡ length y → ((k : ℕ) → k < length x → slice_index y k ≤ slice_index x k) → spent rs ds x ≤ spent rs ds y
spent_later [] ds x y e h = omega arith
spent_later (r ∷ rs) [] x y e h = omega arith
spent_later (r ∷ rs) (d ∷ ds) [] y e h = omega arith
spent_later (r ∷ rs) (d ∷ ds) (a ∷ x) [] e h = absurd (omega arith)
spent_later (r ∷ rs) (d ∷ ds) (a ∷ x) (b ∷ y) e h =
    let f : d - a ≤ d - b = omega (arith, h 0 (omega arith)) in
    omega (arith, mul-le-mul_left r f, spent_later rs ds x y (omega arith) (λ k l. h (suc k) (omega arith)))

-- Rates of at most a million and due periods of at most 64 make a charge of at most 64 million a batch.
pub spent_bound : (rs ds x : List ℕ) → ((k : ℕ) → k < length ds → slice_index ds k ≤ 64) → ((k : ℕ) → k < length rs → slice_index rs k ≤ 1000000) → spent rs ds x ≤ 64000000 * length x
spent_bound [] ds x q p = omega arith
spent_bound (r ∷ rs) [] x q p = omega arith
spent_bound (r ∷ rs) (d ∷ ds) [] q p = omega arith
spent_bound (r ∷ rs) (d ∷ ds) (v ∷ x) q p =
    let due : d - v ≤ 64 = omega (arith, q 0 (omega arith)) in
    let one : r * (d - v) ≤ 1000000 * 64 = mul-le-mul {n₁ = r} {m₁ = d - v} {n₂ = 1000000} {m₂ = 64} (p 0 (omega arith)) due in
    omega (arith, spent_bound rs ds x (λ k l. q (suc k) (omega arith)) (λ k l. p (suc k) (omega arith)))
