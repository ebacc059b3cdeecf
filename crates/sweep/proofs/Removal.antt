-- One batch taken out, with one place less in its period.
use Rattle.std.proofs.Common.{◌≡◌, ℕ, zero, suc, ◌+◌, ◌-◌, ◌<◌, ◌≤◌, List, [], ◌∷◌, length, get_or, take, set, sym, ap, ◌∙◌, ⊎_elim, arith, get_or-set_other, get_or-set_same}
use Rattle.std.specs.List.{insert, remove, copy_within}
use Rattle.std.proofs.lemmas.Grind.{common_steps}
use Rattle.std.proofs.lemmas.List.Edits.{take-paste, length-remove, get_or-remove_below, get_or-remove_above, length-insert, get_or-insert_below, get_or-insert_at, get_or-insert_above}
use Rattle.std.proofs.lemmas.List.{drop-take}
use Rattle.std.proofs.lemmas.Bool.{cases_eq, cases_lt}
use Rattle.windows.specs.Schedules.{count}
use Rattle.line.specs.declared.batch.Batch.{Batch}
use Rattle.sweep.specs.Charges.{no_batch, at, earliest_at, latest_at, capacity_at, cost, Fits, Has}
use Rattle.sweep.proofs.Counts.{hit, hit_is, hit_other}

-- a table in which the batches after one have moved up by one place begins with the batches that are left
pub removed_copied : (bs : List Batch) (n i : ℕ) → i < n → n ≤ length bs → take (n - 1) (copy_within bs (i + 1) n i) ≡ remove (take n bs) i
removed_copied bs n i inside long = grind (arith, common_steps, take-paste, drop-take)

count_removed : (t : ℕ) (x : List ℕ) (i : ℕ) → i < length x → count t x ≡ count t (remove x i) + hit t (get_or x i 0)
count_removed t [] i h = absurd (omega arith)
count_removed t (a ∷ x) zero h = omega arith
count_removed t (a ∷ x) (suc i) h = omega (arith, count_removed t x i (omega arith))

count_inserted : (t : ℕ) (x : List ℕ) (i v : ℕ) → count t (insert x i v) ≡ count t x + hit t v
count_inserted t [] zero v = omega arith
count_inserted t [] (suc i) v = omega arith
count_inserted t (a ∷ x) zero v = omega arith
count_inserted t (a ∷ x) (suc i) v = omega (arith, count_inserted t x i v)

-- a cost is that of the others and that of the batch itself
pub cost_removed : (f : Batch → ℕ → ℕ) (bs : List Batch) (x : List ℕ) (i : ℕ) → i < length bs → i < length x → cost f bs x ≡ cost f (remove bs i) (remove x i) + f (at bs i) (get_or x i 0)
cost_removed f [] x i h k = absurd (omega arith)
cost_removed f (b ∷ bs) [] i h k = absurd (omega arith)
cost_removed f (b ∷ bs) (v ∷ x) zero h k = omega arith
cost_removed f (b ∷ bs) (v ∷ x) (suc i) h k = omega (arith, cost_removed f bs x i (omega arith) (omega arith))

pub cost_inserted : (f : Batch → ℕ → ℕ) (bs : List Batch) (x : List ℕ) (i v : ℕ) → i < length bs → i ≤ length x → cost f bs (insert x i v) ≡ cost f (remove bs i) x + f (at bs i) v
cost_inserted f [] x i v h k = absurd (omega arith)
cost_inserted f (b ∷ bs) [] zero v h k = omega arith
cost_inserted f (b ∷ bs) [] (suc i) v h k = absurd (omega arith)
cost_inserted f (b ∷ bs) (a ∷ x) zero v h k = omega arith
cost_inserted f (b ∷ bs) (a ∷ x) (suc i) v h k = omega (arith, cost_inserted f bs x i v (omega arith) (omega arith))

-- the capacities with one place less in period v
abbrev pub lowered : List ℕ → ℕ → List ℕ
lowered cs v = set cs (v - 1) (capacity_at cs v - 1)

module _ (bs : List Batch) (cs : List ℕ) (last i v : ℕ) (inside : i < length bs) (pos : 1 ≤ v) (short : v - 1 < length cs) where
  lowered_here : (t : ℕ) → t ≡ v → capacity_at (lowered cs v) t ≡ capacity_at cs v - 1
  lowered_here t e = ap (capacity_at (lowered cs v)) e ∙ get_or-set_same cs (v - 1) (capacity_at cs v - 1) 0 short

  lowered_other : (t : ℕ) → 1 ≤ t → (t ≡ v → ⊥) → capacity_at (lowered cs v) t ≡ capacity_at cs t
  lowered_other t p ne = get_or-set_other cs (v - 1) (t - 1) (capacity_at cs v - 1) 0 (λ e. ne (omega arith))

  -- a schedule with batch i in period v, without it
  pub fits_removed : (x : List ℕ) → Fits bs cs last x → Has i v x → Fits (remove bs i) (lowered cs v) last (remove x i)
  fits_removed x ok has =
      record {
        size = omega (arith, length-remove x i has.0, length-remove bs i inside, ok.size);
        within = λ k h. ⊎_elim
            (λ l. let e = get_or-remove_below bs i no_batch k l inside in
            omega (arith, ap (λ b. b.earliest) e, ap (λ b. b.latest) e, get_or-remove_below x i 0 k l has.0, ok.within k (omega arith)))
            (λ l. let e = get_or-remove_above bs i no_batch k l inside in
            omega (arith, ap (λ b. b.earliest) e, ap (λ b. b.latest) e, get_or-remove_above x i 0 k l has.0, ok.within (k + 1) (omega (arith, length-remove bs i inside))))
            (cases_lt k i);
        fits = λ t p upto. ⊎_elim
            (λ e. omega (arith, count_removed t x i has.0, hit_is t (get_or x i 0) (has.1 ∙ sym e), ok.fits t p upto, lowered_here t e, ap (capacity_at cs) e))
            (λ ne. omega (arith, count_removed t x i has.0, ok.fits t p upto, lowered_other t p ne))
            (cases_eq t v);
      }

  -- a schedule of the others, with batch i in period v
  pub fits_inserted : (y : List ℕ) → Fits (remove bs i) (lowered cs v) last y → earliest_at bs i ≤ v → v ≤ latest_at bs i → 1 ≤ capacity_at cs v → Fits bs cs last (insert y i v) × Has i v (insert y i v)
  fits_inserted y ok low high room =
      let size = length-remove bs i inside in
      let short : i ≤ length y = omega (arith, ok.size) in
      let long = length-insert y i v short in
      let here = get_or-insert_at y i v 0 short in (
        record {
          size = omega (arith, ok.size);
          within = λ k h. ⊎_elim
              (λ l. let e = get_or-remove_below bs i no_batch k l inside in
              omega (arith, ap (λ b. b.earliest) e, ap (λ b. b.latest) e, get_or-insert_below y i v 0 k l short, ok.within k (omega arith)))
              (λ l. ⊎_elim
              (λ e. omega (arith, here, ap (λ a. get_or (insert y i v) a 0) e, ap (earliest_at bs) e, ap (latest_at bs) e))
              (λ ne.
              let e = get_or-remove_above bs i no_batch (k - 1) (omega arith) inside in
              let back : k - 1 + 1 ≡ k = omega arith in
              omega (arith, ap (λ b. b.earliest) e, ap (λ b. b.latest) e, ap (earliest_at bs) back, ap (latest_at bs) back, ap (λ a. get_or (insert y i v) a 0) back, get_or-insert_above y i v 0 (k - 1) (omega arith) short, ok.within (k - 1) (omega (arith, size))))
              (cases_eq k i))
              (cases_lt k i);
          fits = λ t p upto. ⊎_elim
              (λ e. omega (arith, count_inserted t y i v, hit_is t v (sym e), ok.fits t p upto, lowered_here t e, ap (capacity_at cs) e))
              (λ ne. omega (arith, count_inserted t y i v, hit_other t v (λ z. ne (sym z)), ok.fits t p upto, lowered_other t p ne))
              (cases_eq t v);
        },
        (omega (arith, ok.size), here),
      )

  -- a period of capacity 0 takes none
  pub none_fits : v ≤ last → capacity_at cs v ≡ 0 → (x : List ℕ) → Fits bs cs last x → Has i v x → ⊥
  none_fits upto none x ok has = omega (arith, count_removed v x i has.0, hit_is v (get_or x i 0) has.1, ok.fits v pos upto)
