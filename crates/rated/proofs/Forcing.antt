-- The least charge with one batch in a period is that of the others, with one place less there, and its own.
use Rattle.std.proofs.Common.{◌≡◌, ℕ, zero, suc, ◌+◌, ◌-◌, ◌*◌, ◌<◌, ◌≤◌, List, [], ◌∷◌, map, length, get_or, take, set, sym, refl, ap, ◌∙◌, arith, get_or-set_same}
use Rattle.std.specs.List.{insert, remove}
use Rattle.std.proofs.lemmas.List.Edits.{length-remove}
use Rattle.std.proofs.lemmas.List.{get_or-map, length-map, set-set, set-get_or}
use Rattle.line.specs.declared.batch.Batch.{Batch}
use Rattle.sweep.specs.declared.batches.Batches.{Batches}
use Rattle.sweep.specs.Charges.{no_batch, at, capacity_at, Impossible, charge, Cheapest, opened, relaxed as opened_list}
use Rattle.sweep.specs.Held.{listed, last_of}
use Rattle.sweep.proofs.Sounds.{listed_sound}
use Rattle.sweep.proofs.Removal.{lowered, fits_removed, fits_inserted, none_fits, cost_removed, cost_inserted}
use Rattle.rated.specs.declared.measure.Forcing.{Forcing}
use Rattle.rated.specs.Measures.{opened_of, MayGo, Unplaceable, LeastWith}

-- One less, and then one more.
pub restored : (xs : List ℕ) (i : ℕ) → i < length xs → 0 < get_or xs i 0 → set (set xs i (get_or xs i 0 - 1)) i (get_or (set xs i (get_or xs i 0 - 1)) i 0 + 1) ≡ xs
restored xs i h pos =
    let v = get_or xs i 0 - 1 in
    let back : get_or (set xs i v) i 0 + 1 ≡ get_or xs i 0 = omega (arith, get_or-set_same xs i v 0 h) in
    set-set xs i v (get_or (set xs i v) i 0 + 1) ∙ ap (set xs i) back ∙ set-get_or xs i 0

map_removed : {X Y : Type 0} (f : X → Y) (xs : List X) (i : ℕ) → map f (remove xs i) ≡ remove (map f xs) i
map_removed f [] zero = refl
map_removed f [] (suc i) = refl
map_removed f (x ∷ xs) zero = refl
map_removed f (x ∷ xs) (suc i) = ap (λ ys. f x ∷ ys) (map_removed f xs i)

charge_opened : (bs : List Batch) (x : List ℕ) → charge (λ b. b.rate) (opened_list bs) x ≡ charge (λ b. b.rate) bs x
charge_opened [] x = refl
charge_opened (b ∷ bs) [] = refl
charge_opened (b ∷ bs) (v ∷ x) = ap (λ (s : ℕ). b.rate * (b.due - v) + s) (charge_opened bs x)

-- A batch o that may go into a period.
module _ (f : Forcing) (i v : ℕ) (o : Batch) (g : MayGo f i v o) (long : length f.capacities ≡ 64) where
  abbrev b : Batches
  b = f.batches.now

  abbrev cs : List ℕ
  cs = f.capacities

  here : i < length (opened_of f)
  here = omega (arith, g.inside, length-map (listed b) opened)

  own : at (opened_of f) i ≡ opened o
  own = get_or-map opened (listed b) i no_batch no_batch g.inside ∙ ap opened (sym g.is)

  slot : v - 1 < length cs
  slot = omega (arith, g.starts, g.short, (listed_sound b).most)

  pub full : capacity_at cs v ≡ 0 → Unplaceable f i v
  full z = none_fits (opened_of f) cs (last_of b) i v here g.starts slot g.short z

  pub returned : 1 ≤ capacity_at cs v → set (lowered cs v) (v - 1) (get_or (lowered cs v) (v - 1) 0 + 1) ≡ cs
  returned room = restored cs (v - 1) slot room

  -- d holds the others, and the table low is one less in the period.
  module _ (d : Batches) (others : listed d ≡ remove (listed b) i) (same : last_of d ≡ last_of b) (low : List ℕ) (less : low ≡ lowered cs v) where
    rest : opened_list (listed d) ≡ remove (opened_of f) i
    rest = ap opened_list others ∙ map_removed opened (listed b) i

    pub stuck : Impossible (opened_list (listed d)) low (last_of d) → Unplaceable f i v
    stuck none x ok has =
        let y = fits_removed (opened_of f) cs (last_of b) i v here g.starts slot x ok has in
        none (remove x i) (rw (rest, less, same) y)

    pub least_with : 1 ≤ capacity_at cs v → (p : List ℕ) → Cheapest (λ b. b.rate) (opened_list (listed d)) low (last_of d) p → (a z : ℕ) → a ≡ charge (λ b. b.rate) (listed d) (take (length (listed d)) p) → z ≡ o.rate * (o.due - v) → LeastWith f i v (a + z)
    least_with room p cheap a z all mine =
        let best : Cheapest (λ b. b.rate) (remove (opened_of f) i) (lowered cs v) (last_of b) p = rw (← rest, ← less, ← same) cheap in
        let y = take (length (remove (opened_of f) i)) p in
        let size = best.fits.size in
        let m = length-remove (opened_of f) i here in
        let r = fits_inserted (opened_of f) cs (last_of b) i v here g.starts slot y best.fits (omega (arith, g.starts, ap (λ a. a.earliest) own)) (omega (arith, g.ends, ap (λ a. a.latest) own)) room in
        let w : Batch → ℕ → ℕ = λ b u. b.rate * (b.due - u) in
        let one : w (at (opened_of f) i) v ≡ w o v = ap (λ a. w a v) own in
        let front : charge (λ b. b.rate) (listed d) (take (length (listed d)) p) ≡ charge (λ b. b.rate) (remove (opened_of f) i) y =
        sym (charge_opened (listed d) (take (length (listed d)) p)) ∙ ap (λ (k : ℕ). charge (λ b. b.rate) (opened_list (listed d)) (take k p)) (sym (length-map (listed d) opened)) ∙ ap (λ (l : List Batch). charge (λ b. b.rate) l (take (length l) p)) rest in
        record {
          at = insert y i v;
          fits = r.0;
          has = r.1;
          is = omega (arith, cost_inserted w (opened_of f) y i v here (omega (arith, size)), front, one);
          below = λ x ok has. omega (arith, front, one, best.least (remove x i) (fits_removed (opened_of f) cs (last_of b) i v here g.starts slot x ok has), cost_removed w (opened_of f) x i here has.0, ap (w (at (opened_of f) i)) has.1);
        }
