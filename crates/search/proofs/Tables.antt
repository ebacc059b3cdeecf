-- The table of open parts as a list with the newest first, and the room in it.
use Rattle.std.proofs.Common.{◌≡◌, ℕ, ◌+◌, ◌-◌, ◌*◌, ◌<◌, ◌≤◌, false, List, [], ◌∷◌, length, get_or, set, Option, subst, sym, arith}
use mathlib.Core.Logic.{∥∥₁_map, ∥∥₁_elim}
use native.Mathlib.Bridge.{le_prop}
use Rattle.std.proofs.lemmas.Bool.{leb-false}
use Rattle.std.proofs.lemmas.List.{take-set-le}
use Rattle.std.proofs.lemmas.Grind.{common_steps}
use Rattle.windows.specs.declared.windows.Windows.{Windows}
use Rattle.windows.specs.WindowSets.{WindowSet, Inside}
use Rattle.windows.specs.Filling.{set_of}
use Rattle.windows.specs.Halves.{first_wide, one_each, earlier, later}
use Rattle.windows.proofs.Lying.{Nonempty}
use Rattle.windows.proofs.Held.{held_proper}
use Rattle.runs.proofs.Halved.{sized_inside, sized_proper, halves}
use Rattle.rule.specs.Meaning.{Meaning}
use Rattle.runs.specs.declared.phase.Phase.TheVariants.{Running}
use Rattle.search.specs.declared.inner.Inner.{Inner}
use Rattle.search.specs.Table.{stack, Roomy}
use Rattle.search.specs.Left.{Halved}

pub stack_size : (table : List Windows) (n : ℕ) → n ≤ length table → length (stack table n) ≡ n
stack_size table n h = grind (arith, common_steps)

-- A write at or above the top is not seen.
pub stack_above : (table : List Windows) (n i : ℕ) (v : Windows) → n ≤ i → stack (set table i v) n ≡ stack table n
stack_above table n i v h = simp take-set-le

-- The newest part of a table with some.
pub stack_top : (table : List Windows) (n : ℕ) (d : Windows) → 0 < n → n ≤ length table → stack table n ≡ set_of (get_or table (n - 1) d) ∷ stack table (n - 1)
stack_top table n d some h = grind (arith, common_steps)

-- A write at the top, with one part more, pushes.
pub stack_push : (table : List Windows) (n : ℕ) (v : Windows) → n < length table → stack (set table n v) (n + 1) ≡ set_of v ∷ stack table n
stack_push table n v h = grind (arith, common_steps)

-- Two more, the first written in two steps.
pub stack_halves : (table : List Windows) (n : ℕ) (u half : Windows) → n + 1 < length table → stack (set (set table n u) (n + 1) half) (n + 2) ≡ set_of half ∷ (set_of u ∷ stack table n)
stack_halves table n u half h = grind (arith, common_steps)

-- A part has room for the splits that can still come of it, and so have its halves.
pub room_one : (w : Windows) → ∥ Roomy (set_of w ∷ []) ∥₁
room_one w = let p = held_proper w in ∣ ((6 * length (set_of w).each, omega (arith, p.few), sized_proper (set_of w) p), tt) ∣₁

-- The newest part goes, whatever is written in its place.
pub room_below : (table : List Windows) (n m : ℕ) (v : Windows) → m ≡ n - 1 → 0 < n → n ≤ length table → ∥ Roomy (stack table n) ∥₁ → ∥ Roomy (stack (set table (n - 1) v) m) ∥₁
room_below table n m v is some h room =
    let P : List WindowSet → Type 0 = Roomy in
    rw is (∥∥₁_map room (λ r. subst P (sym (stack_above table (n - 1) (n - 1) v (omega arith))) (subst P (stack_top table n v some h) r).1))

roomy_halves : (p v : WindowSet) (ps : List WindowSet) → Inside v.each p.each → Nonempty v.each → one_each v ≡ false → Roomy (p ∷ ps) → Roomy (later v ∷ (earlier v ∷ ps))
roomy_halves p v ps i h b r =
    let d = (halves v.each h (leb-false (length v.each) (first_wide v.each) b)).sized r.0.0 (sized_inside v.each p.each r.0.0 i r.0.2) in
    ((d.0, omega (arith, r.0.1, d.1), d.3), ((d.0, omega (arith, r.0.1, d.1), d.2), r.1))

-- The newest part of a running search is split, and the later half goes on top of it.
module _ {m : Meaning} {limit : Option ℕ} {u half : Windows} (i : Inner) (on : i.phase ≡ Running) (d : Windows) (h : Halved m limit (get_or i.parts (i.count - 1) d) u half) where
  room_halves : ∥ Roomy (set_of half ∷ (set_of u ∷ stack i.parts (i.count - 1))) ∥₁
  room_halves =
      let P : List WindowSet → Type 0 = Roomy in
      let w = set_of (get_or i.parts (i.count - 1) d) in
      let v = set_of h.narrowed in
      let below = stack i.parts (i.count - 1) in
      let a = h.halves.1 in
      let b = h.halves.2 in
      let e : later v ∷ (earlier v ∷ below) ≡ set_of half ∷ (set_of u ∷ below) = cc in
      ∥∥₁_map i.room (λ r. subst P e (roomy_halves w v below h.inside (held_proper h.narrowed).holds h.halves.0 (subst P (stack_top i.parts i.count d (i.busy on) (omega (arith, i.long, i.few))) r)))

  pub room_left : i.count < 193
  room_left = ∥∥₁_elim room_halves le_prop (λ r. omega (arith, r.0.1, stack_size i.parts (i.count - 1) (omega (arith, i.long, i.few))))

  pub room_pushed : ∥ Roomy (stack (set (set i.parts (i.count - 1) u) (i.count - 1 + 1) half) (i.count - 1 + 2)) ∥₁
  room_pushed = subst (λ (ps : List WindowSet). ∥ Roomy ps ∥₁) (sym (stack_halves i.parts (i.count - 1) u half (omega (arith, i.busy on, i.long, room_left)))) room_halves
