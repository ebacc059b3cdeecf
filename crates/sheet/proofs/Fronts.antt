-- Tables that begin with a list made from its indices: by a closure, or entry by entry.
use Rattle.std.proofs.Common.{◌≡◌, ℕ, zero, suc, ◌+◌, ◌<◌, ◌≤◌, List, map, length, get_or, take, set, refl, ap, ◌∙◌, subst, arith, length-set}
use denote.Param.Members.{Mut}
use Rattle.std.specs.Fn.{Called}
use Rattle.std.specs.Array.{IsFromFnResult, IsFromFnResultFrom}
use Rattle.std.specs.List.{range_with_len}
use Rattle.std.proofs.lemmas.List.FromFn.{fill_by_all}
use Rattle.std.proofs.lemmas.List.Edits.{fill_by_more}
use Rattle.std.proofs.lemmas.List.{length-take-le, get_or-take}

pub front_is : (f : ℕ → ℕ) (n j : ℕ) (table : List ℕ) → n ≡ j → n ≤ length table → ((k : ℕ) → k < n → get_or table k 0 ≡ f k) → take n table ≡ map f (range_with_len 0 j)
front_is f n j table e long h = fill_by_all f (take n table) j 0 (length-take-le n table long ∙ e) (λ k b. get_or-take n table k 0 (omega arith) ∙ h k (omega arith))

-- One entry more of a table of n.
pub entry_more : (f : ℕ → ℕ) (n i v : ℕ) (table : List ℕ) → i < n → v ≡ f i → (length table ≡ n) × ((k : ℕ) → k < i → get_or table k 0 ≡ f k) → (length (set table i v) ≡ n) × ((k : ℕ) → k < i + 1 → get_or (set table i v) k 0 ≡ f k)
entry_more f n i v table h e inv = (
  simp length-set inv.0,
  (λ k b. ap (λ (u : ℕ). get_or (set table i u) k 0) e ∙ fill_by_more f table i 0 (omega (arith, inv.0)) inv.1 k b),
)

-- Each call answers what the list has at that index, and changes nothing.
module _ {F : Type 0} (g : Mut F (ℕ × Unit {0}) ℕ) (entry : ℕ → ℕ) (f : F) (one : (i y : ℕ) (q : F) → Called g f (i, tt) y q → (y ≡ entry i) × (q ≡ f)) (table : List ℕ) where
  entry_made : (i n k : ℕ) (p : F) → p ≡ f → k < n → IsFromFnResultFrom g p table i n → get_or table (i + k) 0 ≡ entry (i + k)
  entry_made i zero k p e b c = absurd (omega arith)
  entry_made i (suc n) zero p e b c =
      let now : (c.1 ≡ entry i) × (c.0 ≡ f) = one i c.1 c.0 (subst (λ (x : F). Called g x (i, tt) c.1 c.0) e c.3) in
      let z : i + 0 ≡ i = omega arith in
      rw z (c.2.1 0 ∙ now.0)
  entry_made i (suc n) (suc k) p e b c =
      let now : (c.1 ≡ entry i) × (c.0 ≡ f) = one i c.1 c.0 (subst (λ (x : F). Called g x (i, tt) c.1 c.0) e c.3) in
      let z : i + suc k ≡ i + 1 + k = omega arith in
      rw z (entry_made (i + 1) n k c.0 now.1 (omega arith) c.4)

  pub front_made : (n m j : ℕ) → m ≡ j → m ≤ n → IsFromFnResult g f table n → take m table ≡ map entry (range_with_len 0 j)
  front_made n m j e most c =
      fill_by_all entry (take m table) j 0 (length-take-le m table (omega (arith, c.long)) ∙ e)
      (λ k b. let z : 0 + k ≡ k = omega arith in get_or-take m table k 0 (omega arith) ∙ (rw z at (entry_made 0 n k f refl (omega arith) c.each)))
