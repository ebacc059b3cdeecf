-- What `find_map` over the numbers of a range tells, where the closure's calls leave it as it was: the first number at which it
-- answers something, and what it says by that answer and by each `None` before.
use Rattle.std.proofs.Common.{◌≡◌, ℕ, ◌+◌, ◌-◌, ◌<◌, ◌≤◌, true, false, Some, None, Option, MatchOption, sym, ap, ◌∙◌, subst, arith}
use Rattle.std.specs.Prelude.{IsTrue, IfSome, IsSomeAnd}
use Rattle.std.specs.Option.{option_map}
use Rattle.std.specs.Range.{range_inclusive_start, range_inclusive_end, range_inclusive_exhausted}
use Rattle.std.specs.Fn.{Called}
use Rattle.std.specs.Iterator.Adapters.{rev_steps, RevKeepsRuns}
use Rattle.std.specs.Iterator.Runs.{Run, SomeRun, AllItemsGive, IsFirstToGive, CallKeepsClosure}
use Rattle.std.specs.declared.ops.Range.{Range}
use Rattle.std.specs.declared.ops.RangeInclusive.{RangeInclusive}
use Rattle.std.specs.declared.iter.Rev.{Rev}
use Rattle.std.proofs.lemmas.Iterator.Adapters.{option_map_id}
use Rattle.std.proofs.iter.Yields.{nat_range_steps}
use Rattle.std.proofs.iter.runs.Sources.{range_runs, nat_range_inclusive_steps_back, inclusive_listed_back}
use denote.Param.Members.{Mut}

-- A fact of the item at a place of a run, which is a number known.
pub item : {S : Type 0} {steps : S → Option ℕ → S → Type 0} (p : Run steps) (k v : ℕ) (P : ℕ → Type 0) → option_map (λ y. y) (p.at k) ≡ Some v → IfSome (p.at k) P → P v
item p k v P e h = subst (λ o. IfSome o P) (sym (option_map_id (p.at k)) ∙ e) h

pub item_and : {S : Type 0} {steps : S → Option ℕ → S → Type 0} (p : Run steps) (k v : ℕ) (P : ℕ → Type 0) → option_map (λ y. y) (p.at k) ≡ Some v → IsSomeAnd (p.at k) P → P v
item_and p k v P e h = subst (λ o. IsSomeAnd o P) (sym (option_map_id (p.at k)) ∙ e) h

module _ {F B : Type 0} (g : Mut F (ℕ × Unit {0}) (Option B)) (f : F) where
  -- What the closure says by each answer.
  abbrev pub No : ℕ → Type 0
  No v = Called g f (v, tt) None f

  abbrev pub Yes : ℕ → B → Type 0
  Yes v y = Called g f (v, tt) (Some y) f

  -- The clause `runs` of `find_map`.
  abbrev pub FindsMapped : {S : Type 0} {steps : S → Option ℕ → S → Type 0} → Option B → Run steps → Type 0
  FindsMapped r p = MatchOption r (IsTrue p.whole × AllItemsGive p g f None) (λ y. (i : ℕ) × (i < p.len) × (p.len ≡ i + 1) × IsFirstToGive p g f (Some y) None i)

module _ {F B N : Type 0} {R : B → Type 0} {g : Mut F (ℕ × Unit {0}) (Option B)} {f : F} (keeps : CallKeepsClosure g f) where
  first : {S : Type 0} {steps : S → Option ℕ → S → Type 0} (p : Run steps) (n : ℕ) (num : ℕ → ℕ) → p.len ≤ n → (p.whole ≡ true → p.len ≡ n) → ((k : ℕ) → k < p.len → option_map (λ y. y) (p.at k) ≡ Some (num k)) →
      (r : Option B) → FindsMapped g f r p → (((k : ℕ) → k < n → No g f (num k)) → N) → ((y : B) (i : ℕ) → i < n → Yes g f (num i) y → ((k : ℕ) → k < i → No g f (num k)) → R y) → MatchOption r N R
  first p n num most all at None h none some = none (λ k b. item p k (num k) (No g f) (at k (omega (arith, all h.0))) (h.1 keeps k))
  first p n num most all at (Some y) h none some = some y h.0 (omega (arith, h.1)) (item_and p h.0 (num h.0) (λ v. Yes g f v y) (at h.0 h.1) (h.3 keeps).0) (λ k b. item_and p k (num k) (No g f) (at k (omega (arith, h.1))) ((h.3 keeps).1 k b))

  pub first_up : (s : Range ℕ) (r : Option B) → SomeRun nat_range_steps s (FindsMapped g f r) →
      (((v : ℕ) → s.start ≤ v → v < s.end → No g f v) → N) → ((y : B) (v : ℕ) → Yes g f v y → ((u : ℕ) → s.start ≤ u → u < v → No g f u) → R y) → MatchOption r N R
  first_up s r h none some =
      let p = h.0 in
      let c = range_runs p p.seen in
      let from : p.from.start ≡ s.start = ap (λ t. t.start) h.1 in
      let to : p.from.end ≡ s.end = ap (λ t. t.end) h.1 in
      let at : (v k : ℕ) → v ≡ p.from.start + k → No g f (p.from.start + k) → No g f v = λ v k e. subst (No g f) (sym e) in
      first p (p.from.end - p.from.start) (λ k. p.from.start + k) c.0 c.1 c.3 r h.2
      (λ all. none (λ v low high. at v (v - p.from.start) (omega arith) (all (v - p.from.start) (omega arith))))
      (λ y i b yes before. some y (p.from.start + i) yes (λ v low high. at v (v - p.from.start) (omega arith) (before (v - p.from.start) (omega arith))))

  -- The same from the last number down.
  pub first_down : (s : RangeInclusive ℕ) (d : Rev (RangeInclusive ℕ)) → range_inclusive_exhausted s ≡ false → RevKeepsRuns nat_range_inclusive_steps_back s d → (r : Option B) → SomeRun (rev_steps nat_range_inclusive_steps_back) d (FindsMapped g f r) →
      (((v : ℕ) → range_inclusive_start s ≤ v → v ≤ range_inclusive_end s → No g f v) → N) → ((y : B) (v : ℕ) → Yes g f v y → ((u : ℕ) → v < u → u ≤ range_inclusive_end s → No g f u) → R y) → MatchOption r N R
  first_down s d fresh turns r h none some =
      let p = h.0 in
      let turned = turns p p.seen h.1 in
      let q = turned.0 in
      let same = turned.2 in
      let l = inclusive_listed_back q q.seen in
      let from : l.0 ≡ range_inclusive_start s = l.2 ∙ ap range_inclusive_start turned.1 in
      let to : l.1 ≡ range_inclusive_end s + 1 = omega (arith, l.3, ap range_inclusive_end turned.1) in
      let c = (l.4 (ap range_inclusive_exhausted turned.1 ∙ fresh)).0 in
      let at : (v k : ℕ) → v ≡ l.1 - 1 - k → No g f (l.1 - 1 - k) → No g f v = λ v k e. subst (No g f) (sym e) in
      first p (l.1 - l.0) (λ k. l.1 - 1 - k) (omega (arith, c.0, same.0.0)) (λ w. omega (arith, c.1 (same.1 ∙ w), same.0.0)) (λ k b. ap (option_map (λ y. y)) (sym (same.0.2 k)) ∙ c.3 k (omega (arith, same.0.0))) r h.2
      (λ all. none (λ v low high. at v (l.1 - 1 - v) (omega arith) (all (l.1 - 1 - v) (omega arith))))
      (λ y i b yes before. some y (l.1 - 1 - i) yes (λ v low high. at v (l.1 - 1 - v) (omega arith) (before (l.1 - 1 - v) (omega arith))))
