-- Slots and Flat keep the laws of a rule.
use Rattle.std.specs.Prelude.{◌≡◌, ℕ, ◌<◌, ◌≤◌, Bool, true, false, cond, List, map, length, take, Some, None, Option, nat_le, slice_index, refl}
use Rattle.std.proofs.Common.{ap, subst, arith}
use Rattle.std.proofs.lemmas.Bool.{leb-true, le-leb, both_ways, cond-true, cond-false, and_parts, and_from}
use Rattle.std.proofs.lemmas.List.{length-take-le, get_or-take}
use Rattle.windows.specs.declared.window.Window.{Window}
use Rattle.windows.specs.WindowSets.{WindowSet, Lies, Single}
use Rattle.windows.specs.Schedules.{kept, schedules, least}
use Rattle.windows.specs.Hulls.{Passes}
use Rattle.windows.proofs.Enumerated.{lies_single, single_lies_is, enumerated_inside, enumerated_keeps, enumerated_none, enumerated_single, cheapest_some, cheapest_none, cheapest_is, cheapest_empty}
use Rattle.rule.specs.Meaning.{Lawful, max_charge}
use Rattle.flat.specs.Tests.{same_size, within, waited}
use Rattle.flat.specs.Rules.{or_max, slots_allows, flat_allows, flat_within, slots, flat}
use Rattle.flat.specs.Tested.{same_size_parts, waited_bound, allowed}

-- A floor that is the least charge of what passes.
module _ (charge : List ℕ → ℕ) (p : List ℕ → Bool) (ws : List Window) where
  pub floor_top : ((y : List ℕ) → Passes p ws y → charge y ≤ max_charge) → or_max (least (map charge (kept p (schedules ws)))) ≤ max_charge
  floor_top h = go (least (map charge (kept p (schedules ws)))) refl
    where
      go : (o : Option ℕ) → least (map charge (kept p (schedules ws))) ≡ o → or_max o ≤ max_charge
      go None e = omega arith
      go (Some a) e = let c = cheapest_some charge p ws a e in omega (arith, c.is, h c.at c.passes)

  pub floor_below : (x : List ℕ) → Passes p ws x → or_max (least (map charge (kept p (schedules ws)))) ≤ charge x
  floor_below x h = go (least (map charge (kept p (schedules ws)))) refl
    where
      go : (o : Option ℕ) → least (map charge (kept p (schedules ws))) ≡ o → or_max o ≤ charge x
      go None e = absurd (cheapest_none charge p ws x e h)
      go (Some a) e = (cheapest_some charge p ws a e).below x h

  pub floor_is : (x : List ℕ) → Passes p ws x → ((y : List ℕ) → Passes p ws y → charge x ≤ charge y) → or_max (least (map charge (kept p (schedules ws)))) ≡ charge x
  floor_is x h b = ap or_max (cheapest_is charge p ws (charge x) (record { at = x; passes = h; is = refl; below = b }))

  pub floor_none : ((x : List ℕ) → Passes p ws x → ⊥) → or_max (least (map charge (kept p (schedules ws)))) ≡ max_charge
  floor_none h = ap or_max (cheapest_empty charge p ws h)

fit_of : (n T P : ℕ) (x : List ℕ) (ws : List Window) → length x ≡ length ws → same_size n T (length x) P ≡ true → same_size n T (length ws) P ≡ true
fit_of n T P x ws e t = subst (λ (k : ℕ). same_size n T k P ≡ true) e t

pub slots_lawful : (n T : ℕ) (cs : List ℕ) → Lawful (slots n T cs)
slots_lawful n T cs =
    record {
      sized = λ P x e. ((and_parts (same_size n T (length x) P) (within cs 1 x) e).0, omega arith);
      floor_top = λ w p. low (same_size n T (length w.each) w.periods);
      floor_below = λ w x p l e. omega (arith, zero_floor w x l.same_size e);
      floor_single = λ w x p s e. zero_floor w x s.same_size e;
      floor_unfit = λ w p e. cond-false (same_size n T (length w.each) w.periods) 0 max_charge e;
      cut_inside = λ w v limit p c e. enumerated_inside (slots_allows n T cs w.periods) w v p e;
      cut_keeps = λ w v limit x p c e l a b. enumerated_keeps (slots_allows n T cs w.periods) w v x e l a;
      cut_none = λ w limit x p c e l a b. enumerated_none (slots_allows n T cs w.periods) w.periods w.each x e (l, a);
      cut_single = λ w v limit x p c s e. (enumerated_single (slots_allows n T cs w.periods) w v x s e, omega arith);
    }
  where
    low : (b : Bool) → cond b 0 max_charge ≤ max_charge
    low true = omega arith
    low false = omega arith

    zero_floor : (w : WindowSet) (x : List ℕ) → length x ≡ length w.each → slots_allows n T cs w.periods x ≡ true → cond (same_size n T (length w.each) w.periods) 0 max_charge ≡ 0
    zero_floor w x e a = cond-true (same_size n T (length w.each) w.periods) 0 max_charge (fit_of n T w.periods x w.each e (and_parts (same_size n T (length x) w.periods) (within cs 1 x) a).0)

pub flat_unfit : (n T : ℕ) (cs ds : List ℕ) (w : WindowSet) (x : List ℕ) → same_size n T (length w.each) w.periods ≡ false → Passes (flat_allows n T cs ds w.periods) w.each x → ⊥
flat_unfit n T cs ds w x e h = both_ways (same_size n T (length w.each) w.periods) e (fit_of n T w.periods x w.each h.0.same_size (allowed n T cs ds w.periods x h.1).fits)

-- A bound on every entry of a table is one on the entries at its front.
pub front_bounded : (n m b : ℕ) (vs : List ℕ) → length vs ≡ m → n ≤ m → ((k : ℕ) → slice_index vs k ≤ b) → (k : ℕ) → k < length (take n vs) → slice_index (take n vs) k ≤ b
front_bounded n m b vs long some most k h =
    let front : length (take n vs) ≡ n = length-take-le n vs (omega arith) in
    omega (arith, get_or-take n vs k 0 (omega arith), most k)

pub flat_lawful : (n T : ℕ) (cs ds : List ℕ) → n ≤ 32 → ((k : ℕ) → k < length ds → slice_index ds k ≤ 64) → Lawful (flat n T cs ds)
flat_lawful n T cs ds few soon =
    record {
      sized = λ P x e. ((allowed n T cs ds P x e).fits, low P x e);
      floor_top = λ w p. floor_top (waited ds) (flat_allows n T cs ds w.periods) w.each (λ y h. low w.periods y h.1);
      floor_below = λ w x p l e. floor_below (waited ds) (flat_allows n T cs ds w.periods) w.each x (l, e);
      floor_single = λ w x p s e. floor_is (waited ds) (flat_allows n T cs ds w.periods) w.each x (lies_single w.each x s, e) (λ y h. only w x y s h.0);
      floor_unfit = λ w p e. floor_none (waited ds) (flat_allows n T cs ds w.periods) w.each (λ x h. flat_unfit n T cs ds w x e h);
      cut_inside = λ w v limit p c e. enumerated_inside (flat_within n T cs ds w.periods limit) w v p e;
      cut_keeps = λ w v limit x p c e l a d. enumerated_keeps (flat_within n T cs ds w.periods limit) w v x e l (passes w limit x a d);
      cut_none = λ w limit x p c e l a d. enumerated_none (flat_within n T cs ds w.periods limit) w.periods w.each x e (l, passes w limit x a d);
      cut_single = λ w v limit x p c s e. (let r = and_parts (flat_allows n T cs ds w.periods x) (nat_le (waited ds x) limit) (enumerated_single (flat_within n T cs ds w.periods limit) w v x s e) in (r.0, leb-true (waited ds x) limit r.1));
    }
  where
    low : (P : ℕ) (x : List ℕ) → flat_allows n T cs ds P x ≡ true → waited ds x ≤ max_charge
    low P x e = let s = (same_size_parts n T (length x) P (allowed n T cs ds P x e).fits).0 in omega (arith, waited_bound ds x soon)

    only : (w : WindowSet) (x y : List ℕ) → Single w.each x → Lies y w.each → waited ds x ≤ waited ds y
    only w x y s l = omega (arith, ap (waited ds) (single_lies_is w.each x y s l))

    passes : (w : WindowSet) (limit : ℕ) (x : List ℕ) → flat_allows n T cs ds w.periods x ≡ true → waited ds x ≤ limit → flat_within n T cs ds w.periods limit x ≡ true
    passes w limit x a d = and_from (flat_allows n T cs ds w.periods x) (nat_le (waited ds x) limit) a (le-leb (waited ds x) limit d)
