-- Reload keeps the laws of a rule.
use Rattle.std.specs.List.{list_any}
use Rattle.std.specs.Prelude.{◌≡◌, ℕ, ◌<◌, ◌≤◌, Bool, true, false, cond, not, ◌&&◌, ◌||◌, List, length, replicate, Some, None, nat_le, slice_index, refl}
use Rattle.std.proofs.Common.{sym, ap, subst, ◌∙◌, ⊎_elim, arith}
use Rattle.std.proofs.lemmas.Bool.{leb-true, le-leb, both_ways, cond-true, cond-false, cond_both, and_parts, and_from, or_parts, or_cases, not-true, not_from_false}
use Rattle.windows.specs.WindowSets.{WindowSet, Lies, Inside, Single, Proper}
use Rattle.windows.proofs.Enumerated.{lies_single}
use Rattle.windows.proofs.Hulls.{some_inj, not_some}
use Rattle.rule.specs.Meaning.{Lawful, max_charge}
use Rattle.flat.specs.Tests.{same_size, within}
use Rattle.flat.specs.Tested.{same_size_parts}
use Rattle.reload.specs.Loads.{reloads_of}
use Rattle.reload.specs.Rules.{wide, places_of, reload_allows, reload_within, reload}
use Rattle.reload.specs.Orders.{charge_bound}
use Rattle.reload.specs.Settled.{places_are, none_wide}

-- A cut that changes nothing, or is none.
kept_is : (t : Bool) (w v : WindowSet) → cond t (Some w) None ≡ Some v → (t ≡ true) × (w ≡ v)
kept_is true w v e = (refl, some_inj w v e)
kept_is false w v e = absurd (not_some v e)

none_is : (t : Bool) (w : WindowSet) → cond t (Some w) None ≡ None → t ≡ false
none_is true w e = absurd (not_some w (sym e))
none_is false w e = refl

inside_self : (w : WindowSet) → Inside w.each w.each
inside_self w = record { same_size = refl; not_before = λ k h. omega arith; not_after = λ k h. omega arith }

module _ (n T K : ℕ) (ks q : List ℕ) (few : n ≤ 32) (most : T ≤ 64) (low : (k : ℕ) → k < length q → slice_index q k ≤ 10000) where
  -- Whether the windows fit, are wide, leave one allowed schedule, and leave one within the cap.
  abbrev fit : WindowSet → Bool
  fit w = same_size n T (length w.each) w.periods

  abbrev spread : WindowSet → Bool
  spread w = list_any wide w.each

  abbrev settled : WindowSet → Bool
  settled w = not (spread w) && reload_allows n T w.periods (places_of w.each)

  abbrev cheap : WindowSet → ℕ → Bool
  cheap w limit = reload_within n T K ks q w.periods limit (places_of w.each)

  abbrev charge_of : WindowSet → ℕ
  charge_of w = reloads_of K ks q w.periods (places_of w.each)

  fits : (P : ℕ) (x : List ℕ) → reload_allows n T P x ≡ true → same_size n T (length x) P ≡ true
  fits P x e = (and_parts (same_size n T (length x) P) (within (replicate T 1) 1 x) e).0

  fit_of : (w : WindowSet) (x : List ℕ) → length x ≡ length w.each → reload_allows n T w.periods x ≡ true → fit w ≡ true
  fit_of w x size e = subst (λ (k : ℕ). same_size n T k w.periods ≡ true) size (fits w.periods x e)

  cost : (P : ℕ) (x : List ℕ) → reload_allows n T P x ≡ true → reloads_of K ks q P x ≤ max_charge
  cost P x e =
      let s = same_size_parts n T (length x) P (fits P x e) in
      omega (arith, charge_bound K q low P ks x (omega (arith, s.1)) (omega (arith, s.0)))

  settled_parts : (w : WindowSet) → settled w ≡ true → (spread w ≡ false) × (reload_allows n T w.periods (places_of w.each) ≡ true)
  settled_parts w ok =
      let p = and_parts (not (spread w)) (reload_allows n T w.periods (places_of w.each)) ok in
      (not-true (spread w) p.0, p.1)

  -- A floor is up to d if the charge of a settled schedule is, and C for want of fit.
  floor_most : (w : WindowSet) (d : ℕ) → (settled w ≡ true → charge_of w ≤ d) → (fit w ≡ false → max_charge ≤ d) → (reload n T K ks q).floor w ≤ d
  floor_most w d ok unfit = cond_both (fit w) (cond (settled w) (charge_of w) 0) max_charge (λ a. a ≤ d) (λ _. cond_both (settled w) (charge_of w) 0 (λ a. a ≤ d) ok (λ _. omega arith)) unfit

  -- Windows of one period each, at the schedule x.
  module _ (w : WindowSet) (x : List ℕ) (s : Single w.each x) where
    one : spread w ≡ false
    one = none_wide w.each (λ k h. s.starts k h ∙ sym (s.ends k h))

    is : x ≡ places_of w.each
    is = places_are w.each x one (lies_single w.each x s)

    single_floor : reload_allows n T w.periods x ≡ true → (reload n T K ks q).floor w ≡ reloads_of K ks q w.periods x
    single_floor e =
        let ok = subst (λ (y : List ℕ). reload_allows n T w.periods y ≡ true) is e in
        cond-true (fit w) (cond (settled w) (charge_of w) 0) max_charge (fit_of w x s.same_size e) ∙
        cond-true (settled w) (charge_of w) 0 (and_from (not (spread w)) (reload_allows n T w.periods (places_of w.each)) (not_from_false (spread w) one) ok) ∙
        ap (reloads_of K ks q w.periods) (sym is)

    single_cut : (limit : ℕ) → (spread w || cheap w limit) ≡ true → (reload_allows n T w.periods x ≡ true) × (reloads_of K ks q w.periods x ≤ limit)
    single_cut limit stays =
        let ok : cheap w limit ≡ true = ⊎_elim (λ t. absurd (both_ways (spread w) one t)) (λ t. t) (or_cases (spread w) (cheap w limit) stays) in
        let r = and_parts (reload_allows n T w.periods x) (nat_le (reloads_of K ks q w.periods x) limit) (subst (λ (y : List ℕ). reload_within n T K ks q w.periods limit y ≡ true) (sym is) ok) in
        (r.0, leb-true (reloads_of K ks q w.periods x) limit r.1)

  none_left : (w : WindowSet) (limit : ℕ) (x : List ℕ) → (spread w || cheap w limit) ≡ false → Lies x w.each → reload_allows n T w.periods x ≡ true → reloads_of K ks q w.periods x ≤ limit → ⊥
  none_left w limit x none l a b =
      let r = or_parts (spread w) (cheap w limit) none in
      let ok = and_from (reload_allows n T w.periods x) (nat_le (reloads_of K ks q w.periods x) limit) a (le-leb (reloads_of K ks q w.periods x) limit b) in
      both_ways (cheap w limit) r.1 (subst (λ (y : List ℕ). reload_within n T K ks q w.periods limit y ≡ true) (places_are w.each x r.0 l) ok)

  pub reload_lawful : Lawful (reload n T K ks q)
  reload_lawful =
      record {
        sized = λ P x e. (fits P x e, cost P x e);
        floor_top = λ w p. floor_most w max_charge (λ ok. cost w.periods (places_of w.each) (settled_parts w ok).1) (λ unfit. omega arith);
        floor_below = λ w x p l e.
            floor_most w (reloads_of K ks q w.periods x)
            (λ ok. omega (arith, ap (reloads_of K ks q w.periods) (places_are w.each x (settled_parts w ok).0 l)))
            (λ unfit. absurd (both_ways (fit w) unfit (fit_of w x l.same_size e)));
        floor_single = λ w x p s e. single_floor w x s e;
        floor_unfit = λ w p e. cond-false (fit w) (cond (settled w) (charge_of w) 0) max_charge e;
        cut_inside = λ w v limit p c e.
            (let same = (kept_is (spread w || cheap w limit) w v e).1 in
            (sym (ap (λ (u : WindowSet). u.periods) same), subst (λ (u : WindowSet). Inside u.each w.each) same (inside_self w), subst Proper same p));
        cut_keeps = λ w v limit x p c e l a b. subst (λ (u : WindowSet). Lies x u.each) (kept_is (spread w || cheap w limit) w v e).1 l;
        cut_none = λ w limit x p c e l a b. none_left w limit x (none_is (spread w || cheap w limit) w e) l a b;
        cut_single = λ w v limit x p c s e. single_cut w x s limit (kept_is (spread w || cheap w limit) w v e).0;
      }
