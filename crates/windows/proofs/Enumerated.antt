-- A cut to the hull of the schedules that pass a test, by enumeration.
use Rattle.std.proofs.Common.{◌≡◌, ℕ, ◌<◌, Bool, true, List, map, length, Some, None, subst, arith}
use Rattle.std.proofs.lemmas.List.{ext_get_or}
use Rattle.windows.specs.declared.window.Window.{Window}
use Rattle.windows.specs.WindowSets.{WindowSet, Lies, Inside, Single, Proper}
use Rattle.windows.specs.Schedules.{kept, schedules, hull, least}
use Rattle.windows.specs.Hulls.{Among, Hull, Passes, Cheapest}
use Rattle.windows.proofs.Lying.{proper_inside}
use Rattle.windows.proofs.Members.{kept_in, kept_out, map_in, map_out, schedules_in, schedules_out}
use Rattle.windows.proofs.Hulls.{hull_some, hull_none, hull_inside, hull_holds, hull_same, hull_is, hull_empty}
use Rattle.windows.proofs.Least.{least_some, least_none, least_is, least_empty}

pub lies_single : (ws : List Window) (x : List ℕ) → Single ws x → Lies x ws
lies_single ws x s = record { same_size = s.same_size; not_before = λ k h. omega (arith, s.starts k h); not_after = λ k h. omega (arith, s.ends k h) }

-- One schedule lies in windows of one period each.
pub single_lies_is : (ws : List Window) (x y : List ℕ) → Single ws x → Lies y ws → y ≡ x
single_lies_is ws x y s l =
    let a = s.same_size in
    let b = l.same_size in
    ext_get_or 0 y x (omega arith) (λ k h. (let c : k < length ws = omega arith in omega (arith, s.starts k c, s.ends k c, l.not_before k c, l.not_after k c)))

pub passes_in : (p : List ℕ → Bool) (ws : List Window) (x : List ℕ) → Passes p ws x → Among x (kept p (schedules ws))
passes_in p ws x h = kept_in p x (schedules ws) (schedules_in x ws h.0) h.1

pub passes_out : (p : List ℕ → Bool) (ws : List Window) (x : List ℕ) → Among x (kept p (schedules ws)) → Passes p ws x
passes_out p ws x m = let r = kept_out p x (schedules ws) m in (schedules_out x ws r.0, r.1)

module _ (p : List ℕ → Bool) (T : ℕ) (ws : List Window) where
  -- The hull by enumeration is some v exactly where v is the hull of what passes.
  pub enumerated_some : (v : WindowSet) → hull T (kept p (schedules ws)) ≡ Some v → (v.periods ≡ T) × Hull (Passes p ws) v.each
  enumerated_some v e =
      let r = hull_some T (kept p (schedules ws)) (length ws) v (λ x m. (passes_out p ws x m).0.same_size) e in
      (r.0, hull_same (λ x. Among x (kept p (schedules ws))) (Passes p ws) v.each (passes_out p ws) (passes_in p ws) r.1)

  pub enumerated_none : (x : List ℕ) → hull T (kept p (schedules ws)) ≡ None → Passes p ws x → ⊥
  enumerated_none x e h = hull_none T (kept p (schedules ws)) x e (passes_in p ws x h)

  pub enumerated_is : (vs : List Window) → Hull (Passes p ws) vs → hull T (kept p (schedules ws)) ≡ Some (record { periods = T; each = vs })
  enumerated_is vs h = hull_is T (kept p (schedules ws)) vs (hull_same (Passes p ws) (λ x. Among x (kept p (schedules ws))) vs (passes_in p ws) (passes_out p ws) h)

  pub enumerated_empty : ((x : List ℕ) → Passes p ws x → ⊥) → hull T (kept p (schedules ws)) ≡ None
  enumerated_empty e = hull_empty T (kept p (schedules ws)) (λ x m. e x (passes_out p ws x m))

pub enumerated_inside : (p : List ℕ → Bool) (w v : WindowSet) → Proper w → hull w.periods (kept p (schedules w.each)) ≡ Some v → (v.periods ≡ w.periods) × Inside v.each w.each × Proper v
enumerated_inside p w v pw e =
    let r = enumerated_some p w.periods w.each v e in
    let i = hull_inside (Passes p w.each) v.each w.each r.1 (λ x h. h.0) in
    (r.0, i, proper_inside v w pw r.0 i (hull_holds (Passes p w.each) v.each r.1))

pub enumerated_keeps : (p : List ℕ → Bool) (w v : WindowSet) (x : List ℕ) → hull w.periods (kept p (schedules w.each)) ≡ Some v → Lies x w.each → p x ≡ true → Lies x v.each
enumerated_keeps p w v x e l t = (enumerated_some p w.periods w.each v e).1.lies x (l, t)

pub enumerated_single : (p : List ℕ → Bool) (w v : WindowSet) (x : List ℕ) → Single w.each x → hull w.periods (kept p (schedules w.each)) ≡ Some v → p x ≡ true
enumerated_single p w v x s e =
    let r = (enumerated_some p w.periods w.each v e).1.some in
    subst (λ (y : List ℕ). p y ≡ true) (single_lies_is w.each x r.0 s r.1.0) r.1.1

-- The least charge of what passes, by enumeration.
module _ (charge : List ℕ → ℕ) (p : List ℕ → Bool) (ws : List Window) where
  pub cheapest_some : (a : ℕ) → least (map charge (kept p (schedules ws))) ≡ Some a → Cheapest charge p ws a
  cheapest_some a e =
      let l = least_some (map charge (kept p (schedules ws))) a e in
      let r = map_out charge a (kept p (schedules ws)) l.attained in
      record {
        at = r.0;
        passes = passes_out p ws r.0 r.1;
        is = r.2;
        below = λ y h. l.below (charge y) (map_in charge y (kept p (schedules ws)) (passes_in p ws y h));
      }

  pub cheapest_none : (x : List ℕ) → least (map charge (kept p (schedules ws))) ≡ None → Passes p ws x → ⊥
  cheapest_none x e h = least_none (map charge (kept p (schedules ws))) (charge x) e (map_in charge x (kept p (schedules ws)) (passes_in p ws x h))

  pub cheapest_is : (a : ℕ) → Cheapest charge p ws a → least (map charge (kept p (schedules ws))) ≡ Some a
  cheapest_is a c = least_is (map charge (kept p (schedules ws))) a (record {
    attained = subst (λ (b : ℕ). Among b (map charge (kept p (schedules ws)))) c.is (map_in charge c.at (kept p (schedules ws)) (passes_in p ws c.at c.passes));
    below = λ b m. (let r = map_out charge b (kept p (schedules ws)) m in omega (arith, r.2, c.below r.0 (passes_out p ws r.0 r.1)));
  })

  pub cheapest_empty : ((x : List ℕ) → Passes p ws x → ⊥) → least (map charge (kept p (schedules ws))) ≡ None
  cheapest_empty e = least_empty (map charge (kept p (schedules ws))) (λ b m. (let r = map_out charge b (kept p (schedules ws)) m in e r.0 (passes_out p ws r.0 r.1)))
