-- A weighted rule keeps the laws of a rule.
use Rattle.std.specs.Prelude.{◌≡◌, ℕ, ◌*◌, ◌/◌, ◌≤◌, true, List, nat_le}
use Rattle.std.proofs.Common.{ap, mul-le-mul_left, le-div_iff_mul-le, div-le_self, mul_comm, arith}
use Rattle.std.proofs.lemmas.Bool.{leb-true, le-leb, and_parts, and_from}
use Rattle.rule.specs.Meaning.{Meaning, Lawful, max_charge}
use Rattle.layers.specs.Layers.{weighted}

module _ (weight : ℕ) (some : 1 ≤ weight) where
  -- What costs up to the cap divided by the weight is what times the weight costs up to the cap.
  div_to : (c limit : ℕ) → weight * c ≤ limit → c ≤ limit / weight
  div_to c limit l = (le-div_iff_mul-le {k = weight} {x = c} {y = limit} some).1 (omega (arith, mul_comm c weight))

  div_from : (c limit : ℕ) → c ≤ limit / weight → weight * c ≤ limit
  div_from c limit l = omega (arith, (le-div_iff_mul-le {k = weight} {x = c} {y = limit} some).0 l, mul_comm c weight)

  quotient_low : (limit : ℕ) → limit ≤ max_charge → limit / weight ≤ max_charge
  quotient_low limit c = omega (arith, div-le_self limit weight)

  pub weighted_lawful : (m : Meaning) → Lawful m → Lawful (weighted weight m)
  weighted_lawful m l =
      record {
        sized = λ T x e. (let p = parts T x e in ((l.sized T x p.0).0, p.1));
        floor_top = λ w p. omega arith;
        floor_below = λ w x p i e. omega (arith, mul-le-mul_left weight (l.floor_below w x p i (parts w.periods x e).0));
        floor_single = λ w x p s e. (let q = parts w.periods x e in let f = ap (λ (n : ℕ). weight * n) (l.floor_single w x p s q.0) in omega (arith, q.1));
        floor_unfit = λ w p e. (let f = ap (λ (n : ℕ). weight * n) (l.floor_unfit w p e) in omega arith);
        cut_inside = λ w v limit p c e. l.cut_inside w v (limit / weight) p (quotient_low limit c) e;
        cut_keeps = λ w v limit x p c e i a d. l.cut_keeps w v (limit / weight) x p (quotient_low limit c) e i (parts w.periods x a).0 (div_to (m.charge w.periods x) limit d);
        cut_none = λ w limit x p c e i a d. l.cut_none w (limit / weight) x p (quotient_low limit c) e i (parts w.periods x a).0 (div_to (m.charge w.periods x) limit d);
        cut_single = λ w v limit x p c s e. (
            let r = l.cut_single w v (limit / weight) x p (quotient_low limit c) s e in
            let d = div_from (m.charge w.periods x) limit r.1 in
            (and_from (m.allows w.periods x) (nat_le (weight * m.charge w.periods x) max_charge) r.0 (le-leb (weight * m.charge w.periods x) max_charge (omega arith)), d));
      }
    where
      parts : (T : ℕ) (x : List ℕ) → (weighted weight m).allows T x ≡ true → (m.allows T x ≡ true) × (weight * m.charge T x ≤ max_charge)
      parts T x e = let p = and_parts (m.allows T x) (nat_le (weight * m.charge T x) max_charge) e in (p.0, leb-true (weight * m.charge T x) max_charge p.1)
