-- Sheets whose head has passed its checks.
use Rattle.std.proofs.Common.{◌≡◌, ℕ, ◌+◌, ◌*◌, ◌≤◌, Bool, false, cond, not, ◌||◌, eqb, ltb, List, length, ap, arith}
use Rattle.std.proofs.lemmas.Bool.Decides.{nat_tests}
use Rattle.windows.specs.Refusals.{struck}
use Rattle.rule.specs.Meaning.{max_charge}
use Rattle.sheet.specs.declared.head.Head.{Head}
use Rattle.sheet.specs.Layout.{length_told, version, batch_count, period_count, weight_told, kind_count, cap_told}
use Rattle.sheet.specs.Checks.{over_limits, length_counted, head_checks, section_checks, sheet_refusal}
use Rattle.sheet.specs.Reading.{HeadIs, Framed}

-- Four checks of which none strikes, whatever comes after them.
record Quiet (p q r s : Bool) : Type 0 where
  first : p ≡ false
  second : q ≡ false
  third : r ≡ false
  fourth : s ≡ false

quiet : (p q r s : Bool) (rest : ℕ) → cond p 1 (cond q 2 (cond r 3 (cond s 4 rest))) ≡ 0 → Quiet p q r s
quiet p q r s rest e = record { first = grind (arith, nat_tests); second = grind (arith, nat_tests); third = grind (arith, nat_tests); fourth = grind (arith, nat_tests) }

module _ (b : List ℕ) where
  quiet_head : (rest : ℕ) → cond (ltb (length b) 15 || not (eqb (length_told b + 2) (length b))) 1 (cond (not (eqb (version b) 1)) 2 (cond (over_limits (batch_count b) (period_count b) (kind_count b) (weight_told b) (cap_told b)) 3 (cond (not (eqb (length_told b) (length_counted (batch_count b) (period_count b) (kind_count b)))) 4 rest))) ≡ 0 →
      Quiet (ltb (length b) 15 || not (eqb (length_told b + 2) (length b))) (not (eqb (version b) 1)) (over_limits (batch_count b) (period_count b) (kind_count b) (weight_told b) (cap_told b)) (not (eqb (length_told b) (length_counted (batch_count b) (period_count b) (kind_count b))))
  quiet_head rest e = quiet _ _ _ _ rest e

-- What the limits say.
pub record Limited (n T K weight limit : ℕ) : Type 0 where
  pub few : n ≤ 32
  pub some : 1 ≤ T
  pub most : T ≤ 64
  pub kinds_some : 1 ≤ K
  pub kinds_most : K ≤ 8
  pub weight_some : 1 ≤ weight
  pub weight_most : weight ≤ 100
  pub low : limit ≤ max_charge

limited : (n T K weight limit : ℕ) → over_limits n T K weight limit ≡ false → Limited n T K weight limit
limited n T K weight limit e =
    record {
      few = grind (arith, nat_tests);
      some = grind (arith, nat_tests);
      most = grind (arith, nat_tests);
      kinds_some = grind (arith, nat_tests);
      kinds_most = grind (arith, nat_tests);
      weight_some = grind (arith, nat_tests);
      weight_most = grind (arith, nat_tests);
      low = grind (arith, nat_tests);
    }

-- An accepted sheet keeps them.
pub accepted_limits : (b : List ℕ) → sheet_refusal b ≡ 0 → Limited (batch_count b) (period_count b) (kind_count b) (weight_told b) (cap_told b)
accepted_limits b e = limited (batch_count b) (period_count b) (kind_count b) (weight_told b) (cap_told b) (quiet_head b (struck (section_checks b)) e).third

told_right : (told size : ℕ) → (ltb size 15 || not (eqb (told + 2) size)) ≡ false → told + 2 ≡ size
told_right told size e = grind (arith, nat_tests)

same : (x y : ℕ) → not (eqb x y) ≡ false → x ≡ y
same x y e = grind (arith, nat_tests)

pub framed : (b : List ℕ) (h : Head) → HeadIs b h → struck (head_checks b) ≡ 0 → Framed b h
framed b h is e =
    let q = quiet_head b 0 e in
    let l = limited (batch_count b) (period_count b) (kind_count b) (weight_told b) (cap_told b) q.third in
    let t = told_right (length_told b) (length b) q.first in
    let w = same (length_told b) (length_counted (batch_count b) (period_count b) (kind_count b)) q.fourth in
    let k : h.kinds * h.kinds ≡ kind_count b * kind_count b = ap (λ (a : ℕ). a * a) is.kinds in
    record {
      head = is;
      few = omega (arith, is.batches, l.few);
      some = omega (arith, is.periods, l.some);
      most = omega (arith, is.periods, l.most);
      kinds_some = omega (arith, is.kinds, l.kinds_some);
      kinds_most = omega (arith, is.kinds, l.kinds_most);
      weight_some = omega (arith, is.weight, l.weight_some);
      weight_most = omega (arith, is.weight, l.weight_most);
      low = omega (arith, is.limit, l.low);
      whole = omega (arith, is.batches, is.periods, k, t, w);
    }
