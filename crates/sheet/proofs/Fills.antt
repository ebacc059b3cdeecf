-- What the fill calls answer for the lists of a sheet whose head has passed its checks.
use Rattle.std.specs.List.{list_any}
use Rattle.std.proofs.Common.{◌≡◌, ℕ, ◌*◌, Bool, true, false, cond, not, ◌&&◌, ◌||◌, eqb, ltb, List, [], ◌∷◌, length, drop, sym, refl, ap, ◌∙◌, arith, length-drop}
use Rattle.std.proofs.lemmas.List.FromFn.{length-map-range_with_len}
use Rattle.std.proofs.lemmas.List.{length-take-le}
use Rattle.std.proofs.lemmas.Bool.Decides.{nat_tests}
use Rattle.windows.specs.declared.refusal.Refusal.{Refusal}
use Rattle.windows.specs.Refusals.{number, struck}
use Rattle.windows.specs.Sizes.{out_of_size}
use Rattle.windows.proofs.Held.{numbered}
use Rattle.rule.specs.Tables.{outside}
use Rattle.rated.specs.Loading.{max_rate, rated_checks}
use Rattle.reload.specs.Loads.{out_of_kinds, some_own_charge}
use Rattle.reload.specs.Loading.{reload_checks}
use Rattle.sheet.specs.declared.head.Head.{Head}
use Rattle.sheet.specs.Layout.{batch_count, period_count, kind_count, capacity_bytes, batch_bytes, column, reload_charges, due_periods, kinds, rates}
use Rattle.sheet.specs.Checks.{bad_rated, bad_reload}
use Rattle.sheet.specs.Reading.{Framed}

-- A check that alone can strike.
struck_by : (k : ℕ) (d : Bool) (e : Refusal) → cond d k 0 ≡ number e → (d ≡ true) × (number e ≡ k)
struck_by k true e h = (refl, sym h)
struck_by k false e h = absurd (omega (arith, numbered e))

-- The last of three checks, if the others don't strike.
last_of_three : (i j k : ℕ) (p q d : Bool) → p ≡ false → q ≡ false → struck ((i, p) ∷ ((j, q) ∷ ((k, d) ∷ []))) ≡ cond d k 0
last_of_three i j k p q d e f = rw (e, f)

two_equal : (a b n m : ℕ) → a ≡ n → b ≡ m → not (eqb a n && eqb b m) ≡ false
two_equal a b n m e f = grind (arith, nat_tests)

three_equal : (a b c n m o : ℕ) → a ≡ n → b ≡ m → c ≡ o → not (eqb a n && (eqb b m && eqb c o)) ≡ false
three_equal a b c n m o e f g = grind (arith, nat_tests)

module _ (b : List ℕ) (h : Head) (f : Framed b h) where
  sized : out_of_size h.batches h.periods ≡ false
  sized = let x = f.few in let y = f.some in let z = f.most in grind (arith, nat_tests)

  kinds_known : (out_of_size h.batches h.periods || out_of_kinds h.kinds) ≡ false
  kinds_known = let x = f.few in let y = f.some in let z = f.most in let u = f.kinds_some in let v = f.kinds_most in grind (arith, nat_tests)

  -- Their lengths.
  capacities_long : length (capacity_bytes b) ≡ h.periods
  capacities_long =
      let l = length-drop 15 b in
      length-take-le (period_count b) (drop 15 b) (omega (arith, f.whole, f.head.periods)) ∙ sym f.head.periods

  column_long : (field : ℕ) → length (column (batch_count b) field (batch_bytes b)) ≡ h.batches
  column_long field = length-map-range_with_len _ 0 (batch_count b) ∙ sym f.head.batches

  rates_long : length (rates b) ≡ h.batches
  rates_long = length-map-range_with_len _ 0 (batch_count b) ∙ sym f.head.batches

  charges_long : length (reload_charges b) ≡ h.kinds * h.kinds
  charges_long = length-map-range_with_len _ 0 (kind_count b * kind_count b) ∙ sym (ap (λ (k : ℕ). k * k) f.head.kinds)

  -- A fill that is refused, is refused for an entry.
  module _ (cs ds rs : List ℕ) (p : cs ≡ capacity_bytes b) (q : ds ≡ due_periods b) (r : rs ≡ rates b) where
    rated_checked : struck (rated_checks h.batches h.periods cs ds rs) ≡ cond (bad_rated b) 5 0
    rated_checked =
        last_of_three 3 4 5 _ _ (outside 0 32 cs || (outside 1 h.periods ds || outside 0 max_rate rs)) sized
        (three_equal _ _ _ _ _ _ (ap length p ∙ capacities_long) (ap length q ∙ column_long 2) (ap length r ∙ rates_long))
        ∙ ap (λ (d : Bool). cond d 5 0) (rw (p, q, r, f.head.periods))

    pub rated_refused : (e : Refusal) → struck (rated_checks h.batches h.periods cs ds rs) ≡ number e → (bad_rated b ≡ true) × (number e ≡ 5)
    rated_refused e s = struck_by 5 (bad_rated b) e (sym rated_checked ∙ s)

  module _ (ks qs : List ℕ) (p : ks ≡ kinds b) (q : qs ≡ reload_charges b) where
    reload_checked : struck (reload_checks h.batches h.periods h.kinds ks qs) ≡ cond (bad_reload b) 5 0
    reload_checked =
        last_of_three 3 4 5 _ _ (outside 1 h.kinds ks || (list_any (λ v. ltb 10000 v) qs || some_own_charge h.kinds qs)) kinds_known
        (two_equal _ _ _ _ (ap length p ∙ column_long 3) (ap length q ∙ charges_long))
        ∙ ap (λ (d : Bool). cond d 5 0) (rw (p, q, f.head.kinds))

    pub reload_refused : (e : Refusal) → struck (reload_checks h.batches h.periods h.kinds ks qs) ≡ number e → (bad_reload b ≡ true) × (number e ≡ 5)
    reload_refused e s = struck_by 5 (bad_reload b) e (sym reload_checked ∙ s)
