-- Drawing for the kinds of a schedule one after the other.
use Rattle.std.proofs.Common.{◌≡◌, ℕ, ◌+◌, ◌<◌, ◌≤◌, List, [], ◌∷◌, ◌++◌, length, get_or, Some, Option, sym, ap, ◌∙◌, subst, arith}
use Rattle.std.specs.Iterator.{Yields}
use Rattle.std.specs.Iterator.Adapters.{zip_first, zip_second}
use Rattle.std.specs.Slice.Iter.{iter_rest}
use Rattle.std.specs.declared.iter.Zip.{Zip}
use Rattle.std.specs.declared.slice.Iter.{Iter}
use Rattle.std.proofs.iter.Yields.{fronts}
use Rattle.std.proofs.lemmas.Iterator.{zips}
use Rattle.std.proofs.lemmas.Slice.Zip.{zip_turn}
use Rattle.std.proofs.lemmas.List.{length-take-le, get_or-take, length-map, get_or-map, length_push}
use Rattle.std.proofs.lemmas.Bool.{eq-eqb, ne_eqb}
use Rattle.windows.specs.declared.window.Window.{Window}
use Rattle.windows.specs.WindowSets.{nowhere}
use Rattle.reload.specs.declared.reload.Reload.{Reload}
use Rattle.reload.specs.Loads.{drawn, reloads, reloads_of}
use Rattle.reload.specs.Orders.{charge_bound, kinds_after, kinds_from, period_opens, batch_brings, batch_elsewhere}
use Rattle.reload.specs.Rules.{places_of}
use Rattle.reload.specs.Held.{K, q, ks, charges_low}
use denote.Ref.{Bor}

-- The total drawn, and what the rest of the kinds draw after the one before them, make the charge of the schedule x.
abbrev pub Draws : Reload → List ℕ → List ℕ → ℕ → Option ℕ → Type 0
Draws r x rest total before = total + reloads (K r) (q r) before rest ≡ reloads_of (K r) (ks r) (q r) r.extent.periods x

module _ (r : Reload) (x : List ℕ) (size : length x ≡ r.extent.batches) where
  long : length (ks r) ≡ r.extent.batches
  long = length-take-le r.extent.batches r.kinds (omega arith)

  abbrev after : ℕ → List ℕ
  after t = kinds_after r.extent.periods (ks r) x t

  abbrev from : ℕ → ℕ → List ℕ
  from t k = kinds_from r.extent.periods (ks r) x t k

  module _ (t total : ℕ) (before : Option ℕ) where
    pub draws_opens : t ≤ r.extent.periods → Draws r x (after t) total before → Draws r x (from t 0) total before
    draws_opens h d = subst (λ (l : List ℕ). Draws r x l total before) (period_opens r.extent.periods (ks r) x t h) d

    module _ (k : ℕ) (here : k < length x) (d : Draws r x (from t k) total before) where
      kind_at : get_or (ks r) k 0 ≡ get_or r.kinds k 0
      kind_at = get_or-take r.extent.batches r.kinds k 0 (omega arith)

      pub draws_skips : (get_or x k 0 ≡ t → ⊥) → Draws r x (from t (k + 1)) total before
      draws_skips ne = subst (λ (l : List ℕ). Draws r x l total before) (batch_elsewhere r.extent.periods (ks r) x t k (omega (arith, long)) here (ne_eqb (get_or x k 0) t ne)) d

      module _ (is : get_or x k 0 ≡ t) (kind : ℕ) (same : kind ≡ get_or r.kinds k 0) (more : ℕ) (drew : more ≡ drawn (K r) (q r) before kind) where
        pub draws_more : Draws r x (from t (k + 1)) (total + more) (Some kind)
        draws_more =
            let brings = batch_brings r.extent.periods (ks r) x t k (omega (arith, long)) here (eq-eqb (get_or x k 0) t is) in
            let drawing = λ (b : ℕ). drawn (K r) (q r) before b + reloads (K r) (q r) (Some b) (from t (k + 1)) in
            omega (arith, d, ap (reloads (K r) (q r) before) brings, ap drawing (kind_at ∙ sym same), drew)

        pub total_fits : total + more ≤ 20480000
        total_fits = omega (arith, draws_more, charge_bound (K r) (q r) (charges_low r) r.extent.periods (ks r) x r.extent.most (omega (arith, r.extent.few)))

-- A turn of a loop over windows and the kinds of their batches, which has yielded some pairs, and now p.
module _ (r : Reload) (each : List Window) (yielded : List (Bor Window × Bor ℕ)) (s t u : Zip (Iter Window) (Iter ℕ)) (o : Option (Bor Window × Bor ℕ)) (windows : iter_rest (zip_first s) ≡ each) (kinds : iter_rest (zip_second s) ≡ ks r) (so_far : Yields (zips fronts fronts) s yielded t)
    (p : Bor Window × Bor ℕ) (is : o ≡ Some p) (step : zips fronts fronts t o u) where
  abbrev x : List ℕ
  x = places_of each

  -- The pair is that of the next batch.
  next : (length yielded < length each) × (length yielded < length (ks r)) × ((d : Window) → p.0.now ≡ get_or each (length yielded) d) × ((d : ℕ) → p.1.now ≡ get_or (ks r) (length yielded) d)
  next = zip_turn each (ks r) yielded s t u o windows kinds so_far p is step

  here : length yielded < length x
  here = omega (arith, next.0, length-map each (λ w. w.earliest))

  place : get_or x (length yielded) 0 ≡ p.0.now.earliest
  place = get_or-map (λ w. w.earliest) each (length yielded) nowhere 0 next.0 ∙ ap (λ (w : Window). w.earliest) (sym (next.2 nowhere))

  module _ (size : length each ≡ r.extent.batches) (period total : ℕ) (before : Option ℕ) (d : Draws r x (kinds_from r.extent.periods (ks r) x period (length yielded)) total before) where
    sized : length x ≡ r.extent.batches
    sized = length-map each (λ w. w.earliest) ∙ size

    kind_next : p.1.now ≡ get_or r.kinds (length yielded) 0
    kind_next = next.3 0 ∙ get_or-take r.extent.batches r.kinds (length yielded) 0 (omega (arith, here, sized))

    after_next : (all : ℕ) (last : Option ℕ) → Draws r x (kinds_from r.extent.periods (ks r) x period (length yielded + 1)) all last → Draws r x (kinds_from r.extent.periods (ks r) x period (length (yielded ++ p ∷ []))) all last
    after_next all last = subst (λ (k : ℕ). Draws r x (kinds_from r.extent.periods (ks r) x period k) all last) (sym (length_push yielded p))

    pub turn_skips : (p.0.now.earliest ≡ period → ⊥) → Draws r x (kinds_from r.extent.periods (ks r) x period (length (yielded ++ p ∷ []))) total before
    turn_skips ne = after_next total before (draws_skips r x sized period total before (length yielded) here d (λ e. ne (sym place ∙ e)))

    module _ (in_period : p.0.now.earliest ≡ period) (more : ℕ) (drew : more ≡ drawn (K r) (q r) before p.1.now) where
      pub turn_draws : Draws r x (kinds_from r.extent.periods (ks r) x period (length (yielded ++ p ∷ []))) (total + more) (Some p.1.now)
      turn_draws = after_next (total + more) (Some p.1.now) (draws_more r x sized period total before (length yielded) here d (place ∙ in_period) p.1.now kind_next more drew)

      pub turn_fits : total + more ≤ 20480000
      turn_fits = total_fits r x sized period total before (length yielded) here d (place ∙ in_period) p.1.now kind_next more drew
