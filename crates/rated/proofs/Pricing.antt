-- The schedules that fit the batches of some windows are those that keep the capacities in the relaxed windows.
use Rattle.std.proofs.Common.{◌≡◌, ℕ, ◌+◌, ◌-◌, ◌*◌, ◌<◌, ◌≤◌, min, Bool, true, false, List, [], ◌∷◌, length, get_or, take, Some, None, Option, sym, refl, ap, ◌∙◌, arith, MatchOption}
use Rattle.std.specs.List.{zip}
use Rattle.std.proofs.lemmas.List.{ext_get_or, get_or-take, get_or-map, length-map, length-take-le}
use Rattle.std.proofs.lemmas.Simd.{map-map}
use Rattle.std.proofs.lemmas.Slice.Zip.{length-zip, get_or-zip}
use Rattle.std.proofs.lemmas.Bool.{cond-true, cond-false}
use Rattle.windows.specs.declared.window.Window.{Window}
use Rattle.windows.specs.declared.windows.Windows.{Windows}
use Rattle.windows.specs.WindowSets.{Lies, Proper, nowhere, latest_of}
use Rattle.windows.specs.Schedules.{count}
use Rattle.windows.specs.Hulls.{Passes}
use Rattle.windows.specs.Filling.{set_of}
use Rattle.windows.proofs.Held.{held_proper}
use Rattle.rule.specs.Meaning.{max_charge}
use Rattle.line.specs.declared.batch.Batch.{Batch}
use Rattle.sweep.specs.declared.batches.Batches.{Batches}
use Rattle.sweep.specs.Charges.{at, no_batch, Fits, Impossible, charge, Cheapest, Sound, opened, relaxed as opened_list}
use Rattle.sweep.specs.Held.{listed, last_of, Holds}
use Rattle.flat.specs.Tests.{same_size, within}
use Rattle.flat.specs.Tested.{same_size_parts, within_at, within_from}
use Rattle.flat.specs.Laws.{floor_is, floor_none}
use Rattle.rated.specs.declared.rated.Rated.{Rated}
use Rattle.rated.specs.declared.measure.Forcing.{Forcing}
use Rattle.rated.specs.Rates.{spent, relaxed, forced, at_most}
use Rattle.rated.specs.Loading.{rated_of}
use Rattle.rated.specs.Measures.{priced, Prices, NothingFits, Forces, charged, Affords}
use Rattle.rated.specs.Relaxed.{length_relaxed, relaxed_at, lies_forced, forced_at, forced_lies}
use Rattle.rated.specs.Laws.{at_most_in, at_most_out}

-- Three lists of one length.
pub record Level (rs ds : List ℕ) (ws : List Window) : Type 0 where
  pub rates : length rs ≡ length ws
  pub dues : length ds ≡ length ws

-- The batch of a window, with the due period and the rate that go with it.
abbrev priced_one : ℕ × (ℕ × Window) → Batch
priced_one p = record { earliest = 1; latest = min p.1.1.latest p.1.0; due = p.1.0; rate = p.0 }

length_priced : (rs ds : List ℕ) (ws : List Window) → Level rs ds ws → length (priced rs ds ws) ≡ length ws
length_priced rs ds ws e = omega (arith, e.rates, e.dues, length-map (zip rs (zip ds ws)) priced_one, length-zip rs (zip ds ws), length-zip ds ws)

priced_at : (rs ds : List ℕ) (ws : List Window) (k : ℕ) → Level rs ds ws → k < length ws → at (priced rs ds ws) k ≡ record { earliest = 1; latest = min (latest_of ws k) (get_or ds k 0); due = get_or ds k 0; rate = get_or rs k 0 }
priced_at rs ds ws k e h =
    let a = e.rates in
    let b = e.dues in
    let inner = get_or-zip ds ws k (0, nowhere) (omega arith) h in
    get_or-map priced_one (zip rs (zip ds ws)) k (0, (0, nowhere)) no_batch (omega (arith, length-zip rs (zip ds ws), length-zip ds ws)) ∙
    ap priced_one (get_or-zip rs (zip ds ws) k (0, (0, nowhere)) (omega arith) (omega (arith, length-zip ds ws)) ∙ ap (λ (q : ℕ × Window). (get_or rs k 0, q)) inner)

-- Their windows are open already.
opened_priced : (rs ds : List ℕ) (ws : List Window) → opened_list (priced rs ds ws) ≡ priced rs ds ws
opened_priced rs ds ws = map-map opened priced_one (zip rs (zip ds ws))

charge_priced : (rs ds : List ℕ) (ws : List Window) (x : List ℕ) → Level rs ds ws → charge (λ b. b.rate) (priced rs ds ws) x ≡ spent rs ds x
charge_priced [] ds ws x e = refl
charge_priced (r ∷ rs) [] ws x e = refl
charge_priced (r ∷ rs) (d ∷ ds) [] x e = absurd (let a = e.dues in omega arith)
charge_priced (r ∷ rs) (d ∷ ds) (w ∷ ws) [] e = refl
charge_priced (r ∷ rs) (d ∷ ds) (w ∷ ws) (v ∷ x) e = let a = e.rates in let b = e.dues in ap (λ (s : ℕ). r * (d - v) + s) (charge_priced rs ds ws x (record { rates = omega arith; dues = omega arith }))

module _ (r : Rated) (w : Windows) where
  abbrev pub n : ℕ
  n = r.extent.batches

  abbrev pub T : ℕ
  T = r.extent.periods

  abbrev pub cs : List ℕ
  cs = take T r.capacities

  abbrev pub ds : List ℕ
  ds = take n r.dues

  abbrev pub rs : List ℕ
  rs = take n r.rates

  abbrev pub ws : List Window
  ws = (set_of w).each

  abbrev P : ℕ
  P = (set_of w).periods

  level : same_size n T (length ws) P ≡ true → Level rs ds ws
  level fits =
      let few = r.extent.few in
      let wide = (same_size_parts n T (length ws) P fits).0 in
      record { rates = length-take-le n r.rates (omega (arith, r.priced)) ∙ sym wide; dues = length-take-le n r.dues (omega (arith, r.dated)) ∙ sym wide }

  -- A table of batches of the windows.
  pub prices : same_size n T (length ws) P ≡ true → (m Q : ℕ) (each : List Batch) → m ≡ length ws → Q ≡ P → length each ≡ 32 →
      ((k : ℕ) → k < m → at each k ≡ record { earliest = 1; latest = min (latest_of ws k) (get_or r.dues k 0); due = get_or r.dues k 0; rate = get_or r.rates k 0 }) →
      (o : Option Batches) → MatchOption o (Sound m Q each → ⊥) (λ b. Holds m Q each b) → MatchOption o (NothingFits r w) (λ b. Prices r w b)
  prices fits m Q each mn qp long is = go
    where
      p : Proper (set_of w)
      p = held_proper w

      even : Level rs ds ws
      even = level fits

      wide : length ws ≡ n
      wide = (same_size_parts n T (length ws) P fits).0

      due : (k : ℕ) → k < m → get_or ds k 0 ≡ get_or r.dues k 0
      due k h = get_or-take n r.dues k 0 (omega (arith, wide))

      rate : (k : ℕ) → k < m → get_or rs k 0 ≡ get_or r.rates k 0
      rate k h = get_or-take n r.rates k 0 (omega (arith, wide))

      sound : (x : List ℕ) → Lies x (relaxed ds ws) → Sound m Q each
      sound x l =
          let size = length_relaxed ds ws even.dues in
          let first : (k : ℕ) → k < m → (1 ≤ get_or x k 0) × (get_or x k 0 ≤ min (latest_of ws k) (get_or r.dues k 0)) = λ k h. (
          let v = relaxed_at ds ws k even.dues (omega arith) in
          omega (arith, ap (λ u. u.earliest) v, ap (λ u. u.latest) v, due k h, l.not_before k (omega arith), l.not_after k (omega arith))) in
          record {
            few = omega (arith, p.few);
            most = omega (arith, p.most);
            starts = λ k h. omega (arith, ap (λ b. b.earliest) (is k h));
            holds = λ k h. omega (arith, ap (λ b. b.earliest) (is k h), ap (λ b. b.latest) (is k h), first k h);
            ends = λ k h. omega (arith, ap (λ b. b.latest) (is k h), p.ends k (omega arith));
            timely = λ k h. omega (arith, ap (λ b. b.latest) (is k h), ap (λ b. b.due) (is k h));
          }

      same : (b : Batches) → Holds m Q each b → listed b ≡ priced rs ds ws
      same b h =
          let e : listed b ≡ take m each = ap (λ (k : ℕ). take k b.each) h.same_count ∙ ap (take m) h.same_each in
          let l = length-take-le m each (omega (arith, long, mn, p.few)) in
          e ∙ ext_get_or no_batch (take m each) (priced rs ds ws) (omega (arith, l, length_priced rs ds ws even)) (λ k h.
          (let here : k < m = omega arith in
          get_or-take m each k no_batch here ∙ is k here ∙
          ap (λ (d : ℕ). record { earliest = 1; latest = min (latest_of ws k) d; due = d; rate = get_or r.rates k 0 }) (sym (due k here)) ∙
          ap (λ (a : ℕ). record { earliest = 1; latest = min (latest_of ws k) (get_or ds k 0); due = get_or ds k 0; rate = a }) (sym (rate k here)) ∙
          sym (priced_at rs ds ws k even (omega arith))))

      go : (o : Option Batches) → MatchOption o (Sound m Q each → ⊥) (λ b. Holds m Q each b) → MatchOption o (NothingFits r w) (λ b. Prices r w b)
      go None h = λ f x ok. h (sound x ok.0)
      go (Some b) h = record { fits = fits; batches = same b h; periods = h.same_last ∙ qp }

  pub none_floor : NothingFits r w → max_charge ≡ (rated_of r).floor (set_of w)
  none_floor h = go (same_size n T (length ws) P) refl
    where
      go : (b : Bool) → same_size n T (length ws) P ≡ b → max_charge ≡ (rated_of r).floor (set_of w)
      go true e = sym (cond-true (same_size n T (length ws) P) _ max_charge e ∙ floor_none (spent rs ds) (within cs 1) (relaxed ds ws) (h e))
      go false e = sym (cond-false (same_size n T (length ws) P) _ max_charge e)

  module _ (b : Batches) (c : Prices r w b) where
    even : Level rs ds ws
    even = level c.fits

    opened_is : opened_list (listed b) ≡ priced rs ds ws
    opened_is = ap opened_list c.batches ∙ opened_priced rs ds ws

    cost : (x : List ℕ) → charge (λ b. b.rate) (opened_list (listed b)) x ≡ spent rs ds x
    cost x = ap (λ (l : List Batch). charge (λ b. b.rate) l x) opened_is ∙ charge_priced rs ds ws x even

    room : length cs ≡ P
    room = length-take-le T r.capacities (omega (arith, r.long, r.extent.most)) ∙ sym (same_size_parts n T (length ws) P c.fits).1

    capacity : (k : ℕ) → k < P → get_or cs k 0 ≡ get_or r.capacities k 0
    capacity k h = get_or-take T r.capacities k 0 (omega (arith, (same_size_parts n T (length ws) P c.fits).1))

    pub fits_out : (x : List ℕ) → Fits (opened_list (listed b)) r.capacities (last_of b) x → Passes (within cs 1) (relaxed ds ws) x
    fits_out x ok =
        let l = (ap length opened_is ∙ length_priced rs ds ws even) in
        let m = length_relaxed ds ws even.dues in
        let size = ok.size in
        let inside : (k : ℕ) → k < length ws → (1 ≤ get_or x k 0) × (get_or x k 0 ≤ min (latest_of ws k) (get_or ds k 0)) = λ k h. (
        let e = (ap (λ (z : List Batch). at z k) opened_is ∙ priced_at rs ds ws k even h) in
        omega (arith, ap (λ b. b.earliest) e, ap (λ b. b.latest) e, ok.within k (omega arith))) in (
          record {
            same_size = omega arith;
            not_before = λ k h. omega (arith, ap (λ u. u.earliest) (relaxed_at ds ws k even.dues (omega arith)), inside k (omega arith));
            not_after = λ k h. omega (arith, ap (λ u. u.latest) (relaxed_at ds ws k even.dues (omega arith)), inside k (omega arith));
          },
          within_from cs 1 x (λ k h.
              (let z : 1 + k - 1 ≡ k = omega arith in
              omega (arith, ok.fits (1 + k) (omega arith) (omega (arith, room, c.periods)), ap (λ a. get_or r.capacities a 0) z, capacity k (omega (arith, room))))),
        )

    pub fits_in : (x : List ℕ) → Passes (within cs 1) (relaxed ds ws) x → Fits (opened_list (listed b)) r.capacities (last_of b) x
    fits_in x ok =
        let l = (ap length opened_is ∙ length_priced rs ds ws even) in
        let m = length_relaxed ds ws even.dues in
        let size = ok.0.same_size in
        record {
          size = omega arith;
          within = λ k h. (
              let here : k < length ws = omega arith in
              let e = (ap (λ (z : List Batch). at z k) opened_is ∙ priced_at rs ds ws k even here) in
              let v = relaxed_at ds ws k even.dues here in
              omega (arith, ap (λ b. b.earliest) e, ap (λ b. b.latest) e, ap (λ u. u.earliest) v, ap (λ u. u.latest) v, ok.0.not_before k (omega arith), ok.0.not_after k (omega arith)));
          fits = λ t pos le. (
              let z : 1 + (t - 1) ≡ t = omega arith in
              omega (arith, ap (λ s. count s x) z, within_at cs 1 x ok.1 (t - 1) (omega (arith, room, c.periods)), capacity (t - 1) (omega (arith, c.periods))));
        }

    pub full_floor : Impossible (opened_list (listed b)) r.capacities (last_of b) → max_charge ≡ (rated_of r).floor (set_of w)
    full_floor h = none_floor (λ f x ok. h x (fits_in x ok))

    pub some_floor : (p : List ℕ) → Cheapest (λ b. b.rate) (opened_list (listed b)) r.capacities (last_of b) p → charge (λ b. b.rate) (listed b) (take (length (listed b)) p) ≡ (rated_of r).floor (set_of w)
    some_floor p h =
        let x = take (length (opened_list (listed b))) p in
        let same = (opened_is ∙ sym c.batches) in
        ap (λ (l : List Batch). charge (λ b. b.rate) l (take (length l) p)) (sym same) ∙ cost x ∙
        sym (cond-true (same_size n T (length ws) P) _ max_charge c.fits ∙ floor_is (spent rs ds) (within cs 1) (relaxed ds ws) x (fits_out x h.fits) (λ y ok. omega (arith, cost x, cost y, h.least y (fits_in y ok))))

  -- A period is affordable to a forcing of these batches exactly where it is by the rule.
  module _ (b : Batches) (c : Prices r w b) (f : Forcing) (limit : ℕ) (g : Forces f b r.capacities limit) (i v : ℕ) (inside : i < length ws) where
    dated : length ds ≡ length ws
    dated = (level c.fits).dues

    here : i < length (relaxed ds ws)
    here = omega (arith, length_relaxed ds ws dated)

    spends : (x : List ℕ) → charged f x ≡ spent rs ds x
    spends x = ap (λ (a : Batches). charge (λ b. b.rate) (opened_list (listed a)) x) g.same_batches ∙ cost b c x

    pub affords_in : Affords f i v → at_most (forced cs ds rs ws i v) limit ≡ true
    affords_in a =
        let cap = g.same_limit in
        let ok = fits_out b c a.0 (rw (← g.same_batches, ← g.same_capacities) a.1) in
        at_most_in cs ds rs _ a.0 limit (lies_forced (relaxed ds ws) i v here a.0 ok.0 a.2.1, ok.1) (omega (arith, spends a.0, a.3))

    pub affords_out : 1 ≤ v → v ≤ latest_of ws i → v ≤ get_or ds i 0 → at_most (forced cs ds rs ws i v) limit ≡ true → Affords f i v
    affords_out low high due t =
        let cap = g.same_limit in
        let y = at_most_out cs ds rs _ limit t in
        let e = relaxed_at ds ws i dated inside in
        let l = forced_lies (relaxed ds ws) i v here y.0 y.1.0 (omega (arith, ap (λ u. u.earliest) e)) (omega (arith, ap (λ u. u.latest) e)) in
        (y.0, rw (g.same_batches, g.same_capacities) (fits_in b c y.0 (l, y.1.1)), (omega (arith, l.same_size, here), forced_at (relaxed ds ws) i v here y.0 y.1.0), omega (arith, spends y.0, y.2))
