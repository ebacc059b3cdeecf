-- Flat's floor and cut, from what is found for the clipped batches.
use Rattle.std.proofs.Common.{◌≡◌, ℕ, ◌<◌, ◌≤◌, min, true, leb, List, length, get_or, take, Some, None, Ok, Err, Option, Result, sym, refl, ap, ◌∙◌, subst, arith, MatchOption}
use Rattle.std.proofs.Props.{props}
use Rattle.std.proofs.Math.Logic.{∥∥₁_elim}
use Rattle.std.proofs.lemmas.List.{ext_get_or, get_or-take, length-take-le}
use Rattle.std.proofs.lemmas.Bool.{and_parts}
use Rattle.windows.specs.declared.refusal.Refusal.{Refusal}
use Rattle.windows.specs.declared.window.Window.{Window}
use Rattle.windows.specs.declared.windows.Windows.{Windows}
use Rattle.windows.specs.WindowSets.{WindowSet, Proper, earliest_of, latest_of}
use Rattle.windows.specs.Hulls.{Hull, Passes}
use Rattle.windows.specs.Filling.{set_of, paired, Filled}
use Rattle.windows.proofs.Enumerated.{enumerated_is, enumerated_empty, enumerated_inside, cheapest_is, cheapest_empty}
use Rattle.windows.proofs.Fills.{paired_at, length_paired}
use Rattle.windows.proofs.Held.{held_proper, fills, numbered}
use Rattle.rule.specs.Narrowing.{CutTo}
use Rattle.line.specs.declared.batch.Batch.{Batch}
use Rattle.sweep.specs.declared.batches.Batches.{Batches}
use Rattle.sweep.specs.Charges.{at, no_batch, Fits, Impossible, charge, Cheapest, Sound}
use Rattle.sweep.specs.Held.{listed, last_of, Holds}
use Rattle.flat.specs.declared.flat.Flat.{Flat}
use Rattle.flat.specs.declared.ends.Ends.{Ends}
use Rattle.flat.specs.declared.ends.sought.Sought.{Sought}
use Rattle.flat.specs.Tests.{same_size, waited}
use Rattle.flat.specs.Rules.{flat_allows, flat_within, least_waited}
use Rattle.flat.specs.Loading.{flat_of}
use Rattle.flat.specs.Ends.{clipped, Clips, NothingAllowed, Good, Supported, Hulled}
use Rattle.flat.specs.Tested.{allowed, on_time_at, same_size_parts}
use Rattle.flat.proofs.Clipped.{length_clipped, clipped_at, charge_clipped, fits_from, fits_to, cheap_from, cheap_to}

module _ (f : Flat) (w : Windows) where
  abbrev n : ℕ
  n = f.slots.extent.batches

  abbrev T : ℕ
  T = f.slots.extent.periods

  abbrev cs : List ℕ
  cs = f.slots.capacities

  abbrev ds : List ℕ
  ds = take n f.dues

  abbrev ws : List Window
  ws = (set_of w).each

  abbrev P : ℕ
  P = (set_of w).periods

  dated : length ds ≡ n
  dated = length-take-le n f.dues (omega (arith, f.dated, f.slots.extent.few))

  room : T ≤ length cs
  room = omega (arith, f.slots.long, f.slots.extent.most)

  -- A table of batches with the windows clipped.
  pub clips : same_size n T (length ws) P ≡ true → (m Q : ℕ) (each : List Batch) → m ≡ length ws → Q ≡ P → length each ≡ 32 →
      ((k : ℕ) → k < m → at each k ≡ record { earliest = earliest_of ws k; latest = min (latest_of ws k) (get_or f.dues k 0); due = get_or f.dues k 0; rate = 1 }) →
      (r : Option Batches) → MatchOption r (Sound m Q each → ⊥) (λ b. Holds m Q each b) → MatchOption r (NothingAllowed f w) (λ b. Clips f w b)
  clips fits m Q each mn qp long is = go
    where
      p : Proper (set_of w)
      p = held_proper w

      wide : length ws ≡ n
      wide = (same_size_parts n T (length ws) P fits).0

      due : (k : ℕ) → k < m → get_or ds k 0 ≡ get_or f.dues k 0
      due k h = get_or-take n f.dues k 0 (omega (arith, wide))

      sound : (x : List ℕ) → Passes (flat_allows n T (take T cs) ds P) ws x → Sound m Q each
      sound x ok =
          let a = allowed n T (take T cs) ds P x ok.1 in
          record {
            few = omega (arith, p.few);
            most = omega (arith, p.most);
            starts = λ k h. omega (arith, ap (λ b. b.earliest) (is k h), p.starts k (omega arith));
            holds = λ k h. omega (arith, ap (λ b. b.earliest) (is k h), ap (λ b. b.latest) (is k h), due k h, ok.0.not_before k (omega arith), ok.0.not_after k (omega arith), on_time_at ds x a.prompt k (omega (arith, dated, wide)));
            ends = λ k h. omega (arith, ap (λ b. b.latest) (is k h), p.ends k (omega arith));
            timely = λ k h. omega (arith, ap (λ b. b.latest) (is k h), ap (λ b. b.due) (is k h));
          }

      same : (b : Batches) → Holds m Q each b → listed b ≡ clipped ds ws
      same b h =
          let e : listed b ≡ take m each = ap (λ (k : ℕ). take k b.each) h.same_count ∙ ap (take m) h.same_each in
          let even : length ds ≡ length ws = dated ∙ sym wide in
          let l = length-take-le m each (omega (arith, long, mn, p.few)) in
          e ∙ ext_get_or no_batch (take m each) (clipped ds ws) (omega (arith, l, length_clipped ds ws even)) (λ k h.
          (let here : k < m = omega arith in
          get_or-take m each k no_batch here ∙ is k here ∙
          ap (λ (d : ℕ). record { earliest = earliest_of ws k; latest = min (latest_of ws k) d; due = d; rate = 1 }) (sym (due k here)) ∙
          sym (clipped_at ds ws k even (omega arith))))

      go : (r : Option Batches) → MatchOption r (Sound m Q each → ⊥) (λ b. Holds m Q each b) → MatchOption r (NothingAllowed f w) (λ b. Clips f w b)
      go None h = λ x ok. h (sound x ok)
      go (Some b) h = record { fits = fits; batches = same b h; periods = h.same_last ∙ qp }

  -- Nothing is allowed.
  pub none_cut : (limit : ℕ) → NothingAllowed f w → (flat_of f).cut (set_of w) limit ≡ None
  none_cut limit h = enumerated_empty (flat_within n T (take T cs) ds P limit) P ws (λ x ok. h x (ok.0, (and_parts (flat_allows n T (take T cs) ds P x) (leb (waited ds x) limit) ok.1).0))

  pub none_least : NothingAllowed f w → None ≡ least_waited n T (take T cs) ds (set_of w)
  none_least h = sym (cheapest_empty (waited ds) (flat_allows n T (take T cs) ds P) ws h)

  module _ (b : Batches) (c : Clips f w b) where
    even : length ds ≡ length ws
    even = dated ∙ sym (same_size_parts n T (length ws) P c.fits).0

    here : (x : List ℕ) → Fits (listed b) cs (last_of b) x → Fits (clipped ds ws) cs P x
    here x h = subst (λ (q : ℕ). Fits (clipped ds ws) cs q x) c.periods (subst (λ (l : List Batch). Fits l cs (last_of b) x) c.batches h)

    there : (x : List ℕ) → Fits (clipped ds ws) cs P x → Fits (listed b) cs (last_of b) x
    there x h = subst (λ (l : List Batch). Fits l cs (last_of b) x) (sym c.batches) (subst (λ (q : ℕ). Fits (clipped ds ws) cs q x) (sym c.periods) h)

    cost : (x : List ℕ) → charge (λ _. 1) (listed b) x ≡ waited ds x
    cost x = ap (λ (l : List Batch). charge (λ _. 1) l x) c.batches ∙ charge_clipped ds ws x even

    abbrev sought : ℕ → Sought
    sought limit = record { batches = b; capacities = cs; limit = limit }

    pub good_from : (limit : ℕ) (x : List ℕ) → Passes (flat_within n T (take T cs) ds P limit) ws x → Good (sought limit) x
    good_from limit x ok =
        let r = cheap_from n T P cs ds ws c.fits dated room limit x ok in
        record { fits = there x r.0; cheap = omega (arith, cost x, charge_clipped ds ws x even, r.1) }

    good_to : (limit : ℕ) (x : List ℕ) → Good (sought limit) x → Passes (flat_within n T (take T cs) ds P limit) ws x
    good_to limit x g = cheap_to n T P cs ds ws c.fits dated room limit x (here x g.fits) (omega (arith, cost x, charge_clipped ds ws x even, g.cheap))

    pub some_least : (p : List ℕ) → Cheapest (λ _. 1) (listed b) cs (last_of b) p → Some (charge (λ _. 1) (listed b) (take (length (listed b)) p)) ≡ least_waited n T (take T cs) ds (set_of w)
    some_least p h =
        let x = take (length (listed b)) p in
        ap Some (cost x) ∙ sym (cheapest_is (waited ds) (flat_allows n T (take T cs) ds P) ws (waited ds x) (record {
          at = x;
          passes = fits_to n T P cs ds ws c.fits dated room x (here x h.fits);
          is = refl;
          below = λ y ok. omega (arith, cost x, cost y, h.least y (there y (fits_from n T P cs ds ws c.fits dated room y ok)));
        }))

    pub full_least : Impossible (listed b) cs (last_of b) → None ≡ least_waited n T (take T cs) ds (set_of w)
    full_least h = none_least (λ x ok. h x (there x (fits_from n T P cs ds ws c.fits dated room x ok)))

    pub full_cut : (limit : ℕ) → ((x : List ℕ) → Good (sought limit) x → ⊥) → (flat_of f).cut (set_of w) limit ≡ None
    full_cut limit h = enumerated_empty (flat_within n T (take T cs) ds P limit) P ws (λ x ok. h x (good_from limit x ok))

    -- The ends found, as windows.
    module _ (limit m Q : ℕ) (es ls : List ℕ) (e : Ends) (mn : m ≡ length ws) (qp : Q ≡ P) (low : es ≡ take m e.earliest) (high : ls ≡ take m e.latest) (h : Hulled (sought limit) e) where
      size : (length (listed b) ≡ m) × (length es ≡ m) × (length ls ≡ m)
      size =
          let few = (held_proper w).few in
          let a = length-take-le m e.earliest (omega (arith, e.low)) in
          let z = length-take-le m e.latest (omega (arith, e.high)) in
          (ap length c.batches ∙ length_clipped ds ws even ∙ sym mn, ap length low ∙ a, ap length high ∙ z)

      level : length es ≡ length ls
      level = size.1 ∙ sym size.2

      at_low : (k : ℕ) → k < m → earliest_of (paired es ls) k ≡ get_or e.earliest k 0
      at_low k i = ap (λ v. v.earliest) (paired_at es ls k level (omega (arith, size))) ∙ ap (λ (l : List ℕ). get_or l k 0) low ∙ get_or-take m e.earliest k 0 i

      at_high : (k : ℕ) → k < m → latest_of (paired es ls) k ≡ get_or e.latest k 0
      at_high k i = ap (λ v. v.latest) (paired_at es ls k level (omega (arith, size))) ∙ ap (λ (l : List ℕ). get_or l k 0) high ∙ get_or-take m e.latest k 0 i

      long : length (paired es ls) ≡ m
      long = length_paired es ls level ∙ size.1

      hulled : Supported (sought limit) e → Hull (Passes (flat_within n T (take T cs) ds P limit) ws) (paired es ls)
      hulled ends =
          record {
            some = (h.some.0, good_to limit h.some.0 h.some.1);
            lies = λ x ok. record {
              same_size = omega (arith, ok.0.same_size, mn, long);
              not_before = λ k i. omega (arith, at_low k (omega (arith, long)), (h.reached k (omega (arith, long, size)) x (good_from limit x ok)).0);
              not_after = λ k i. omega (arith, at_high k (omega (arith, long)), (h.reached k (omega (arith, long, size)) x (good_from limit x ok)).1);
            };
            first = λ k i. (let s = ends.first k (omega (arith, long, size)) in (s.0, good_to limit s.0 s.1, s.2 ∙ sym (at_low k (omega (arith, long)))));
            final = λ k i. (let s = ends.final k (omega (arith, long, size)) in (s.0, good_to limit s.0 s.1, s.2 ∙ sym (at_high k (omega (arith, long)))));
          }

      is : (flat_of f).cut (set_of w) limit ≡ Some (record { periods = Q; each = paired es ls })
      is = ∥∥₁_elim h.supported (hlevel props) (λ ends. enumerated_is (flat_within n T (take T cs) ds P limit) P ws (paired es ls) (hulled ends) ∙ ap (λ (q : ℕ). Some (record { periods = q; each = paired es ls })) (sym qp))

      pub filled_cut : (v : Windows) (r : Result (Unit {0}) Refusal) → Filled m Q es ls w v r → CutTo ((flat_of f).cut (set_of w) limit) w v r
      filled_cut v (Ok u) g = is ∙ ap (λ (s : WindowSet). Some s) (sym g.1)
      filled_cut v (Err x) g =
          let ok = fills m Q es ls size.1 size.2 (enumerated_inside (flat_within n T (take T cs) ds P limit) (set_of w) (record { periods = Q; each = paired es ls }) (held_proper w) is).2 in
          absurd (omega (arith, g.0, ok, numbered x))
