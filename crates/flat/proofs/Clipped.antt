-- What Flat allows in some windows is what fits their clipped batches.
use Rattle.std.proofs.Common.{◌≡◌, ℕ, zero, suc, ◌+◌, ◌-◌, ◌<◌, ◌≤◌, min, true, leb, List, [], ◌∷◌, length, get_or, take, sym, refl, ap, ◌∙◌, subst, arith}
use Rattle.std.proofs.lemmas.List.{get_or-take, length-take-le}
use Rattle.std.proofs.lemmas.Bool.{le-leb, leb-true, and_parts, and_from}
use Rattle.windows.specs.declared.window.Window.{Window}
use Rattle.windows.specs.WindowSets.{earliest_of, latest_of}
use Rattle.windows.specs.Schedules.{count}
use Rattle.windows.specs.Hulls.{Passes}
use Rattle.line.specs.declared.batch.Batch.{Batch}
use Rattle.sweep.specs.Charges.{at, Fits, charge}
use Rattle.flat.specs.Tests.{same_size, waited}
use Rattle.flat.specs.Rules.{flat_allows, flat_within}
use Rattle.flat.specs.Ends.{clipped}
use Rattle.flat.specs.Tested.{within_at, within_from, on_time_at, on_time_from, allowed, allows, same_size_parts}

pub length_clipped : (ds : List ℕ) (ws : List Window) → length ds ≡ length ws → length (clipped ds ws) ≡ length ws
length_clipped [] [] e = refl
length_clipped [] (w ∷ ws) e = absurd (omega arith)
length_clipped (d ∷ ds) [] e = absurd (omega arith)
length_clipped (d ∷ ds) (w ∷ ws) e = ap suc (length_clipped ds ws (omega arith))

pub clipped_at : (ds : List ℕ) (ws : List Window) (k : ℕ) → length ds ≡ length ws → k < length ws → at (clipped ds ws) k ≡ record { earliest = earliest_of ws k; latest = min (latest_of ws k) (get_or ds k 0); due = get_or ds k 0; rate = 1 }
clipped_at [] [] k e h = absurd (omega arith)
clipped_at [] (w ∷ ws) k e h = absurd (omega arith)
clipped_at (d ∷ ds) [] k e h = absurd (omega arith)
clipped_at (d ∷ ds) (w ∷ ws) zero e h = refl
clipped_at (d ∷ ds) (w ∷ ws) (suc k) e h = clipped_at ds ws k (omega arith) (omega arith)

pub charge_clipped : (ds : List ℕ) (ws : List Window) (x : List ℕ) → length ds ≡ length ws → charge (λ _. 1) (clipped ds ws) x ≡ waited ds x
charge_clipped [] [] x e = refl
charge_clipped [] (w ∷ ws) x e = absurd (omega arith)
charge_clipped (d ∷ ds) [] x e = absurd (omega arith)
charge_clipped (d ∷ ds) (w ∷ ws) [] e = refl
charge_clipped (d ∷ ds) (w ∷ ws) (v ∷ x) e = omega (arith, charge_clipped ds ws x (omega arith))

module _ (n T P : ℕ) (cs ds : List ℕ) (ws : List Window) (fits : same_size n T (length ws) P ≡ true) (dated : length ds ≡ n) (room : T ≤ length cs) where
  abbrev pub bs : List Batch
  bs = clipped ds ws

  sized : (length ws ≡ n) × (P ≡ T)
  sized = same_size_parts n T (length ws) P fits

  even : length ds ≡ length ws
  even = dated ∙ sym sized.0

  caps : length (take T cs) ≡ T
  caps = length-take-le T cs room

  pub fits_from : (x : List ℕ) → Passes (flat_allows n T (take T cs) ds P) ws x → Fits bs cs P x
  fits_from x ok =
      let a = allowed n T (take T cs) ds P x ok.1 in
      let l = length_clipped ds ws even in
      let size = ok.0.same_size in
      record {
        size = omega arith;
        within = λ k h. (
            let here : k < length ws = omega arith in
            let c = clipped_at ds ws k even here in
            omega (arith, ap (λ b. b.earliest) c, ap (λ b. b.latest) c, ok.0.not_before k here, ok.0.not_after k here, on_time_at ds x a.prompt k (omega (arith, even))));
        fits = λ t pos le. (
            let z : 1 + (t - 1) ≡ t = omega arith in
            let same = sized.1 in
            omega (arith, ap (λ s. count s x) z, within_at (take T cs) 1 x a.held (t - 1) (omega (arith, caps)), get_or-take T cs (t - 1) 0 (omega arith)));
      }

  pub fits_to : (x : List ℕ) → Fits bs cs P x → Passes (flat_allows n T (take T cs) ds P) ws x
  fits_to x ok =
      let l = length_clipped ds ws even in
      let size = ok.size in
      let same = sized.1 in
      let inside : (k : ℕ) → k < length ws → (earliest_of ws k ≤ get_or x k 0) × (get_or x k 0 ≤ min (latest_of ws k) (get_or ds k 0)) = λ k h. (
      let c = clipped_at ds ws k even h in
      omega (arith, ap (λ b. b.earliest) c, ap (λ b. b.latest) c, ok.within k (omega arith))) in (
        record {
          same_size = omega arith;
          not_before = λ k h. (inside k h).0;
          not_after = λ k h. omega (arith, (inside k h).1);
        },
        allows n T (take T cs) ds P x (record {
          prompt = on_time_from ds x (omega (arith, even)) (λ k h. omega (arith, (inside k (omega (arith, even))).1));
          fits = subst (λ (m : ℕ). same_size n T m P ≡ true) (omega arith) fits;
          held = within_from (take T cs) 1 x (λ k h.
              (let z : 1 + k - 1 ≡ k = omega arith in
              omega (arith, ok.fits (1 + k) (omega arith) (omega (arith, caps)), ap (λ a. get_or cs a 0) z, get_or-take T cs k 0 (omega (arith, caps)))));
        }),
      )

  pub cheap_from : (limit : ℕ) (x : List ℕ) → Passes (flat_within n T (take T cs) ds P limit) ws x → Fits bs cs P x × (charge (λ _. 1) bs x ≤ limit)
  cheap_from limit x ok =
      let p = and_parts (flat_allows n T (take T cs) ds P x) (leb (waited ds x) limit) ok.1 in
      (fits_from x (ok.0, p.0), omega (arith, charge_clipped ds ws x even, leb-true (waited ds x) limit p.1))

  pub cheap_to : (limit : ℕ) (x : List ℕ) → Fits bs cs P x → charge (λ _. 1) bs x ≤ limit → Passes (flat_within n T (take T cs) ds P limit) ws x
  cheap_to limit x ok cheap =
      let p = fits_to x ok in
      (p.0, and_from (flat_allows n T (take T cs) ds P x) (leb (waited ds x) limit) p.1 (le-leb (waited ds x) limit (omega (arith, charge_clipped ds ws x even))))
