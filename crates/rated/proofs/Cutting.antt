-- The cut: the hull by Flat, and then the ends that are found.
use Rattle.std.proofs.Common.{◌≡◌, ℕ, ◌<◌, ◌≤◌, Bool, true, false, cond, ◌&&◌, leb, List, length, get_or, take, Some, None, Ok, Err, Option, Result, sym, refl, ap, ◌∙◌, subst, ⊎_elim, arith}
use Rattle.std.specs.Result.{result_ok}
use Rattle.std.proofs.lemmas.List.{get_or-take, length-take-le}
use Rattle.std.proofs.lemmas.Bool.{cond-false, cases_lt, le-leb, not_from_true}
use Rattle.windows.specs.declared.refusal.Refusal.{Refusal}
use Rattle.windows.specs.declared.window.Window.{Window}
use Rattle.windows.specs.declared.windows.Windows.{Windows}
use Rattle.windows.specs.Refusals.{struck}
use Rattle.windows.specs.WindowSets.{WindowSet, nowhere, window, earliest_of, latest_of}
use Rattle.windows.specs.Schedules.{schedules, hull}
use Rattle.windows.specs.Hulls.{Among, Hull, Passes}
use Rattle.windows.specs.Filling.{set_of, paired, Filled}
use Rattle.windows.proofs.Lying.{proper_inside}
use Rattle.windows.proofs.Members.{kept_same}
use Rattle.windows.proofs.Enumerated.{enumerated_some}
use Rattle.windows.proofs.Fills.{paired_at, length_paired}
use Rattle.windows.proofs.Held.{held_proper, fills, numbered}
use Rattle.rule.specs.Meaning.{Meaning, max_charge}
use Rattle.rule.specs.Narrowing.{none, fitting, narrow_checks, Narrowed}
use Rattle.rule.proofs.Entries.{each_inside}
use Rattle.sweep.specs.declared.batches.Batches.{Batches}
use Rattle.flat.specs.Tests.{same_size, waited}
use Rattle.flat.specs.Rules.{flat_allows, flat_within, flat}
use Rattle.flat.specs.Tested.{allowed, on_time_at}
use Rattle.flat.specs.Laws.{flat_lawful, flat_unfit}
use Rattle.rated.specs.declared.rated.Rated.{Rated}
use Rattle.rated.specs.declared.measure.Forcing.{Forcing}
use Rattle.rated.specs.Rates.{forced, at_most, affordable, ends_of, measured, over, after_hull, allowed_hull}
use Rattle.rated.specs.Loading.{rated_of}
use Rattle.rated.specs.Measures.{Prices, NothingFits, Forces, Affords, SomeUnaffordable, First, Final}
use Rattle.rated.specs.Replaced.{Ends, replaced_is, replaced_empty, ends_is, ends_empty}
use Rattle.rated.specs.Relaxed.{on_time_long, relaxed_lies}
use Rattle.rated.specs.Laws.{affordable_in, affordable_out, measured_inside}
use Rattle.rated.proofs.Pricing.{affords_in, affords_out}

-- Without a cap to speak of, Flat cuts to the hull of all that it allows.
module _ (n T : ℕ) (cs ds : List ℕ) (few : n ≤ 32) (soon : (k : ℕ) → k < length ds → get_or ds k 0 ≤ 64) where
  uncapped : (w : WindowSet) → (flat n T cs ds).cut w max_charge ≡ allowed_hull n T cs ds w
  uncapped w = ap (hull w.periods) (kept_same (flat_within n T cs ds w.periods max_charge) (flat_allows n T cs ds w.periods) (schedules w.each) (λ x m. go x (flat_allows n T cs ds w.periods x) refl))
    where
      go : (x : List ℕ) (b : Bool) → flat_allows n T cs ds w.periods x ≡ b → (b && leb (waited ds x) max_charge) ≡ b
      go x true e = le-leb (waited ds x) max_charge ((flat_lawful n T cs ds few soon).sized w.periods x e).1
      go x false e = refl

  -- A refusal says that there is no schedule at all, since the cap is not too high.
  none_allowed : (w h : Windows) (f : Refusal) → Narrowed (flat n T cs ds) max_charge w h (Err f) → allowed_hull n T cs ds (set_of w) ≡ None
  none_allowed w h f d = go (allowed_hull n T cs ds (set_of w)) refl
    where
      fits : (v : WindowSet) → allowed_hull n T cs ds (set_of w) ≡ Some v → (b : Bool) → same_size n T (length (set_of w).each) (set_of w).periods ≡ b → b ≡ true
      fits v s true g = refl
      fits v s false g = let x = (enumerated_some (flat_allows n T cs ds (set_of w).periods) (set_of w).periods (set_of w).each v s).1.some in absurd (flat_unfit n T cs ds (set_of w) x.0 g x.1)

      go : (o : Option WindowSet) → allowed_hull n T cs ds (set_of w) ≡ o → allowed_hull n T cs ds (set_of w) ≡ None
      go None s = s
      go (Some v) s =
          let fit = fits v s (same_size n T (length (set_of w).each) (set_of w).periods) refl in
          let past : struck (narrow_checks (flat n T cs ds) max_charge (set_of w)) ≡ 0 = cond-false _ 7 _ (not_from_true (fitting (flat n T cs ds) (set_of w)) fit) ∙ ap (λ (o : Option WindowSet). cond (none o) 9 0) (uncapped (set_of w) ∙ s) in
          absurd (omega (arith, past, d.0, numbered f))

module _ (r : Rated) where
  abbrev n : ℕ
  n = r.extent.batches

  abbrev T : ℕ
  T = r.extent.periods

  abbrev cs : List ℕ
  cs = take T r.capacities

  abbrev ds : List ℕ
  ds = take n r.dues

  abbrev rs : List ℕ
  rs = take n r.rates

  soon : (k : ℕ) → k < length ds → get_or ds k 0 ≤ 64
  soon k h = omega (arith, r.extent.most, each_inside 1 T ds r.timely k h)

  abbrev hull_of : Windows → Option WindowSet
  hull_of w = allowed_hull r.extent.batches r.extent.periods (take r.extent.periods r.capacities) (take r.extent.batches r.dues) (set_of w)

  -- What Flat's narrowing leaves is the hull.
  module _ (m : Meaning) (w h : Windows) (e : m ≡ flat r.extent.batches r.extent.periods (take r.extent.periods r.capacities) (take r.extent.batches r.dues)) where
    pub hull_some : (o : Result (Unit {0}) Refusal) (u : Unit {0}) → result_ok o ≡ Some u → Narrowed m max_charge w h o → Some (set_of h) ≡ hull_of w
    hull_some (Ok u) v k d = sym d.1 ∙ ap (λ (a : Meaning). a.cut (set_of w) max_charge) e ∙ uncapped n T cs ds r.extent.few soon (set_of w)
    hull_some (Err f) v k d = cc

    pub hull_none : (o : Result (Unit {0}) Refusal) → result_ok o ≡ None → Narrowed m max_charge w h o → None ≡ hull_of w
    hull_none (Ok u) k d = cc
    hull_none (Err f) k d = sym (none_allowed n T cs ds r.extent.few soon w h f (subst (λ (a : Meaning). Narrowed a max_charge w h (Err f)) e d))

  -- It is h.
  module _ (w h : Windows) (e : Some (set_of h) ≡ hull_of w) where
    abbrev P : ℕ
    P = (set_of w).periods

    abbrev hs : List Window
    hs = (set_of h).each

    spans : ((set_of h).periods ≡ P) × Hull (Passes (flat_allows n T cs ds P) (set_of w).each) hs
    spans = enumerated_some (flat_allows n T cs ds P) P (set_of w).each (set_of h) (sym e)

    -- So some schedule lies in the relaxed windows of the hull.
    pub never_nothing : NothingFits r h → ⊥
    never_nothing nil =
        let x = spans.1.some in
        let l = spans.1.lies x.0 x.1 in
        let a = allowed n T cs ds P x.0 x.1.1 in
        let fit = subst (λ (q : ℕ). same_size n T (length hs) q ≡ true) (sym spans.0) (subst (λ (k : ℕ). same_size n T k P ≡ true) l.same_size a.fits) in
        nil fit x.0 (relaxed_lies ds x.0 hs a.prompt l (held_proper h).starts, a.held)

    -- A forcing of its batches.
    module _ (b : Batches) (c : Prices r h b) (f : Forcing) (limit : ℕ) (g : Forces f b r.capacities limit) where
      cut_is : over (set_of h).periods (measured cs ds rs limit hs) ≡ (rated_of r).cut (set_of w) limit
      cut_is = ap (after_hull cs ds rs limit) e

      test : (k v : ℕ) → k < length hs → earliest_of hs k ≤ v → v ≤ latest_of hs k → at_most (forced cs ds rs hs k v) limit ≡ true → Affords f k v
      test k v i lo hi t =
          let x = spans.1.final k i in
          let l = spans.1.lies x.0 x.1 in
          let o = (allowed n T cs ds P x.0 x.1.1).prompt in
          let due = on_time_at ds x.0 o k (omega (arith, on_time_long ds x.0 o, l.same_size)) in
          affords_out r h b c f limit g k v i (omega (arith, (held_proper h).starts k i)) hi (omega (arith, x.2, due)) t

      pub unaffordable : SomeUnaffordable f (set_of h).each → None ≡ (rated_of r).cut (set_of w) limit
      unaffordable nil =
          let empty = replaced_empty (λ i u. ends_of (affordable cs ds rs hs limit i u)) hs nil.0 nil.1 (ends_empty _ (λ t m.
          (let a = affordable_out cs ds rs hs limit nil.0 (get_or hs nil.0 nowhere) t m in
          nil.2 t a.0 a.1 (test nil.0 t nil.1 a.0 a.1 a.2)))) in
          sym (ap (over (set_of h).periods) empty) ∙ cut_is

      -- The ends found, as windows.
      module _ (m Q : ℕ) (p q : List ℕ) (mn : m ≡ length hs) (qp : Q ≡ (set_of h).periods)
          (early : (length p ≡ 32) × ((k : ℕ) → k < length hs → First f hs k (get_or p k 0))) (late : (length q ≡ 32) × ((k : ℕ) → k < length hs → Final f hs k (get_or q k 0))) where
        abbrev es : List ℕ
        es = take m p

        abbrev ls : List ℕ
        ls = take m q

        size : (length es ≡ m) × (length ls ≡ m)
        size = let few = (held_proper h).few in (length-take-le m p (omega (arith, early.0)), length-take-le m q (omega (arith, late.0)))

        level : length es ≡ length ls
        level = size.0 ∙ sym size.1

        at : (k : ℕ) → k < length hs → get_or (paired es ls) k nowhere ≡ window (get_or p k 0) (get_or q k 0)
        at k i = paired_at es ls k level (omega (arith, size)) ∙ ap (λ (a : ℕ). window a (get_or ls k 0)) (get_or-take m p k 0 (omega arith)) ∙ ap (window (get_or p k 0)) (get_or-take m q k 0 (omega arith))

        ends : (k : ℕ) → k < length hs → Ends (affordable cs ds rs hs limit k (get_or hs k nowhere)) (window (get_or p k 0) (get_or q k 0))
        ends k i =
            let a = early.1 k i in
            let z = late.1 k i in
            let out : (t : ℕ) → Among t (affordable cs ds rs hs limit k (get_or hs k nowhere)) → (earliest_of hs k ≤ t) × (t ≤ latest_of hs k) × Affords f k t = λ t m.
            (let o = affordable_out cs ds rs hs limit k (get_or hs k nowhere) t m in (o.0, o.1, test k t i o.0 o.1 o.2)) in
            record {
              first = affordable_in cs ds rs hs limit k (get_or hs k nowhere) (get_or p k 0) a.starts a.ends (affords_in r h b c f limit g k (get_or p k 0) i a.affords);
              final = affordable_in cs ds rs hs limit k (get_or hs k nowhere) (get_or q k 0) z.starts z.ends (affords_in r h b c f limit g k (get_or q k 0) i z.affords);
              low = λ t m. (let o = out t m in ⊎_elim (λ less. absurd (a.before t o.0 less o.2)) (λ more. more) (cases_lt t (get_or p k 0)));
              high = λ t m. (let o = out t m in ⊎_elim (λ less. absurd (z.after t less o.1 o.2)) (λ more. more) (cases_lt (get_or q k 0) t));
            }

        is : measured cs ds rs limit hs ≡ Some (paired es ls)
        is = replaced_is (λ i u. ends_of (affordable cs ds rs hs limit i u)) hs (paired es ls) (record {
          same_size = length_paired es ls level ∙ size.0 ∙ mn;
          each = λ k i. ends_is (λ v. at_most (forced cs ds rs hs k v) limit) (get_or hs k nowhere) (get_or (paired es ls) k nowhere) (subst (λ (u : Window). Ends (affordable cs ds rs hs limit k (get_or hs k nowhere)) u) (sym (at k i)) (ends k i));
        })

        pub filled_cut : (v : Windows) (u : Unit {0}) (o : Result (Unit {0}) Refusal) → result_ok o ≡ Some u → Filled m Q es ls h v o → Some (set_of v) ≡ (rated_of r).cut (set_of w) limit
        filled_cut v u (Ok t) k d = ap (λ (s : WindowSet). Some s) d.1 ∙ ap (λ (t : ℕ). Some (record { periods = t; each = paired es ls })) qp ∙ sym (ap (over (set_of h).periods) is) ∙ cut_is
        filled_cut v u (Err x) k d = cc

        pub never_refused : (v : Windows) (o : Result (Unit {0}) Refusal) → result_ok o ≡ None → Filled m Q es ls h v o → ⊥
        never_refused v (Ok t) k d = cc
        never_refused v (Err x) k d =
            let i = measured_inside cs ds rs hs (paired es ls) limit is in
            let ok = fills m Q es ls size.0 size.1 (proper_inside (record { periods = Q; each = paired es ls }) (set_of h) (held_proper h) qp i.0 i.1) in
            omega (arith, d.0, ok, numbered x)
