-- Rated keeps the laws of a rule.
use Rattle.std.specs.Prelude.{◌≡◌, ℕ, ◌<◌, ◌≤◌, true, false, ◌⊎◌, List, [], ◌∷◌, length, Some, None, Option, ◌≢◌, slice_index, slice_index_or, slice_set, refl}
use Rattle.std.proofs.Common.{sym, ap, subst, ◌∙◌, inl, inr, arith}
use Rattle.std.proofs.lemmas.Bool.{leb-true, le-leb, cond-true, cond-false, cond_both, false≢true}
use Rattle.windows.specs.declared.window.Window.{Window}
use Rattle.windows.specs.WindowSets.{WindowSet, Lies, Inside, Single, Proper, window, nowhere, earliest_of, latest_of}
use Rattle.windows.specs.Schedules.{periods_in}
use Rattle.windows.specs.Hulls.{Among, Passes}
use Rattle.windows.proofs.Lying.{Nonempty, proper_inside}
use Rattle.windows.proofs.Members.{kept_in, kept_out, periods_in_in, periods_in_out}
use Rattle.windows.proofs.Hulls.{not_some}
use Rattle.windows.proofs.Enumerated.{lies_single, enumerated_inside, enumerated_keeps, enumerated_none, enumerated_single, cheapest_some, cheapest_none}
use Rattle.rule.specs.Meaning.{Lawful, max_charge}
use Rattle.rule.specs.Tables.{outside}
use Rattle.rule.proofs.Entries.{each_inside}
use Rattle.flat.specs.Tests.{same_size, within, on_time}
use Rattle.flat.specs.Rules.{or_max, flat_allows}
use Rattle.flat.specs.Tested.{allowed, same_size_parts, on_time_at}
use Rattle.flat.specs.Laws.{floor_top, floor_below, floor_is}
use Rattle.rated.specs.Rates.{spent, relaxed, cheapest, forced, at_most, affordable, ends_of, measured, after_hull, allowed_hull, rated}
use Rattle.rated.specs.Replaced.{Ends, replaced_some, replaced_none, over_some, over_none, ends_some, ends_none}
use Rattle.rated.specs.Relaxed.{length_relaxed, relaxed_short, relaxed_at, on_time_long, relaxed_lies, lies_forced, forced_lies, spent_later, spent_bound}

module _ (cs ds rs : List ℕ) where
  -- The least charge in some windows is up to the cap exactly where a schedule is.
  pub at_most_in : (ws : List Window) (x : List ℕ) (limit : ℕ) → Passes (within cs 1) ws x → spent rs ds x ≤ limit → at_most (cheapest cs ds rs ws) limit ≡ true
  at_most_in ws x limit h c = go (cheapest cs ds rs ws) refl
    where
      go : (o : Option ℕ) → cheapest cs ds rs ws ≡ o → at_most o limit ≡ true
      go None e = absurd (cheapest_none (spent rs ds) (within cs 1) ws x e h)
      go (Some a) e = le-leb a limit (omega (arith, (cheapest_some (spent rs ds) (within cs 1) ws a e).below x h))

  pub at_most_out : (ws : List Window) (limit : ℕ) → at_most (cheapest cs ds rs ws) limit ≡ true → (y : List ℕ) × Passes (within cs 1) ws y × (spent rs ds y ≤ limit)
  at_most_out ws limit t = go (cheapest cs ds rs ws) refl t
    where
      go : (o : Option ℕ) → cheapest cs ds rs ws ≡ o → at_most o limit ≡ true → (y : List ℕ) × Passes (within cs 1) ws y × (spent rs ds y ≤ limit)
      go None e f = absurd (false≢true f)
      go (Some a) e f = let c = cheapest_some (spent rs ds) (within cs 1) ws a e in (c.at, c.passes, omega (arith, c.is, leb-true a limit f))

  module _ (ws : List Window) (limit i : ℕ) (w : Window) where
    pub affordable_in : (v : ℕ) → w.earliest ≤ v → v ≤ w.latest → at_most (forced cs ds rs ws i v) limit ≡ true → Among v (affordable cs ds rs ws limit i w)
    affordable_in v lo hi t = kept_in (λ v. at_most (forced cs ds rs ws i v) limit) v (periods_in w) (periods_in_in v w lo hi) t

    pub affordable_out : (v : ℕ) → Among v (affordable cs ds rs ws limit i w) → (w.earliest ≤ v) × (v ≤ w.latest) × (at_most (forced cs ds rs ws i v) limit ≡ true)
    affordable_out v m =
        let r = kept_out (λ v. at_most (forced cs ds rs ws i v) limit) v (periods_in w) m in
        let b = periods_in_out v w r.0 in
        (b.0, b.1, r.1)

  -- Windows that were measured have the ends of the affordable periods.
  measured_ends : (hs vs : List Window) (limit : ℕ) → measured cs ds rs limit hs ≡ Some vs → (length vs ≡ length hs) × ((k : ℕ) → k < length hs → Ends (affordable cs ds rs hs limit k (slice_index_or hs k nowhere)) (slice_index_or vs k nowhere))
  measured_ends hs vs limit e =
      let g = replaced_some (λ i w. ends_of (affordable cs ds rs hs limit i w)) hs vs e in
      (g.same_size, λ k h. ends_some (λ v. at_most (forced cs ds rs hs k v) limit) (slice_index_or hs k nowhere) (slice_index_or vs k nowhere) (g.each k h))

  pub measured_inside : (hs vs : List Window) (limit : ℕ) → measured cs ds rs limit hs ≡ Some vs → Inside vs hs × Nonempty vs
  measured_inside hs vs limit e =
      let m = measured_ends hs vs limit e in
      let n = m.0 in (
        record {
          same_size = n;
          not_before = λ k h. (affordable_out hs limit k (slice_index_or hs k nowhere) (earliest_of vs k) (m.1 k h).first).0;
          not_after = λ k h. (affordable_out hs limit k (slice_index_or hs k nowhere) (latest_of vs k) (m.1 k h).final).1;
        },
        λ k h. (m.1 k (omega arith)).low (latest_of vs k) (m.1 k (omega arith)).final,
      )

  module _ (hs : List Window) (limit : ℕ) (x : List ℕ) where
    -- Each batch of the schedule is in an affordable period.
    abbrev Stays : Type 0
    Stays = (k : ℕ) → k < length hs → Among (slice_index x k) (affordable cs ds rs hs limit k (slice_index_or hs k nowhere))

    -- So it is where the schedule is on time and within the capacities and the cap.
    stays : on_time ds x ≡ true → within cs 1 x ≡ true → Lies x hs → ((k : ℕ) → k < length hs → 1 ≤ earliest_of hs k) → spent rs ds x ≤ limit → Stays
    stays o t l s c k h =
        let r = relaxed_lies ds x hs o l s in
        let size = r.same_size in
        let same = l.same_size in
        affordable_in hs limit k (slice_index_or hs k nowhere) (slice_index x k) (l.not_before k h) (l.not_after k h) (at_most_in (slice_set (relaxed ds hs) k (window (slice_index x k) (slice_index x k))) x limit (lies_forced (relaxed ds hs) k (slice_index x k) (omega arith) x r refl, t) c)

    measured_keeps : Lies x hs → Stays → (vs : List Window) → measured cs ds rs limit hs ≡ Some vs → Lies x vs
    measured_keeps l stay vs e =
        let m = measured_ends hs vs limit e in
        let n = m.0 in
        record {
          same_size = l.same_size ∙ sym n;
          not_before = λ k h. (m.1 k (omega arith)).low (slice_index x k) (stay k (omega arith));
          not_after = λ k h. (m.1 k (omega arith)).high (slice_index x k) (stay k (omega arith));
        }

    measured_none : Stays → measured cs ds rs limit hs ≢ None
    measured_none stay e =
        let r = replaced_none (λ i w. ends_of (affordable cs ds rs hs limit i w)) hs e in
        ends_none (affordable cs ds rs hs limit r.0 (slice_index_or hs r.0 nowhere)) (slice_index x r.0) r.2 (stay r.0 r.1)

  -- In windows of one period each, nothing in the relaxed windows is cheaper.
  none_cheaper : (ws : List Window) (x y : List ℕ) → Single ws x → length ds ≡ length ws → Lies y (relaxed ds ws) → spent rs ds x ≤ spent rs ds y
  none_cheaper ws x y s even l =
      let a = s.same_size in
      let b = l.same_size in
      let long = length_relaxed ds ws even in
      spent_later rs ds x y (omega arith) (λ k m.
      (let c : k < length ws = omega arith in
      omega (arith, s.ends k c, ap (λ w. w.latest) (relaxed_at ds ws k even c), l.not_after k (omega arith))))

  -- So what the cut measures there is the charge.
  measured_single : (hs vs : List Window) (limit : ℕ) (x : List ℕ) → Single hs x → on_time ds x ≡ true → ((k : ℕ) → k < length hs → 1 ≤ earliest_of hs k) → measured cs ds rs limit hs ≡ Some vs → spent rs ds x ≤ limit
  measured_single [] vs limit [] s o p e = none rs ds
    where
      none : (rs ds : List ℕ) → spent rs ds [] ≤ limit
      none [] ds = omega arith
      none (r ∷ rs) [] = omega arith
      none (r ∷ rs) (d ∷ ds) = omega arith
  measured_single [] vs limit (v ∷ x) s o p e = absurd (let n = s.same_size in omega arith)
  measured_single (h ∷ hs) vs limit x s o p e =
      let even = (on_time_long ds x o ∙ s.same_size) in
      let n = length_relaxed ds (h ∷ hs) even in
      let v = earliest_of vs 0 in
      let f = affordable_out (h ∷ hs) limit 0 h v ((measured_ends (h ∷ hs) vs limit e).1 0 (omega arith)).first in
      let y = at_most_out (slice_set (relaxed ds (h ∷ hs)) 0 (window v v)) limit f.2 in
      let first = relaxed_at ds (h ∷ hs) 0 even (omega arith) in
      let low : earliest_of (relaxed ds (h ∷ hs)) 0 ≤ v = omega (arith, ap (λ w. w.earliest) first, p 0 (omega arith), f.0) in
      let high : v ≤ latest_of (relaxed ds (h ∷ hs)) 0 = omega (arith, ap (λ w. w.latest) first, f.1, s.ends 0 (omega arith), on_time_at ds x o 0 (omega arith)) in
      omega (arith, y.2, none_cheaper (h ∷ hs) x y.0 s even (forced_lies (relaxed ds (h ∷ hs)) 0 v (omega arith) y.0 y.1.0 low high))

inside_trans : (us vs ws : List Window) → Inside us vs → Inside vs ws → Inside us ws
inside_trans us vs ws a b =
    let n = b.same_size in
    record {
      same_size = a.same_size ∙ n;
      not_before = λ k h. omega (arith, a.not_before k (omega arith), b.not_before k h);
      not_after = λ k h. omega (arith, a.not_after k (omega arith), b.not_after k h);
    }

single_inside : (vs ws : List Window) (x : List ℕ) → Nonempty vs → Inside vs ws → Single ws x → Single vs x
single_inside vs ws x p i s =
    let n = i.same_size in
    record {
      same_size = s.same_size ∙ sym n;
      starts = λ k h. omega (arith, p k h, s.starts k (omega arith), s.ends k (omega arith), i.not_before k (omega arith), i.not_after k (omega arith));
      ends = λ k h. omega (arith, p k h, s.starts k (omega arith), s.ends k (omega arith), i.not_before k (omega arith), i.not_after k (omega arith));
    }

module _ (cs ds rs : List ℕ) (limit : ℕ) where
  after_some : (o : Option WindowSet) (v : WindowSet) → after_hull cs ds rs limit o ≡ Some v → (h : WindowSet) × (o ≡ Some h) × (v.periods ≡ h.periods) × (measured cs ds rs limit h.each ≡ Some v.each)
  after_some None v e = absurd (not_some v e)
  after_some (Some h) v e = let r = over_some h.periods (measured cs ds rs limit h.each) v e in (h, refl, r.0, r.1)

  after_none : (o : Option WindowSet) → after_hull cs ds rs limit o ≡ None → (o ≡ None) ⊎ ((h : WindowSet) × (o ≡ Some h) × (measured cs ds rs limit h.each ≡ None))
  after_none None e = inl refl
  after_none (Some h) e = inr (h, refl, over_none h.periods (measured cs ds rs limit h.each) e)

module _ (n T : ℕ) (cs ds rs : List ℕ) where
  known : (w : WindowSet) (x : List ℕ) → length x ≡ length w.each → flat_allows n T cs ds w.periods x ≡ true → (rated n T cs ds rs).floor w ≡ or_max (cheapest cs ds rs (relaxed ds w.each))
  known w x l e = cond-true (same_size n T (length w.each) w.periods) _ max_charge (subst (λ (k : ℕ). same_size n T k w.periods ≡ true) l (allowed n T cs ds w.periods x e).fits)

  relaxes : (w : WindowSet) (x : List ℕ) → Proper w → Lies x w.each → flat_allows n T cs ds w.periods x ≡ true → Passes (within cs 1) (relaxed ds w.each) x
  relaxes w x p l e = let a = allowed n T cs ds w.periods x e in (relaxed_lies ds x w.each a.prompt l p.starts, a.held)

  -- A schedule that a cut must keep, in the hull h.
  module _ (w : WindowSet) (limit : ℕ) (x : List ℕ) (p : Proper w) (l : Lies x w.each) (a : flat_allows n T cs ds w.periods x ≡ true) (c : spent rs ds x ≤ limit) where
    module _ (h : WindowSet) (e : allowed_hull n T cs ds w ≡ Some h) where
      lies_hull : Lies x h.each
      lies_hull = enumerated_keeps (flat_allows n T cs ds w.periods) w h x e l a

      stay : (k : ℕ) → k < length h.each → Among (slice_index x k) (affordable cs ds rs h.each limit k (slice_index_or h.each k nowhere))
      stay = let g = allowed n T cs ds w.periods x a in stays cs ds rs h.each limit x g.prompt g.held lies_hull (enumerated_inside (flat_allows n T cs ds w.periods) w h p e).2.starts c

    refused : (allowed_hull n T cs ds w ≡ None) ⊎ ((h : WindowSet) × (allowed_hull n T cs ds w ≡ Some h) × (measured cs ds rs limit h.each ≡ None)) → ⊥
    refused (inl g) = enumerated_none (flat_allows n T cs ds w.periods) w.periods w.each x g (l, a)
    refused (inr g) = measured_none cs ds rs g.0.each limit x (stay g.0 g.1) g.2

-- Due periods from 1 to T are at most 64.
pub timely_bounded : (T : ℕ) (ds : List ℕ) → T ≤ 64 → outside 1 T ds ≡ false → (k : ℕ) → k < length ds → slice_index ds k ≤ 64
timely_bounded T ds most timely k h = omega (arith, each_inside 1 T ds timely k h)

pub rated_lawful : (n T : ℕ) (cs ds rs : List ℕ) → n ≤ 32 → ((k : ℕ) → k < length ds → slice_index ds k ≤ 64) → ((k : ℕ) → k < length rs → slice_index rs k ≤ 1000000) → Lawful (rated n T cs ds rs)
rated_lawful n T cs ds rs few soon cheap =
    record {
      sized = λ P x e. ((allowed n T cs ds P x e).fits, low x (let s = (same_size_parts n T (length x) P (allowed n T cs ds P x e).fits).0 in omega arith));
      floor_top = λ w p. cond_both (same_size n T (length w.each) w.periods) (or_max (cheapest cs ds rs (relaxed ds w.each))) max_charge (λ a. a ≤ max_charge)
          (λ e. floor_top (spent rs ds) (within cs 1) (relaxed ds w.each) (λ y h. low y (omega (arith, p.few, relaxed_short ds w.each, h.0.same_size))))
          (λ e. omega arith);
      floor_below = λ w x p l e. omega (arith, known n T cs ds rs w x l.same_size e, floor_below (spent rs ds) (within cs 1) (relaxed ds w.each) x (relaxes n T cs ds rs w x p l e));
      floor_single = λ w x p s e. known n T cs ds rs w x s.same_size e ∙
          floor_is (spent rs ds) (within cs 1) (relaxed ds w.each) x (relaxes n T cs ds rs w x p (lies_single w.each x s) e)
          (λ y h. none_cheaper cs ds rs w.each x y s (on_time_long ds x (allowed n T cs ds w.periods x e).prompt ∙ s.same_size) h.0);
      floor_unfit = λ w p e. cond-false (same_size n T (length w.each) w.periods) _ max_charge e;
      cut_inside = λ w v limit p c e.
          (let r = after_some cs ds rs limit (allowed_hull n T cs ds w) v e in
          let i = enumerated_inside (flat_allows n T cs ds w.periods) w r.0 p r.1 in
          let m = measured_inside cs ds rs r.0.each v.each limit r.3 in
          (r.2 ∙ i.0, inside_trans v.each r.0.each w.each m.0 i.1, proper_inside v r.0 i.2 r.2 m.0 m.1));
      cut_keeps = λ w v limit x p c e l a d. (let r = after_some cs ds rs limit (allowed_hull n T cs ds w) v e in measured_keeps cs ds rs r.0.each limit x (lies_hull n T cs ds rs w limit x p l a d r.0 r.1) (stay n T cs ds rs w limit x p l a d r.0 r.1) v.each r.3);
      cut_none = λ w limit x p c e l a d. refused n T cs ds rs w limit x p l a d (after_none cs ds rs limit (allowed_hull n T cs ds w) e);
      cut_single = λ w v limit x p c s e.
          (let r = after_some cs ds rs limit (allowed_hull n T cs ds w) v e in
          let a = enumerated_single (flat_allows n T cs ds w.periods) w r.0 x s r.1 in
          let i = enumerated_inside (flat_allows n T cs ds w.periods) w r.0 p r.1 in
          (a, measured_single cs ds rs r.0.each v.each limit x (single_inside r.0.each w.each x i.2.holds i.1 s) (allowed n T cs ds w.periods x a).prompt i.2.starts r.3));
    }
  where
    low : (x : List ℕ) → length x ≤ 32 → spent rs ds x ≤ max_charge
    low x h = omega (arith, spent_bound rs ds x soon cheap)
