-- A pair of lawful rules keeps the laws of a rule.
use Rattle.std.specs.Prelude.{◌≡◌, ℕ, suc, ◌+◌, ◌-◌, ◌<◌, ◌≤◌, true, ◌&&◌, List, length, Some, None, nat_le, slice_index, refl}
use Rattle.std.proofs.Common.{sym, ap, subst, ◌∙◌, ⊎_elim, arith}
use Rattle.std.proofs.lemmas.Bool.{leb-true, le-leb, and_parts, and_from, and_cases, cond-true}
use Rattle.std.proofs.lemmas.Bool.Decides.{nat_tests}
use Rattle.windows.specs.WindowSets.{WindowSet, Lies, Inside, Single, Proper, earliest_of, latest_of}
use Rattle.rule.specs.Meaning.{Meaning, Lawful, max_charge}
use Rattle.rule.specs.Narrowing.{fitting}
use Rattle.layers.specs.Layers.{less, beside, round, slack, pair}
use Rattle.layers.specs.Rounding.{Keeps, Answers, Within, then_some, then_keeps, then_answers, rounds_keep, rounds_answer}

within_self : (w : WindowSet) → Proper w → Within w w
within_self w p = record { same_periods = refl; inside = record { same_size = refl; not_before = λ k h. omega arith; not_after = λ k h. omega arith }; proper = p }

within_trans : (w v u : WindowSet) → Within w v → Within v u → Within w u
within_trans w v u p q =
    let i = p.inside in
    let j = q.inside in
    let n = i.same_size in
    record {
      same_periods = q.same_periods ∙ p.same_periods;
      inside = record {
        same_size = j.same_size ∙ n;
        not_before = λ k h. omega (arith, i.not_before k h, j.not_before k (omega arith));
        not_after = λ k h. omega (arith, i.not_after k h, j.not_after k (omega arith));
      };
      proper = q.proper;
    }

-- A rule fits narrowed windows as it fitted them before.
pub fit_within : (m : Meaning) (w v : WindowSet) → Within w v → fitting m w ≡ true → fitting m v ≡ true
fit_within m w v q e = ap (λ (n : ℕ). m.fits n v.periods) q.inside.same_size ∙ ap (m.fits (length w.each)) q.same_periods ∙ e

-- Windows inside ones of one period each are the same.
single_inside : (v w : WindowSet) (x : List ℕ) → Within w v → Single w.each x → Single v.each x
single_inside v w x q s = record { same_size = s.same_size ∙ sym i.same_size; starts = λ k h. (at k h).0; ends = λ k h. (at k h).1 }
  where
    i : Inside v.each w.each
    i = q.inside

    at : (k : ℕ) → k < length v.each → (earliest_of v.each k ≡ slice_index x k) × (latest_of v.each k ≡ slice_index x k)
    at k h = let b : k < length w.each = omega (arith, i.same_size) in omega (arith, i.not_before k b, i.not_after k b, q.proper.holds k h, s.starts k b, s.ends k b)

-- A schedule in the windows that both sides allow up to the cap.
record Still (a b : Meaning) (limit : ℕ) (x : List ℕ) (w : WindowSet) : Type 0 where
  proper : Proper w
  lies : Lies x w.each
  left : a.allows w.periods x ≡ true
  right : b.allows w.periods x ≡ true
  cheap : a.charge w.periods x + b.charge w.periods x ≤ limit

turned : (a b : Meaning) (limit : ℕ) (x : List ℕ) (w : WindowSet) → Still a b limit x w → Still b a limit x w
turned a b limit x w s = record { proper = s.proper; lies = s.lies; left = s.right; right = s.left; cheap = omega (arith, s.cheap) }

less_some : (m : Meaning) (limit floor : ℕ) (w v : WindowSet) → less m limit floor w ≡ Some v → (floor ≤ limit) × (m.cut w (limit - floor) ≡ Some v)
less_some m limit floor w v e = grind (arith, nat_tests)

-- One side, under the cap less some floor of the other.
module _ (a : Meaning) (la : Lawful a) (limit : ℕ) (capped : limit ≤ max_charge) (floor : ℕ) where
  less_within : (w v : WindowSet) → Proper w → less a limit floor w ≡ Some v → Within w v
  less_within w v p e =
      let r = la.cut_inside w v (limit - floor) p (omega arith) (less_some a limit floor w v e).1 in
      record { same_periods = r.0; inside = r.1; proper = r.2 }

  -- What fits the windows before fits those after.
  pub fit_less : (m : Meaning) (w v : WindowSet) → Proper w → Some v ≡ less a limit floor w → fitting m w ≡ true → fitting m v ≡ true
  fit_less m w v p e t = fit_within m w v (less_within w v p (sym e)) t

-- One side beside the other.
module _ (a b : Meaning) (la : Lawful a) (lb : Lawful b) (limit : ℕ) (capped : limit ≤ max_charge) where
  beside_within : (w v : WindowSet) → Proper w → beside a b limit w ≡ Some v → Within w v
  beside_within w v p e = less_within a la limit capped (b.floor w) w v p e

  -- What fits the windows before fits those after.
  pub fit_beside : (m : Meaning) (w v : WindowSet) → Proper w → Some v ≡ beside a b limit w → fitting m w ≡ true → fitting m v ≡ true
  fit_beside m w v p e t = fit_less a la limit capped (b.floor w) m w v p e t

  beside_still : (x : List ℕ) → Keeps (Still a b limit x) (beside a b limit)
  beside_still x w v s e =
      let q = beside_within w v s.proper e in
      let t = sym q.same_periods in
      record {
        proper = q.proper;
        lies = la.cut_keeps w v (limit - b.floor w) x s.proper (omega arith) (less_some a limit (b.floor w) w v e).1 s.lies s.left (omega (arith, s.cheap, lb.floor_below w x s.proper s.lies s.right));
        left = subst (λ (T : ℕ). a.allows T x ≡ true) t s.left;
        right = subst (λ (T : ℕ). b.allows T x ≡ true) t s.right;
        cheap = subst (λ (T : ℕ). a.charge T x + b.charge T x ≤ limit) t s.cheap;
      }

  beside_answers : (x : List ℕ) → Answers (Still a b limit x) (beside a b limit)
  beside_answers x w s e =
      let f = lb.floor_below w x s.proper s.lies s.right in
      let c = s.cheap in
      la.cut_none w (limit - b.floor w) x s.proper (omega arith) (sym (cond-true _ (a.cut w (limit - b.floor w)) None (le-leb (b.floor w) limit (omega arith))) ∙ e) s.lies s.left (omega arith)

-- One round, and so the rounds.
module _ (a b : Meaning) (la : Lawful a) (lb : Lawful b) (limit : ℕ) (capped : limit ≤ max_charge) where
  pub round_within : (w v : WindowSet) → Proper w → round a b limit w ≡ Some v → Within w v
  round_within w v p e =
      let t = then_some (beside a b limit w) (beside b a limit) v e in
      let q = beside_within a b la lb limit capped w t.0 p t.1 in
      within_trans w t.0 v q (beside_within b a lb la limit capped t.0 v q.proper t.2)

  other_still : (x : List ℕ) → Keeps (Still a b limit x) (beside b a limit)
  other_still x w v s e = turned b a limit x v (beside_still b a lb la limit capped x w v (turned a b limit x w s) e)

  round_still : (x : List ℕ) → Keeps (Still a b limit x) (round a b limit)
  round_still x = then_keeps (Still a b limit x) (beside a b limit) (beside b a limit) (beside_still a b la lb limit capped x) (other_still x)

  round_answers : (x : List ℕ) → Answers (Still a b limit x) (round a b limit)
  round_answers x = then_answers (Still a b limit x) (beside a b limit) (beside b a limit) (beside_still a b la lb limit capped x) (beside_answers a b la lb limit capped x) (λ w s. beside_answers b a lb la limit capped x w (turned a b limit x w s))

  round_single : (x : List ℕ) (w v : WindowSet) → Proper w → Single w.each x → round a b limit w ≡ Some v → (a.allows w.periods x ≡ true) × (b.allows w.periods x ≡ true) × (a.charge w.periods x + b.charge w.periods x ≤ limit)
  round_single x w v p s e =
      let t = then_some (beside a b limit w) (beside b a limit) v e in
      let u = t.0 in
      let q = beside_within a b la lb limit capped w u p t.1 in
      let o = single_inside u w x q s in
      let l = la.cut_single w u (limit - b.floor w) x p (omega arith) s (less_some a limit (b.floor w) w u t.1).1 in
      let second = less_some b limit (a.floor u) u v t.2 in
      let r = lb.cut_single u v (limit - a.floor u) x q.proper (omega arith) o second.1 in
      let f : a.floor u ≡ a.charge w.periods x = la.floor_single u x q.proper o (subst (λ (T : ℕ). a.allows T x ≡ true) (sym q.same_periods) l.0) ∙ ap (λ (T : ℕ). a.charge T x) q.same_periods in
      let c : b.charge w.periods x ≤ limit - a.floor u = subst (λ (T : ℕ). b.charge T x ≤ limit - a.floor u) q.same_periods r.1 in
      (l.0, subst (λ (T : ℕ). b.allows T x ≡ true) q.same_periods r.0, omega (arith, second.0))

-- What a pair allows.
record Both (a b : Meaning) (T : ℕ) (x : List ℕ) : Type 0 where
  left : a.allows T x ≡ true
  right : b.allows T x ≡ true
  small : a.charge T x + b.charge T x ≤ max_charge

allowed : (a b : Meaning) (T : ℕ) (x : List ℕ) → (pair a b).allows T x ≡ true → Both a b T x
allowed a b T x e =
    let p = and_parts (a.allows T x && b.allows T x) (nat_le (a.charge T x + b.charge T x) max_charge) e in
    let q = and_parts (a.allows T x) (b.allows T x) p.0 in
    record { left = q.0; right = q.1; small = leb-true (a.charge T x + b.charge T x) max_charge p.1 }

still : (a b : Meaning) (limit : ℕ) (w : WindowSet) (x : List ℕ) → Proper w → Lies x w.each → (pair a b).allows w.periods x ≡ true → a.charge w.periods x + b.charge w.periods x ≤ limit → Still a b limit x w
still a b limit w x p l e c = let q = allowed a b w.periods x e in record { proper = p; lies = l; left = q.left; right = q.right; cheap = c }

pub pair_lawful : (a b : Meaning) → Lawful a → Lawful b → Lawful (pair a b)
pair_lawful a b la lb =
    record {
      sized = λ T x e. (let q = allowed a b T x e in (and_from (a.fits (length x) T) (b.fits (length x) T) (la.sized T x q.left).0 (lb.sized T x q.right).0, q.small));
      floor_top = λ w p. omega arith;
      floor_below = λ w x p l e. (let q = allowed a b w.periods x e in omega (arith, la.floor_below w x p l q.left, lb.floor_below w x p l q.right));
      floor_single = λ w x p s e. (let q = allowed a b w.periods x e in omega (arith, q.small, la.floor_single w x p s q.left, lb.floor_single w x p s q.right));
      floor_unfit = λ w p e. ⊎_elim (λ f. omega (arith, la.floor_unfit w p f)) (λ f. omega (arith, lb.floor_unfit w p f)) (and_cases (fitting a w) (fitting b w) e);
      cut_inside = λ w v limit p c e. (
          let q = rounds_keep (Within w) (round a b limit) (λ s u r f. within_trans w s u r (round_within a b la lb limit c s u r.proper f)) (suc (slack w.each)) w v (within_self w p) e in
          (q.same_periods, q.inside, q.proper));
      cut_keeps = λ w v limit x p c e l s d. (rounds_keep (Still a b limit x) (round a b limit) (round_still a b la lb limit c x) (suc (slack w.each)) w v (still a b limit w x p l s d) e).lies;
      cut_none = λ w limit x p c e l s d. rounds_answer (Still a b limit x) (round a b limit) (round_still a b la lb limit c x) (round_answers a b la lb limit c x) (suc (slack w.each)) w (still a b limit w x p l s d) e;
      cut_single = λ w v limit x p c s e. (
          let first = then_some (round a b limit w) _ v e in
          let r = round_single a b la lb limit c x w first.0 p s first.1 in
          (and_from (a.allows w.periods x && b.allows w.periods x) (nat_le (a.charge w.periods x + b.charge w.periods x) max_charge) (and_from (a.allows w.periods x) (b.allows w.periods x) r.0 r.1) (le-leb (a.charge w.periods x + b.charge w.periods x) max_charge (omega (arith, r.2))), r.2));
    }
