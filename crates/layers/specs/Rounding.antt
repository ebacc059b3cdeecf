-- Rounds of any step on windows.
use Rattle.std.specs.Prelude.{◌≡◌, ℕ, zero, suc, ◌<◌, true, false, cond, ◌⊎◌, Some, None, Option, ◌≢◌, refl}
use Rattle.std.proofs.Common.{sym, ap, subst, ◌∙◌, inl, inr, ⊎_elim, arith}
use Rattle.std.proofs.lemmas.Bool.{cond-true, cond-false, cases_Bool}
use Rattle.std.specs.Option.{option_and_then}
use Rattle.windows.specs.WindowSets.{WindowSet, Inside, Proper}
use Rattle.windows.proofs.Hulls.{some_inj, not_some}
use Rattle.layers.specs.Layers.{same, slack, rounds}
use Rattle.layers.specs.Slacks.{narrower}

abbrev pub Step : Type 0
Step = WindowSet → Option WindowSet

-- A step keeps what holds of the windows.
abbrev pub Keeps : (WindowSet → Type 0) → Step → Type 0
Keeps Q one = (w v : WindowSet) → Q w → one w ≡ Some v → Q v

-- It is not none where that holds.
abbrev pub Answers : (WindowSet → Type 0) → Step → Type 0
Answers Q one = (w : WindowSet) → Q w → one w ≢ None

pub then_some : (o : Option WindowSet) (go : Step) (v : WindowSet) → option_and_then go o ≡ Some v → (u : WindowSet) × (o ≡ Some u) × (go u ≡ Some v)
then_some None go v e = absurd (not_some v e)
then_some (Some u) go v e = (u, refl, e)

then_none : (o : Option WindowSet) (go : Step) → option_and_then go o ≡ None → (o ≡ None) ⊎ ((u : WindowSet) × (o ≡ Some u) × (go u ≡ None))
then_none None go e = inl refl
then_none (Some u) go e = inr (u, refl, e)

-- What comes of the rounds after the first has led from w to v: nothing more, or k more.
abbrev rest : Step → ℕ → WindowSet → Step
rest one k w v = cond (same v.each w.each) (Some v) (rounds one k v)

rest_ends : (one : Step) (k : ℕ) (w v : WindowSet) → same v.each w.each ≡ true → rest one k w v ≡ Some v
rest_ends one k w v e = cond-true _ (Some v) (rounds one k v) e

rest_goes_on : (one : Step) (k : ℕ) (w v : WindowSet) → same v.each w.each ≡ false → rest one k w v ≡ rounds one k v
rest_goes_on one k w v e = cond-false _ (Some v) (rounds one k v) e

module _ (Q : WindowSet → Type 0) where
  -- One step after the other.
  pub then_keeps : (f g : Step) → Keeps Q f → Keeps Q g → Keeps Q (λ w. option_and_then g (f w))
  then_keeps f g kf kg w v q e = let t = then_some (f w) g v e in kg t.0 v (kf w t.0 q t.1) t.2

  pub then_answers : (f g : Step) → Keeps Q f → Answers Q f → Answers Q g → Answers Q (λ w. option_and_then g (f w))
  then_answers f g kf af ag w q e = ⊎_elim (λ n. af w q n) (λ t. ag t.0 (kf w t.0 q t.1) t.2) (then_none (f w) g e)

  -- What each round keeps, the rounds keep.
  pub rounds_keep : (one : Step) → Keeps Q one → (k : ℕ) → Keeps Q (rounds one k)
  rounds_keep one keeps zero w v q e = subst Q (some_inj w v e) q
  rounds_keep one keeps (suc k) w v q e = then_keeps one (rest one k w) keeps (λ s u p f.
      ⊎_elim
      (λ y. subst Q (some_inj s u (sym (rest_ends one k w s y) ∙ f)) p)
      (λ n. rounds_keep one keeps k s u p (sym (rest_goes_on one k w s n) ∙ f))
      (cases_Bool (same s.each w.each))) w v q e

  -- Where no round is none, the rounds are not.
  pub rounds_answer : (one : Step) → Keeps Q one → Answers Q one → (k : ℕ) → Answers Q (rounds one k)
  rounds_answer one keeps answers zero w q e = not_some w (sym e)
  rounds_answer one keeps answers (suc k) w q e = then_answers one (rest one k w) keeps answers (λ s p f.
      ⊎_elim
      (λ y. not_some s (sym f ∙ rest_ends one k w s y))
      (λ n. rounds_answer one keeps answers k s p (sym (rest_goes_on one k w s n) ∙ f))
      (cases_Bool (same s.each w.each))) w q e

-- Proper windows over the same periods, inside w.
pub record Within (w v : WindowSet) : Type 0 where
  pub same_periods : v.periods ≡ w.periods
  pub inside : Inside v.each w.each
  pub proper : Proper v

-- A step that narrows: a round that changes something takes slack away.
module _ (one : Step) (narrows : (w v : WindowSet) → Proper w → one w ≡ Some v → Within w v) where
  pub rounds_same : (j k : ℕ) (w : WindowSet) → Proper w → slack w.each < j → slack w.each < k → rounds one j w ≡ rounds one k w
  rounds_same zero k w p h i = absurd (omega arith)
  rounds_same (suc j) zero w p h i = absurd (omega arith)
  rounds_same (suc j) (suc k) w p h i = go (one w) refl (λ v q l. rounds_same j k v q (omega arith) (omega arith))
    where
      go : (o : Option WindowSet) → one w ≡ o → ((v : WindowSet) → Proper v → slack v.each < slack w.each → rounds one j v ≡ rounds one k v) → option_and_then (rest one j w) o ≡ option_and_then (rest one k w) o
      go None f r = refl
      go (Some v) f r =
          let q = narrows w v p f in
          ⊎_elim
          (λ y. rest_ends one j w v y.0 ∙ sym (rest_ends one k w v y.0))
          (λ n. rest_goes_on one j w v n.0 ∙ r v q.proper n.1 ∙ sym (rest_goes_on one k w v n.0))
          (narrower v.each w.each q.proper.holds q.inside)

  -- A round that takes no slack away is the last.
  pub settles : (k : ℕ) (w v : WindowSet) → Proper w → one w ≡ Some v → slack v.each ≡ slack w.each → rounds one (suc k) w ≡ Some v
  settles k w v p e s =
      let q = narrows w v p e in
      ⊎_elim
      (λ y. ap (λ (o : Option WindowSet). option_and_then (rest one k w) o) e ∙ rest_ends one k w v y.0)
      (λ n. absurd (omega (arith, n.1)))
      (narrower v.each w.each q.proper.holds q.inside)

  -- Any other does, and the rounds go on from there.
  pub goes_on : (w v : WindowSet) → Proper w → one w ≡ Some v → (slack v.each ≢ slack w.each) → (slack v.each < slack w.each) × (rounds one (suc (slack w.each)) w ≡ rounds one (suc (slack v.each)) v)
  goes_on w v p e s =
      let q = narrows w v p e in
      let k = slack w.each in
      ⊎_elim
      (λ y. absurd (s y.1))
      (λ n. (n.1, ap (λ (o : Option WindowSet). option_and_then (rest one k w) o) e ∙ rest_goes_on one k w v n.0 ∙ rounds_same k (suc (slack v.each)) v q.proper n.1 (omega arith)))
      (narrower v.each w.each q.proper.holds q.inside)
