-- A step keeps what holds of a search.
use Rattle.std.proofs.Common.{◌≡◌, ℕ, suc, ◌+◌, ◌*◌, ◌<◌, ◌≤◌, Bool, true, false, cond, not, eqb, ltb, ◌⊎◌, List, ◌∷◌, length, Some, None, Option, sym, refl, ap, ◌∙◌, subst, inl, inr, arith}
use Rattle.std.proofs.lemmas.Bool.{leb-true, leb-false, le-ltb}
use Rattle.windows.specs.WindowSets.{WindowSet, Lies, Inside, Single}
use Rattle.windows.specs.Halves.{first_wide, one_each, earlier, later, earlier_half, later_half, halved, first_periods}
use Rattle.windows.proofs.Lying.{Nonempty, proper_inside}
use Rattle.windows.proofs.Enumerated.{lies_single, single_lies_is}
use Rattle.rule.specs.Meaning.{Meaning, Lawful, max_charge}
use Rattle.rule.specs.Narrowing.{none, fitting}
use Rattle.runs.specs.Run.{Plan, State, narrowed, closed, split, asked_again, left_over, fate, limit_of, left, stepped}
use Rattle.runs.specs.Law.{Standing, Contends, Later, Better}
use Rattle.runs.specs.Sizes.{Sized}
use Rattle.runs.proofs.Insides.{Narrow, lies_inside, inside_trans, product_pos, product_inside, narrow_inside, single_narrow}
use Rattle.runs.proofs.Orders.{not_both_later}
use Rattle.runs.proofs.Halved.{sized_inside, Halves, halves, narrow}
use Rattle.runs.proofs.Invariant.{In, Part, Wanted, Fine, Going, Opened, Limit, Limited, limited}

-- Where the windows fit and the limit is at most C, narrowing leaves the cut.
pub narrowed_is : (m : Meaning) (w : WindowSet) (l : ℕ) → fitting m w ≡ true → l ≤ max_charge → narrowed m w l ≡ m.cut w l
narrowed_is m w l f h =
    ap (λ (b : Bool). cond (eqb (cond (not b) 7 (cond (ltb max_charge l) 8 (cond (none (m.cut w l)) 9 0))) 0) (m.cut w l) None) f
    ∙ ap (λ (b : Bool). cond (eqb (cond b 8 (cond (none (m.cut w l)) 9 0)) 0) (m.cut w l) None) (le-ltb max_charge l h)
    ∙ go (m.cut w l)
  where
    go : (o : Option WindowSet) → cond (eqb (cond (none o) 9 0) 0) o None ≡ o
    go None = refl
    go (Some v) = refl

fine_fewer : (m : Meaning) (o : Standing) (ps qs : List WindowSet) (plan : Option Plan) → ((y : List ℕ) → In qs y → In ps y) → Fine m o ps plan → Fine m o qs plan
fine_fewer m o ps qs None i f = tt
fine_fewer m o ps qs (Some q) i f = record { contends = f.contends; charged = f.charged; later = λ y h. f.later y (i y h) }

wanted_contends : (m : Meaning) (o : Standing) (plan : Option Plan) (x : List ℕ) → Wanted m o plan x → Contends m o x
wanted_contends m o None x w = w
wanted_contends m o (Some q) x w = w.0

-- The newest part holds nothing that is wanted, and goes.
closes : (m : Meaning) (o : Standing) (p : WindowSet) (ps : List WindowSet) (plan : Option Plan) (k : ℕ) → Going m o (p ∷ ps) plan k → ((x : List ℕ) → Lies x p.each → Wanted m o plan x → ⊥) → Going m o ps plan (suc k)
closes m o p ps plan k g nothing =
    record {
      stack = g.stack.3;
      fine = fine_fewer m o (p ∷ ps) ps plan (λ y i. inr i) g.fine;
      kept = λ x w. elim (g.kept x w) [ inl l ↦ absurd (nothing x l w) | inr i ↦ i ];
      spent = omega (arith, g.spent, product_pos p.each g.stack.0.proper.holds);
    }

-- The newest part is narrowed to v, with all that is wanted, and split.
splits : (m : Meaning) (o : Standing) (p v : WindowSet) (ps : List WindowSet) (plan : Option Plan) (k : ℕ) → Going m o (p ∷ ps) plan k → Part o.windows v → Inside v.each p.each → ((x : List ℕ) → Lies x p.each → Wanted m o plan x → Lies x v.each) → first_wide v.each < length v.each → Going m o (later v ∷ (earlier v ∷ ps)) plan (suc k)
splits m o p v ps plan k g part i stays b =
    record {
      stack = (half (later v) refl h.inside_l h.nonempty_l, above_l, (d.0, omega (arith, d.1, old.1), d.3), (half (earlier v) refl h.inside_e h.nonempty_e, above_e, (d.0, omega (arith, d.1, old.1), d.2), g.stack.3));
      fine = fine_fewer m o (p ∷ ps) (later v ∷ (earlier v ∷ ps)) plan within g.fine;
      kept = λ x w. elim (g.kept x w) [ inl l ↦ spread x (h.covers x (stays x l w)) | inr j ↦ inr (inr j) ];
      spent = omega (arith, g.spent, h.adds, product_inside v.each p.each i, product_pos (halved earlier_half v.each) h.nonempty_e, product_pos (halved later_half v.each) h.nonempty_l);
    }
  where
    h : Halves v.each (halved earlier_half v.each) (halved later_half v.each)
    h = halves v.each part.proper.holds b

    old : (t : ℕ) × (t + length ps ≤ 6 * length o.windows.each) × Sized p.each t
    old = g.stack.2

    d : (u : ℕ) × (u < old.0) × Sized (halved earlier_half v.each) u × Sized (halved later_half v.each) u
    d = h.sized old.0 (sized_inside v.each p.each old.0 i old.2)

    half : (q : WindowSet) → q.periods ≡ v.periods → Inside q.each v.each → Nonempty q.each → Part o.windows q
    half q e j n = record { proper = proper_inside q v part.proper e j n; periods = e ∙ part.periods; inside = inside_trans j part.inside }

    from_l : (x : List ℕ) → Lies x (halved later_half v.each) → Lies x p.each
    from_l x l = lies_inside (lies_inside l h.inside_l) i

    from_e : (x : List ℕ) → Lies x (halved earlier_half v.each) → Lies x p.each
    from_e x l = lies_inside (lies_inside l h.inside_e) i

    above_e : (x y : List ℕ) → Lies x (earlier v).each → In ps y → Later x y
    above_e x y l j = g.stack.1 x y (from_e x l) j

    above_l : (x y : List ℕ) → Lies x (later v).each → In (earlier v ∷ ps) y → Later x y
    above_l x y l (inl r) = h.apart x y l r
    above_l x y l (inr j) = g.stack.1 x y (from_l x l) j

    within : (y : List ℕ) → In (later v ∷ (earlier v ∷ ps)) y → In (p ∷ ps) y
    within y (inl l) = inl (from_l y l)
    within y (inr (inl l)) = inl (from_e y l)
    within y (inr (inr j)) = inr j

    spread : (x : List ℕ) → Lies x (halved earlier_half v.each) ⊎ Lies x (halved later_half v.each) → In (later v ∷ (earlier v ∷ ps)) x
    spread x (inl l) = inr (inl l)
    spread x (inr l) = inl l

-- The newest part comes down to one schedule, which is within the limit, and becomes the plan.
settles : (m : Meaning) (o : Standing) (p : WindowSet) (ps : List WindowSet) (plan : Option Plan) (k l : ℕ) (q : Plan) → Going m o (p ∷ ps) plan k → Limit m o (p ∷ ps) plan l → Lies q.schedule p.each → m.allows o.windows.periods q.schedule ≡ true → m.charge o.windows.periods q.schedule ≤ l → q.charge ≡ m.charge o.windows.periods q.schedule → ((x : List ℕ) → Lies x p.each → Wanted m o plan x → x ≡ q.schedule) → Going m o ps (Some q) (suc k)
settles m o p ps plan k l q g lim lies a c e one =
    record {
      stack = g.stack.3;
      fine = record { contends = wanted_contends m o plan q.schedule (lim.loose q.schedule (lies_inside lies g.stack.0.inside) a c); charged = e; later = λ y i. g.stack.1 q.schedule y lies i };
      kept = λ x w. keep x w (lim.loose x w.0.lies w.0.allowed (cheap x w.1));
      spent = omega (arith, g.spent, product_pos p.each g.stack.0.proper.holds);
    }
  where
    cheap : (x : List ℕ) → Better m o.windows.periods x q.schedule → m.charge o.windows.periods x ≤ l
    cheap x (inl h) = omega arith
    cheap x (inr h) = omega (arith, h.0)

    not_better : (x : List ℕ) → x ≡ q.schedule → Better m o.windows.periods x q.schedule → ⊥
    not_better x s (inl h) = omega (arith, ap (m.charge o.windows.periods) s)
    not_better x s (inr h) = let n : Later q.schedule q.schedule = subst (λ (y : List ℕ). Later y q.schedule) s h.1 in not_both_later q.schedule q.schedule n n

    keep : (x : List ℕ) → Contends m o x × Better m o.windows.periods x q.schedule → Wanted m o plan x → In ps x
    keep x w w' = elim (g.kept x w') [ inl i ↦ absurd (not_better x (one x i w') w.1) | inr i ↦ i ]

module _ (m : Meaning) (law : Lawful m) (o : Standing) (s : State) (k : ℕ) (at : Opened m o s k) (p : WindowSet) (ps : List WindowSet) (g : Going m o (p ∷ ps) s.plan k) where
  gone : ((x : List ℕ) → Lies x p.each → Wanted m o s.plan x → ⊥) → Opened m o (left m s ps closed) (suc k)
  gone nothing = record { phase = refl; cap = at.cap; capped = at.capped; fits = at.fits; going = closes m o p ps s.plan k g nothing }

  -- Of a part v of the windows opened: the laws at the periods opened.
  cut_of : (v : WindowSet) (l : ℕ) (c : Option WindowSet) → l ≤ max_charge → Part o.windows v → narrowed m v l ≡ c → m.cut v l ≡ c
  cut_of v l c b t e =
      let f : fitting m v ≡ true = ap (λ (n : ℕ). m.fits n v.periods) t.inside.same_size ∙ ap (m.fits (length o.windows.each)) t.periods ∙ at.fits in
      sym (narrowed_is m v l f b) ∙ e

  none_in : (v : WindowSet) (l : ℕ) (x : List ℕ) → l ≤ max_charge → Part o.windows v → narrowed m v l ≡ None → Lies x v.each → Contends m o x → m.charge o.windows.periods x ≤ l → ⊥
  none_in v l x b t e i c h = law.cut_none v l x t.proper b (cut_of v l None b t e) i (rw t.periods c.allowed) (rw t.periods h)

  stays_in : (v u : WindowSet) (l : ℕ) (x : List ℕ) → l ≤ max_charge → Part o.windows v → narrowed m v l ≡ Some u → Lies x v.each → Contends m o x → m.charge o.windows.periods x ≤ l → Lies x u.each
  stays_in v u l x b t e i c h = law.cut_keeps v u l x t.proper b (cut_of v l (Some u) b t e) i (rw t.periods c.allowed) (rw t.periods h)

  inside_of : (v u : WindowSet) (l : ℕ) → l ≤ max_charge → Part o.windows v → narrowed m v l ≡ Some u → Inside u.each v.each
  inside_of v u l b t e = (law.cut_inside v u l t.proper b (cut_of v l (Some u) b t e)).1

  part_of : (v u : WindowSet) (l : ℕ) → l ≤ max_charge → Part o.windows v → narrowed m v l ≡ Some u → Part o.windows u
  part_of v u l b t e = let c = law.cut_inside v u l t.proper b (cut_of v l (Some u) b t e) in record { proper = c.2; periods = c.0 ∙ t.periods; inside = inside_trans c.1 t.inside }

  module _ (l : ℕ) (lim : Limit m o (p ∷ ps) s.plan l) where
    -- What is wanted in the newest part stays in what is left of it.
    wanted_in : (v : WindowSet) → narrowed m p l ≡ Some v → (x : List ℕ) → Lies x p.each → Wanted m o s.plan x → Lies x v.each
    wanted_in v e x i w = stays_in p v l x lim.capped g.stack.0 e i (wanted_contends m o s.plan x w) (lim.tight x (inl i) w)

    settled : (v : WindowSet) → narrowed m p l ≡ Some v → Narrow v.each → (c : Option WindowSet) → narrowed m v l ≡ c → Opened m o (left m s ps (asked_again c)) (suc k)
    settled v cut n None e = gone (λ x i w. none_in v l x lim.capped (part_of p v l lim.capped g.stack.0 cut) e (wanted_in v cut x i w) (wanted_contends m o s.plan x w) (lim.tight x (inl i) w))
    settled v cut n (Some u) e = record { phase = refl; cap = at.cap; capped = at.capped; fits = at.fits; going = settles m o p ps s.plan k l (record { schedule = z; charge = m.floor u }) g lim (lies_inside in_v (inside_of p v l lim.capped g.stack.0 cut)) allowed cheap charged one }
      where
        pv : Part o.windows v
        pv = part_of p v l lim.capped g.stack.0 cut

        pu : Part o.windows u
        pu = part_of v u l lim.capped pv e

        u_in_v : Inside u.each v.each
        u_in_v = inside_of v u l lim.capped pv e

        z : List ℕ
        z = first_periods u.each

        single_u : Single u.each z
        single_u = single_narrow u.each pu.proper.holds (narrow_inside u.each v.each n u_in_v)

        in_v : Lies z v.each
        in_v = lies_inside (lies_single u.each z single_u) u_in_v

        first_v : Single v.each (first_periods v.each)
        first_v = single_narrow v.each pv.proper.holds n

        single_v : Single v.each z
        single_v = subst (Single v.each) (sym (single_lies_is v.each (first_periods v.each) z first_v in_v)) first_v

        passes : (m.allows v.periods z ≡ true) × (m.charge v.periods z ≤ l)
        passes = law.cut_single v u l z pv.proper lim.capped single_v (cut_of v l (Some u) lim.capped pv e)

        allowed : m.allows o.windows.periods z ≡ true
        allowed = rw pv.periods at passes.0

        cheap : m.charge o.windows.periods z ≤ l
        cheap = rw pv.periods at passes.1

        charged : m.floor u ≡ m.charge o.windows.periods z
        charged = law.floor_single u z pu.proper single_u (rw pu.periods allowed) ∙ ap (λ (T : ℕ). m.charge T z) pu.periods

        one : (x : List ℕ) → Lies x p.each → Wanted m o s.plan x → x ≡ z
        one x i w = single_lies_is v.each z x single_v (wanted_in v cut x i w)

    narrowing : (c : Option WindowSet) → narrowed m p l ≡ c → Opened m o (left m s ps (left_over m l c)) (suc k)
    narrowing None e = gone (λ x i w. none_in p l x lim.capped g.stack.0 e i (wanted_contends m o s.plan x w) (lim.tight x (inl i) w))
    narrowing (Some v) e = go (one_each v) refl
      where
        go : (b : Bool) → one_each v ≡ b → Opened m o (left m s ps (cond b (asked_again (narrowed m v l)) (split v))) (suc k)
        go true t = settled v e (narrow v.each (leb-true (length v.each) (first_wide v.each) t)) (narrowed m v l) refl
        go false t = record { phase = refl; cap = at.cap; capped = at.capped; fits = at.fits; going = splits m o p v ps s.plan k g (part_of p v l lim.capped g.stack.0 e) (inside_of p v l lim.capped g.stack.0 e) (wanted_in v e) (leb-false (length v.each) (first_wide v.each) t) }

  pursued : (u : Option ℕ) → Limited m o (p ∷ ps) s.plan u → Opened m o (left m s ps (fate m p u)) (suc k)
  pursued None lim = gone (λ x i w. lim x (inl i) w)
  pursued (Some l) lim = narrowing l lim (narrowed m p l) refl

  pub step_keeps : Opened m o (stepped m s (p ∷ ps)) (suc k)
  step_keeps = pursued (limit_of s.cap s.plan) (limited m o (p ∷ ps) s.plan s.cap at.cap at.capped g.fine)
