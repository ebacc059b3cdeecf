-- Every call keeps what holds of a search, and that gives the law.
use Rattle.std.proofs.Common.{◌≡◌, ℕ, suc, ◌+◌, ◌*◌, ◌<◌, ◌≤◌, Bool, true, false, cond, not, ◌&&◌, eqb, ltb, leb, ◌≢◌, ◌⊎◌, List, [], ◌∷◌, length, Some, None, Option, sym, refl, ap, ◌∙◌, subst, inl, inr, ⊎_elim, zero-add, one-add, arith}
use Rattle.std.proofs.lemmas.Bool.{ltb-true, leb-true, leb-false, lt-ltb, le-ltb, le-leb, lt-leb, and_parts, cases_lt, cases_order}
use Rattle.windows.specs.WindowSets.{WindowSet, Proper}
use Rattle.rule.specs.Meaning.{Meaning, Lawful, max_charge}
use Rattle.rule.specs.Narrowing.{fitting}
use Rattle.runs.specs.declared.phase.Phase.{Phase}
use Rattle.runs.specs.declared.phase.Phase.TheVariants.{Done}
use Rattle.runs.specs.Run.{Plan, State, Call, «open», step, tighten, read, fresh, is_idle, is_done, refusal, accepted, phase_of, holding, stepped, within_cap, taken, next, after}
use Rattle.runs.specs.Law.{Standing, opens, lowered, standing, steps, Contends, Later, Better, Open, NothingLost, BestAtEnd, product, windows_of, Upheld, Given, EveryRun}
use Rattle.runs.proofs.Insides.{inside_self, product_pos}
use Rattle.runs.proofs.Orders.{three_ways}
use Rattle.runs.proofs.Halved.{sized_proper}
use Rattle.runs.proofs.Invariant.{In, Stack, Wanted, Fine, Going, Opened, Inv}
use Rattle.runs.proofs.Steps.{step_keeps}

-- The tests of the law and the checks of the calls agree.
not_above : (limit : ℕ) → eqb (cond (ltb max_charge limit) 8 0) 0 ≡ leb limit max_charge
not_above limit =
    ⊎_elim
    (λ h. ap (λ (b : Bool). eqb (cond b 8 0) 0) (lt-ltb max_charge limit h) ∙ sym (lt-leb limit max_charge h))
    (λ h. ap (λ (b : Bool). eqb (cond b 8 0) 0) (le-ltb max_charge limit h) ∙ sym (le-leb limit max_charge h))
    (cases_lt max_charge limit)

pub open_accepted : (m : Meaning) (s : State) (w : WindowSet) (limit : ℕ) → accepted m s («open» w limit) ≡ opens m w limit
open_accepted m s w limit = go (fitting m w)
  where
    go : (f : Bool) → eqb (cond (not f) 7 (cond (ltb max_charge limit) 8 0)) 0 ≡ (f && leb limit max_charge)
    go true = not_above limit
    go false = refl

tighten_accepted : (limit old : ℕ) → eqb (cond (ltb max_charge limit) 8 (cond (leb old limit) 12 0)) 0 ≡ (leb limit max_charge && ltb limit old)
tighten_accepted limit old = ⊎_elim high low (cases_lt max_charge limit)
  where
    high : max_charge < limit → eqb (cond (ltb max_charge limit) 8 (cond (leb old limit) 12 0)) 0 ≡ (leb limit max_charge && ltb limit old)
    high h = rw (lt-ltb max_charge limit h, lt-leb limit max_charge h)

    low : limit ≤ max_charge → eqb (cond (ltb max_charge limit) 8 (cond (leb old limit) 12 0)) 0 ≡ (leb limit max_charge && ltb limit old)
    low h = rw (le-ltb max_charge limit h, le-leb limit max_charge h) (⊎_elim (λ b. rw (lt-leb old limit b, lt-ltb limit old b)) (λ b. rw (le-leb old limit b, le-ltb limit old b)) (cases_lt limit old))

-- An accepted open.
starts : (m : Meaning) (w : WindowSet) (limit : ℕ) → Proper w → fitting m w ≡ true → limit ≤ max_charge → Opened m (record { windows = w; cap = limit }) (holding limit None (w ∷ [])) 0
starts m w limit p f b =
    record {
      phase = refl;
      cap = refl;
      capped = b;
      fits = f;
      going = record {
        stack = (record { proper = p; periods = refl; inside = inside_self w.each }, (λ x y l i. absurd i), (6 * length w.each, omega arith, sized_proper w p), tt);
        fine = tt;
        kept = λ x c. inl c.lies;
        spent = omega (arith, product_pos w.each p.holds);
      };
    }

open_keeps : (m : Meaning) (w : WindowSet) (limit : ℕ) (o : Option Standing) (s : State) (k : ℕ) → Proper w → Inv m o s k → Inv m (cond (opens m w limit) (Some (record { windows = w; cap = limit })) o) (next m s («open» w limit)) (cond (opens m w limit) 0 k)
open_keeps m w limit o s k p i =
    subst (λ (t : Bool). Inv m (cond (opens m w limit) (Some (record { windows = w; cap = limit })) o) (cond t (holding limit None (w ∷ [])) s) (cond (opens m w limit) 0 k)) (sym (open_accepted m s w limit))
    (go (opens m w limit) (and_parts (fitting m w) (leb limit max_charge)))
  where
    go : (b : Bool) → (b ≡ true → (fitting m w ≡ true) × (leb limit max_charge ≡ true)) → Inv m (cond b (Some (record { windows = w; cap = limit })) o) (cond b (holding limit None (w ∷ [])) s) (cond b 0 k)
    go true h = starts m w limit p (h refl).0 (leb-true limit max_charge (h refl).1)
    go false h = i

-- A step.
one_step : (m : Meaning) → Lawful m → (o : Option Standing) (s : State) (k : ℕ) → Inv m o s k → Inv m o (next m s step) (cond (accepted m s step) 1 0 + k)
one_step m law None s k i = (ap (λ (t : State). next m t step) i.0, ap (λ (t : State). cond (accepted m t step) 1 0 + k) i.0 ∙ omega (arith, i.1))
one_step m law (Some o) s k i = subst P (sym i.phase) (go s.parts refl i.going)
  where
    P : Phase → Type 0
    P f = Opened m o (cond (eqb (cond (is_idle f) 10 (cond (is_done f) 11 0)) 0) (stepped m s s.parts) s) (cond (eqb (cond (is_idle f) 10 (cond (is_done f) 11 0)) 0) 1 0 + k)

    go : (ps : List WindowSet) → s.parts ≡ ps → Going m o ps s.plan k → P (phase_of ps)
    go [] e g = rw (zero-add k) i
    go (p ∷ ps) e g = rw (one-add k) (subst (λ (qs : List WindowSet). Opened m o (stepped m s qs) (suc k)) (sym e) (step_keeps m law o s k i p ps g))

-- A tighter cap.
module _ (m : Meaning) (w : WindowSet) (old new : ℕ) (h : new < old) where
  abbrev was : Standing
  was = record { windows = w; cap = old }

  abbrev is_now : Standing
  is_now = record { windows = w; cap = new }

  still : (x : List ℕ) → Contends m is_now x → Contends m was x
  still x c = record { lies = c.lies; allowed = c.allowed; cheap = let d = c.cheap in omega arith }

  tighter : (ps : List WindowSet) (plan : Option Plan) (k : ℕ) → Going m was ps plan k → Going m is_now ps (within_cap new plan) k
  tighter ps None k g = record { stack = g.stack; fine = tt; kept = λ x c. g.kept x (still x c); spent = g.spent }
  tighter ps (Some q) k g = go (leb q.charge new) refl
    where
      go : (b : Bool) → leb q.charge new ≡ b → Going m is_now ps (cond b (Some q) None) k
      go true e =
          record {
            stack = g.stack;
            fine = record { contends = record { lies = g.fine.contends.lies; allowed = g.fine.contends.allowed; cheap = omega (arith, leb-true q.charge new e, g.fine.charged) }; charged = g.fine.charged; later = g.fine.later };
            kept = λ x c. g.kept x (still x c.0, c.1);
            spent = g.spent;
          }
      go false e =
          record {
            stack = g.stack;
            fine = tt;
            kept = λ x c. g.kept x (still x c, inl (omega (arith, leb-false q.charge new e, g.fine.charged, c.cheap)));
            spent = g.spent;
          }

not_idle : (ps : List WindowSet) → is_idle (phase_of ps) ≡ false
not_idle [] = refl
not_idle (p ∷ ps) = refl

idle_stays : (m : Meaning) (limit : ℕ) → next m fresh (tighten limit) ≡ fresh
idle_stays m limit = go (ltb max_charge limit)
  where
    go : (b : Bool) → cond (eqb (cond b 8 10) 0) (taken m fresh (tighten limit)) fresh ≡ fresh
    go true = refl
    go false = refl

tighten_keeps : (m : Meaning) (limit : ℕ) (o : Option Standing) (s : State) (k : ℕ) → Inv m o s k → Inv m (lowered limit o) (next m s (tighten limit)) k
tighten_keeps m limit None s k i = (ap (λ (t : State). next m t (tighten limit)) i.0 ∙ idle_stays m limit, i.1)
tighten_keeps m limit (Some o) s k i = subst (λ (t : Bool). Inv m (lowered limit (Some o)) (cond t (taken m s (tighten limit)) s) k) (sym test) (go (leb limit max_charge) (ltb limit o.cap) refl)
  where
    test : accepted m s (tighten limit) ≡ (leb limit max_charge && ltb limit o.cap)
    test = ap (λ (b : Bool). eqb (cond (ltb max_charge limit) 8 (cond b 10 (cond (leb s.cap limit) 12 0))) 0) (ap is_idle i.phase ∙ not_idle s.parts) ∙ tighten_accepted limit s.cap ∙ ap (λ (n : ℕ). leb limit max_charge && ltb limit n) i.cap

    go : (a b : Bool) → ltb limit o.cap ≡ b → Inv m (cond (a && b) (Some (record { windows = o.windows; cap = limit })) (Some o)) (cond (a && b) (taken m s (tighten limit)) s) k
    go false b e = i
    go true false e = i
    go true true e =
        let h = ltb-true limit o.cap e in
        record { phase = i.phase; cap = refl; capped = omega (arith, i.capped); fits = i.fits; going = tighter m o.windows o.cap limit h s.parts s.plan k i.going }

-- A reading.
pub read_stays : (m : Meaning) (s : State) (room : ℕ) → next m s (read room) ≡ s
read_stays m s room = go (accepted m s (read room))
  where
    go : (b : Bool) → cond b s s ≡ s
    go true = refl
    go false = refl

kept_always : (m : Meaning) → Lawful m → (cs : List Call) → Given cs → Inv m (standing m cs) (after m cs) (steps m cs)
kept_always m law [] g = (refl, refl)
kept_always m law («open» w limit ∷ cs) g = open_keeps m w limit (standing m cs) (after m cs) (steps m cs) g.0 (kept_always m law cs g.1)
kept_always m law (step ∷ cs) g = one_step m law (standing m cs) (after m cs) (steps m cs) (kept_always m law cs g)
kept_always m law (tighten limit ∷ cs) g = tighten_keeps m limit (standing m cs) (after m cs) (steps m cs) (kept_always m law cs g)
kept_always m law (read room ∷ cs) g = rw (read_stays m (after m cs) room) (kept_always m law cs g)

-- The law, from what holds.
open_in : (ps : List WindowSet) (x : List ℕ) → In ps x → Open ps x
open_in [] x i = absurd i
open_in (p ∷ ps) x (inl l) = record { part = p; among = inl refl; lies = l }
open_in (p ∷ ps) x (inr i) = let r = open_in ps x i in record { part = r.part; among = inr r.among; lies = r.lies }

lost : (m : Meaning) (o : Option Standing) (s : State) (k : ℕ) → Inv m o s k → NothingLost m o s.parts s.plan
lost m None s k i = subst (λ (t : State). NothingLost m None t.parts t.plan) (sym i.0) (λ x c. absurd c)
lost m (Some o) s k i = go s.plan i.going.fine i.going.kept
  where
    go : (plan : Option Plan) → Fine m o s.parts plan → ((x : List ℕ) → Wanted m o plan x → In s.parts x) → NothingLost m (Some o) s.parts plan
    go None f kept = λ x c. open_in s.parts x (kept x c)
    go (Some q) f kept = (f.contends, f.charged, λ x c b. open_in s.parts x (kept x (c, b)))

best : (m : Meaning) (o : Option Standing) (s : State) (k : ℕ) → Inv m o s k → s.phase ≡ Done → BestAtEnd m o s.plan
best m None s k i d = subst (λ (t : State). BestAtEnd m None t.plan) (sym i.0) (λ x c. absurd c)
best m (Some o) s k i d = go s.plan i.going.fine (λ x w. none_open s.parts (sym i.phase ∙ d) x (i.going.kept x w))
  where
    none_open : (ps : List WindowSet) → phase_of ps ≡ Done → (x : List ℕ) → In ps x → ⊥
    none_open [] e x j = j
    none_open (p ∷ ps) e x j = let z : ◌≡◌ {A = ℕ} 0 1 = cc in omega arith

    go : (plan : Option Plan) → Fine m o s.parts plan → ((x : List ℕ) → Wanted m o plan x → ⊥) → BestAtEnd m (Some o) plan
    go None f no_one = no_one
    go (Some q) f no_one = (f.contends, λ x c n. beats x c n (cases_order (m.charge o.windows.periods q.schedule) (m.charge o.windows.periods x)) (three_ways q.schedule x (f.contends.lies.same_size ∙ sym c.lies.same_size)))
      where
        beats : (x : List ℕ) → Contends m o x → x ≢ q.schedule → (m.charge o.windows.periods q.schedule ≡ m.charge o.windows.periods x) ⊎ ((m.charge o.windows.periods q.schedule < m.charge o.windows.periods x) ⊎ (m.charge o.windows.periods x < m.charge o.windows.periods q.schedule)) → (q.schedule ≡ x) ⊎ (Later q.schedule x ⊎ Later x q.schedule) → Better m o.windows.periods q.schedule x
        beats x c n (inl e) (inl t) = absurd (n (sym t))
        beats x c n (inl e) (inr (inl t)) = inr (e, t)
        beats x c n (inl e) (inr (inr t)) = absurd (no_one x (c, inr (sym e, t)))
        beats x c n (inr (inl h)) t = inl h
        beats x c n (inr (inr h)) t = absurd (no_one x (c, inl h))

goes_on : (m : Meaning) (o : Option Standing) (s : State) (k : ℕ) → Inv m o s k → (w : Standing) → o ≡ Some w → s.phase ≢ Done → refusal m s step ≡ 0
goes_on m None s k i w e n = absurd (let z : ◌≡◌ {A = ℕ} 0 1 = cc in omega arith)
goes_on m (Some o) s k i w e n = go s.parts i.phase
  where
    go : (ps : List WindowSet) → s.phase ≡ phase_of ps → refusal m s step ≡ 0
    go [] h = absurd (n h)
    go (p ∷ ps) h = ap (λ (f : Phase). cond (is_idle f) 10 (cond (is_done f) 11 0)) h

small : (m : Meaning) (o : Option Standing) (s : State) (k : ℕ) → Inv m o s k → length s.parts ≤ 6 * length (windows_of o) + 1
small m None s k i = omega (arith, ap (λ (t : State). length t.parts) i.0)
small m (Some o) s k i = go s.parts i.going.stack
  where
    go : (ps : List WindowSet) → Stack o.windows ps → length ps ≤ 6 * length o.windows.each + 1
    go [] t = omega arith
    go (p ∷ ps) t = omega (arith, t.2.1)

quick : (m : Meaning) (o : Option Standing) (s : State) (k : ℕ) → Inv m o s k → k < 2 * product (windows_of o)
quick m None s k i = omega (arith, i.1)
quick m (Some o) s k i = omega (arith, i.going.spent)

pub every_run : EveryRun
every_run m law cs g =
    let o = standing m cs in
    let s = after m cs in
    let k = steps m cs in
    let i = kept_always m law cs g in
    record { nothing_lost = lost m o s k i; best_at_end = best m o s k i; accepts = goes_on m o s k i; few_steps = quick m o s k i; room = small m o s k i }

-- The law of a search that a call leaves as the model says, whatever calls led to where it was.
pub call_law : (m : Meaning) → Lawful m → (c : Call) (cs : List Call) (s t : State) → Given (c ∷ cs) → t ≡ next m s c → s ≡ after m cs → Upheld m (c ∷ cs) t × (t ≡ after m (c ∷ cs))
call_law m law c cs s t g e h = let is : t ≡ after m (c ∷ cs) = e ∙ ap (λ (u : State). next m u c) h in (subst (Upheld m (c ∷ cs)) (sym is) (every_run m law (c ∷ cs) g), is)
