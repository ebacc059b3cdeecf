-- What holds of a search after each call.
use Rattle.std.proofs.Common.{◌≡◌, ℕ, ◌+◌, ◌-◌, ◌*◌, ◌<◌, ◌≤◌, Bool, true, false, cond, eqb, ◌⊎◌, List, [], ◌∷◌, length, Some, None, Option, refl, inl, inr, arith}
use Rattle.std.proofs.lemmas.Bool.{eqb-true, eqb-false}
use Rattle.windows.specs.WindowSets.{WindowSet, Lies, Inside, Proper}
use Rattle.rule.specs.Meaning.{Meaning, max_charge}
use Rattle.rule.specs.Narrowing.{fitting}
use Rattle.runs.specs.Run.{Plan, State, fresh, phase_of, limit_of}
use Rattle.runs.specs.Law.{Standing, Contends, Later, Better, product}
use Rattle.runs.specs.Sizes.{Sized}
use Rattle.runs.proofs.Orders.{not_both_later}

-- x lies in one of the parts.
abbrev pub In : List WindowSet → List ℕ → Type 0
In [] x = ⊥
In (p ∷ ps) x = Lies x p.each ⊎ In ps x

-- A part of the windows opened.
pub record Part (w p : WindowSet) : Type 0 where
  pub proper : Proper p
  pub periods : p.periods ≡ w.periods
  pub inside : Inside p.each w.each

-- Parts, the newest first: each later than all that are older, with fewer splits left the more there are below it.
abbrev pub Stack : WindowSet → List WindowSet → Type 0
Stack w [] = Unit {0}
Stack w (p ∷ ps) = Part w p × ((x y : List ℕ) → Lies x p.each → In ps y → Later x y) × ((t : ℕ) × (t + length ps ≤ 6 * length w.each) × Sized p.each t) × Stack w ps

-- The steps that the parts can still take.
abbrev pub weigh : List WindowSet → ℕ
weigh [] = 0
weigh (p ∷ ps) = (2 * product p.each - 1) + weigh ps

-- A contender, better than the plan held.
abbrev pub Wanted : Meaning → Standing → Option Plan → List ℕ → Type 0
Wanted m o None x = Contends m o x
Wanted m o (Some q) x = Contends m o x × Better m o.windows.periods x q.schedule

-- A contender with its charge, later than all in the parts.
pub record Held (m : Meaning) (o : Standing) (ps : List WindowSet) (q : Plan) : Type 0 where
  pub contends : Contends m o q.schedule
  pub charged : q.charge ≡ m.charge o.windows.periods q.schedule
  pub later : (y : List ℕ) → In ps y → Later q.schedule y

abbrev pub Fine : Meaning → Standing → List WindowSet → Option Plan → Type 0
Fine m o ps None = Unit {0}
Fine m o ps (Some q) = Held m o ps q

pub record Going (m : Meaning) (o : Standing) (ps : List WindowSet) (plan : Option Plan) (k : ℕ) : Type 0 where
  pub stack : Stack o.windows ps
  pub fine : Fine m o ps plan
  pub kept : (x : List ℕ) → Wanted m o plan x → In ps x
  pub spent : weigh ps + k < 2 * product o.windows.each

pub record Opened (m : Meaning) (o : Standing) (s : State) (k : ℕ) : Type 0 where
  pub phase : s.phase ≡ phase_of s.parts
  pub cap : s.cap ≡ o.cap
  pub capped : o.cap ≤ max_charge
  pub fits : fitting m o.windows ≡ true
  pub going : Going m o s.parts s.plan k

abbrev pub Inv : Meaning → Option Standing → State → ℕ → Type 0
Inv m None s k = (s ≡ fresh) × (k ≡ 0)
Inv m (Some o) s k = Opened m o s k

-- What the limit of a step says: all that is wanted and open is within it, and all that is within it is wanted.
pub record Limit (m : Meaning) (o : Standing) (ps : List WindowSet) (plan : Option Plan) (l : ℕ) : Type 0 where
  pub capped : l ≤ max_charge
  pub tight : (x : List ℕ) → In ps x → Wanted m o plan x → m.charge o.windows.periods x ≤ l
  pub loose : (x : List ℕ) → Lies x o.windows.each → m.allows o.windows.periods x ≡ true → m.charge o.windows.periods x ≤ l → Wanted m o plan x

abbrev pub Limited : Meaning → Standing → List WindowSet → Option Plan → Option ℕ → Type 0
Limited m o ps plan None = (x : List ℕ) → In ps x → Wanted m o plan x → ⊥
Limited m o ps plan (Some l) = Limit m o ps plan l

-- An open schedule that is better than the held plan has a lower charge.
cheaper : (m : Meaning) (o : Standing) (ps : List WindowSet) (q : Plan) (x : List ℕ) → Held m o ps q → In ps x → Better m o.windows.periods x q.schedule → m.charge o.windows.periods x < q.charge
cheaper m o ps q x h i (inl b) = let e = h.charged in omega arith
cheaper m o ps q x h i (inr b) = absurd (not_both_later x q.schedule b.1 (h.later x i))

pub limited : (m : Meaning) (o : Standing) (ps : List WindowSet) (plan : Option Plan) (c : ℕ) → c ≡ o.cap → o.cap ≤ max_charge → Fine m o ps plan → Limited m o ps plan (limit_of c plan)
limited m o ps None c e b f = record { capped = omega arith; tight = λ x i w. (let d = w.cheap in omega arith); loose = λ x l a h. record { lies = l; allowed = a; cheap = omega arith } }
limited m o ps (Some q) c e b f = go (eqb q.charge 0) refl
  where
    go : (t : Bool) → eqb q.charge 0 ≡ t → Limited m o ps (Some q) (cond t None (Some (q.charge - 1)))
    go true t = λ x i w. omega (arith, cheaper m o ps q x f i w.1, eqb-true q.charge 0 t)
    go false t =
        let n : 0 < q.charge = omega (arith, eqb-false q.charge 0 t) in
        let a = f.contends.cheap in
        let d = f.charged in
        record {
          capped = omega arith;
          tight = λ x i w. omega (arith, cheaper m o ps q x f i w.1);
          loose = λ x l y h. (record { lies = l; allowed = y; cheap = omega arith }, inl (omega arith));
        }
