-- A text can be read in one way only: a space and a line feed are no digits, so each number ends where its digits do.
use Rattle.std.proofs.Common.{◌≡◌, ℕ, ◌+◌, ◌^◌, ◌<◌, ◌≤◌, Bool, true, false, cond, List, [], ◌∷◌, ◌++◌, length, Some, None, decimal, Option, sym, refl, ap, ◌∙◌, append_assoc, arith}
use Rattle.std.specs.List.{AllByRecursion as All}
use Rattle.std.proofs.lemmas.Fmt.{decimal_by_steps, decimal_injective}
use Rattle.std.proofs.ByRecursion.{All-push, All-from_get_or}
use Rattle.std.proofs.lemmas.List.{append_cancel_left, length-append}
use Rattle.runs.specs.Run.{Plan, State, is_done}
use Rattle.report.specs.Texts.{line, lines_from, plan_text, none_text, stopped_line, refused_text}
use Rattle.report.specs.Texts.{done_text, stopped_text, state_text, Small, SmallIfAny, OneReading}

-- No byte is below the digits.
abbrev High : List ℕ → Type 0
High ds = All (λ c. 48 ≤ c) ds

high_decimal : (n : ℕ) → n < 2 ^ 64 → High (decimal n)
high_decimal = decimal_by_steps (λ n ds. High ds) (λ n h. (omega arith, tt)) (λ n ds h a. All-push (λ c. 48 ≤ c) ds _ a (omega arith))

-- The first byte below the digits is at one place.
split_one : (c : ℕ) (ds es xs ys : List ℕ) → c < 48 → High ds → High es → ds ++ (c ∷ xs) ≡ es ++ (c ∷ ys) → (ds ≡ es) × (xs ≡ ys)
split_one c [] [] xs ys low a b e = (refl, cc)
split_one c [] (v ∷ es) xs ys low a b e = let h : c ≡ v = cc in absurd (omega (arith, b.0))
split_one c (u ∷ ds) [] xs ys low a b e = let h : u ≡ c = cc in absurd (omega (arith, a.0))
split_one c (u ∷ ds) (v ∷ es) xs ys low a b e =
    let r = split_one c ds es xs ys low a.1 b.1 (cc) in
    let h : u ≡ v = cc in
    (cc, r.1)

-- A number with such a byte after it.
number_one : (c m n : ℕ) (xs ys : List ℕ) → c < 48 → m < 2 ^ 64 → n < 2 ^ 64 → decimal m ++ (c ∷ xs) ≡ decimal n ++ (c ∷ ys)
    → (m ≡ n) × (xs ≡ ys)
number_one c m n xs ys low a b e =
    let r = split_one c (decimal m) (decimal n) xs ys low (high_decimal m a) (high_decimal n b) e in
    (decimal_injective m n a b r.0, r.1)

line_one : (k p q : ℕ) (xs ys : List ℕ) → p ≤ 64 → q ≤ 64 → line k p ++ xs ≡ line k q ++ ys → (p ≡ q) × (xs ≡ ys)
line_one k p q xs ys a b e =
    let f : decimal k ++ (32 ∷ (decimal p ++ (10 ∷ xs))) ≡ decimal k ++ (32 ∷ (decimal q ++ (10 ∷ ys))) = simp append_assoc at e in
    let g = append_cancel_left (decimal k) (32 ∷ (decimal p ++ (10 ∷ xs))) (32 ∷ (decimal q ++ (10 ∷ ys))) f in
    number_one 10 p q xs ys (omega arith) (omega arith) (omega arith) (cc)

line_some : (k p : ℕ) (xs : List ℕ) → line k p ++ xs ≡ [] → ⊥
line_some k p xs e = omega (arith, simp length-append at (ap length e))

lines_one : (k : ℕ) (ps qs : List ℕ) → All (λ p. p ≤ 64) ps → All (λ p. p ≤ 64) qs → lines_from k ps ≡ lines_from k qs → ps ≡ qs
lines_one k [] [] a b e = refl
lines_one k [] (q ∷ qs) a b e = absurd (line_some k q (lines_from (k + 1) qs) (sym e))
lines_one k (p ∷ ps) [] a b e = absurd (line_some k p (lines_from (k + 1) ps) e)
lines_one k (p ∷ ps) (q ∷ qs) a b e =
    let r = line_one k p q (lines_from (k + 1) ps) (lines_from (k + 1) qs) a.0 b.0 e in
    let h = r.0 in
    let t = lines_one (k + 1) ps qs a.1 b.1 r.1 in
    cc

abbrev plan : List ℕ → ℕ → Plan
plan x c = record { schedule = x; charge = c }

pub plan_text_one : (p q : Plan) → Small p → Small q → plan_text p ≡ plan_text q → p ≡ q
plan_text_one p q a b e =
    let ps = p.schedule in
    let qs = q.schedule in
    let r = number_one 10 p.charge q.charge (lines_from 1 ps) (lines_from 1 qs) (omega arith) (omega arith) (omega arith) (cc) in
    let x = lines_one 1 ps qs (All-from_get_or (λ t. t ≤ 64) ps 0 a.periods) (All-from_get_or (λ t. t ≤ 64) qs 0 b.periods) r.1 in
    ap (λ y. plan y p.charge) x ∙ ap (plan qs) r.0

pub refused_text_one : (j k : ℕ) → j ≤ 14 → k ≤ 14 → refused_text j ≡ refused_text k → j ≡ k
refused_text_one j k a b e = (number_one 10 j k [] [] (omega arith) (omega arith) (omega arith) (cc)).0

-- The first byte tells the kinds of text apart.
pub plan_not_none : (p : Plan) → plan_text p ≡ none_text → ⊥
plan_not_none p e = let h : ◌≡◌ {A = ℕ} 112 110 = cc in omega arith

pub plan_not_stopped : (p : Plan) (xs : List ℕ) → plan_text p ≡ stopped_line ++ xs → ⊥
plan_not_stopped p xs e = let h : ◌≡◌ {A = ℕ} 112 115 = cc in omega arith

pub plan_not_refused : (p : Plan) (k : ℕ) → plan_text p ≡ refused_text k → ⊥
plan_not_refused p k e = let h : ◌≡◌ {A = ℕ} 112 114 = cc in omega arith

pub none_not_stopped : (xs : List ℕ) → none_text ≡ stopped_line ++ xs → ⊥
none_not_stopped xs e = let h : ◌≡◌ {A = ℕ} 110 115 = cc in omega arith

pub none_not_refused : (k : ℕ) → none_text ≡ refused_text k → ⊥
none_not_refused k e = let h : ◌≡◌ {A = ℕ} 110 114 = cc in omega arith

pub refused_not_stopped : (k : ℕ) (xs : List ℕ) → refused_text k ≡ stopped_line ++ xs → ⊥
refused_not_stopped k xs e = let h : ◌≡◌ {A = ℕ} 114 115 = cc in omega arith

pub done_not_stopped : (o u : Option Plan) → done_text o ≡ stopped_text u → ⊥
done_not_stopped None None e = none_not_stopped [] e
done_not_stopped None (Some q) e = none_not_stopped (plan_text q) e
done_not_stopped (Some p) None e = plan_not_stopped p [] e
done_not_stopped (Some p) (Some q) e = plan_not_stopped p (plan_text q) e

-- The texts of a search, with a plan or without.
pub done_text_one : (o u : Option Plan) → SmallIfAny o → SmallIfAny u → done_text o ≡ done_text u → o ≡ u
done_text_one None None a b e = refl
done_text_one None (Some q) a b e = absurd (plan_not_none q (sym e))
done_text_one (Some p) None a b e = absurd (plan_not_none p e)
done_text_one (Some p) (Some q) a b e = ap Some (plan_text_one p q a b e)

pub stopped_text_one : (o u : Option Plan) → SmallIfAny o → SmallIfAny u → stopped_text o ≡ stopped_text u → o ≡ u
stopped_text_one None None a b e = refl
stopped_text_one None (Some q) a b e = let h : ◌≡◌ {A = ℕ} 0 1 = cc in absurd (omega arith)
stopped_text_one (Some p) None a b e = let h : ◌≡◌ {A = ℕ} 0 1 = cc in absurd (omega arith)
stopped_text_one (Some p) (Some q) a b e = ap Some (plan_text_one p q a b (append_cancel_left stopped_line (plan_text p) (plan_text q) e))

pub state_text_one : (s t : State) → SmallIfAny s.plan → SmallIfAny t.plan → state_text s ≡ state_text t
    → (is_done s.phase ≡ is_done t.phase) × (s.plan ≡ t.plan)
state_text_one s t a b = by_end (is_done s.phase) (is_done t.phase)
  where
    by_end : (d f : Bool) → cond d (done_text s.plan) (stopped_text s.plan) ≡ cond f (done_text t.plan) (stopped_text t.plan)
        → (d ≡ f) × (s.plan ≡ t.plan)
    by_end true true e = (refl, done_text_one s.plan t.plan a b e)
    by_end true false e = absurd (done_not_stopped s.plan t.plan e)
    by_end false true e = absurd (done_not_stopped t.plan s.plan (sym e))
    by_end false false e = (refl, stopped_text_one s.plan t.plan a b e)

pub one_reading : OneReading
one_reading = record {
  one_plan = plan_text_one;
  one_refusal = refused_text_one;
  plan_not_none = plan_not_none;
  plan_not_stopped = plan_not_stopped;
  plan_not_refused = plan_not_refused;
  none_not_stopped = none_not_stopped;
  none_not_refused = none_not_refused;
  refused_not_stopped = refused_not_stopped;
  one_state = state_text_one;
}
