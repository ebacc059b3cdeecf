-- What the two halves of a part are: inside it, apart, and together all of it; each can be split less often.
use Rattle.std.proofs.Common.{◌≡◌, ℕ, zero, suc, ◌+◌, ◌-◌, ◌*◌, ◌^◌, ◌<◌, ◌≤◌, Bool, true, false, cond, ltb, ◌⊎◌, List, [], ◌∷◌, length, get_or, set, sym, refl, ap, ◌∙◌, inl, inr, suc-le-suc, le_of_suc-le-suc, add-mul, mul-add, arith}
use Rattle.std.proofs.lemmas.Bool.{cases_lt, ltb-true, ltb-false}
use Rattle.windows.specs.declared.window.Window.{Window}
use Rattle.windows.specs.WindowSets.{WindowSet, Lies, Inside, Proper, earliest_of, latest_of, nowhere}
use Rattle.windows.specs.Halves.{first_wide, middle, earlier_half, later_half, halved}
use Rattle.windows.proofs.Lying.{Nonempty, lies_cons, lies_tail, lies_low, lies_high, lies_empty, inside_tail}
use Rattle.runs.specs.Law.{Later, product}
use Rattle.runs.specs.Sizes.{Sized}
use Rattle.runs.proofs.Insides.{Narrow, nonempty_cons, nonempty_head, nonempty_tail, inside_cons, inside_self}
use Rattle.runs.proofs.Orders.{later_here, later_cons}

pub sized_inside : (vs ws : List Window) (t : ℕ) → Inside vs ws → Sized ws t → Sized vs t
sized_inside [] ws t i s = tt
sized_inside (v ∷ vs) [] t i s = absurd (let e = i.same_size in omega arith)
sized_inside (v ∷ vs) (w ∷ ws) t i s = (s.0, s.1, omega (arith, s.2, i.not_before 0 (omega arith), i.not_after 0 (omega arith)), s.3, sized_inside vs ws s.1 (inside_tail i) s.4)

-- Windows of up to 64 periods can be split six times each.
pub sized_proper : (w : WindowSet) → Proper w → Sized w.each (6 * length w.each)
sized_proper w p = go w.each p.starts (λ k h. omega (arith, p.ends k h, p.most))
  where
    go : (ws : List Window) → ((k : ℕ) → k < length ws → 1 ≤ earliest_of ws k) → ((k : ℕ) → k < length ws → latest_of ws k ≤ 64) → Sized ws (6 * length ws)
    go [] a b = tt
    go (v ∷ vs) a b = (6, 6 * length vs, omega (arith, a 0 (omega arith), b 0 (omega arith)), omega arith, go vs (λ k h. a (suc k) (suc-le-suc h)) (λ k h. b (suc k) (suc-le-suc h)))

pub record Halves (ws es ls : List Window) : Type 0 where
  pub inside_e : Inside es ws
  pub inside_l : Inside ls ws
  pub nonempty_e : Nonempty es
  pub nonempty_l : Nonempty ls
  pub adds : product es + product ls ≡ product ws
  pub sized : (t : ℕ) → Sized ws t → (u : ℕ) × (u < t) × Sized es u × Sized ls u
  pub covers : (x : List ℕ) → Lies x ws → Lies x es ⊎ Lies x ls
  pub apart : (x y : List ℕ) → Lies x ls → Lies y es → Later x y

half_sized : (w : Window) (e : ℕ) → w.earliest < w.latest → w.latest + 1 ≤ w.earliest + 2 ^ e → (d : ℕ) × (e ≡ suc d) × ((earlier_half w).latest + 1 ≤ (earlier_half w).earliest + 2 ^ d) × ((later_half w).latest + 1 ≤ (later_half w).earliest + 2 ^ d)
half_sized w zero h b = absurd (omega arith)
half_sized w (suc d) h b = (d, refl, omega arith, omega arith)

halves_here : (w : Window) (ws : List Window) → w.earliest < w.latest → Nonempty ws → Halves (w ∷ ws) (earlier_half w ∷ ws) (later_half w ∷ ws)
halves_here w ws h hs =
    record {
      inside_e = inside_cons (earlier_half w) w ws ws (omega arith) (omega arith) (inside_self ws);
      inside_l = inside_cons (later_half w) w ws ws (omega arith) (omega arith) (inside_self ws);
      nonempty_e = nonempty_cons (earlier_half w) ws (omega arith) hs;
      nonempty_l = nonempty_cons (later_half w) ws (omega arith) hs;
      adds = sym (add-mul (middle w + 1 - w.earliest) (w.latest + 1 - (middle w + 1)) (product ws)) ∙ ap (λ (n : ℕ). n * product ws) (omega arith);
      sized = sized;
      covers = covers;
      apart = apart;
    }
  where
    sized : (t : ℕ) → Sized (w ∷ ws) t → (u : ℕ) × (u < t) × Sized (earlier_half w ∷ ws) u × Sized (later_half w ∷ ws) u
    sized t s =
        let d = half_sized w s.0 h s.2 in
        let e = d.1 in
        (d.0 + s.1, omega (arith, s.3), (d.0, s.1, d.2, omega arith, s.4), (d.0, s.1, d.3, omega arith, s.4))

    covers : (x : List ℕ) → Lies x (w ∷ ws) → Lies x (earlier_half w ∷ ws) ⊎ Lies x (later_half w ∷ ws)
    covers [] l = lies_empty l
    covers (a ∷ x) l = elim (cases_lt (middle w) a) [
      | inl b ↦ inr (lies_cons a x (later_half w) ws (omega arith) (lies_high l) (lies_tail l))
      | inr b ↦ inl (lies_cons a x (earlier_half w) ws (lies_low l) b (lies_tail l))
    ]

    apart : (x y : List ℕ) → Lies x (later_half w ∷ ws) → Lies y (earlier_half w ∷ ws) → Later x y
    apart [] y l r = lies_empty l
    apart (a ∷ x) [] l r = lies_empty r
    apart (a ∷ x) (b ∷ y) l r = later_here a b x y (omega (arith, lies_low l, lies_high r))

halves_below : (w : Window) (ws es ls : List Window) → w.earliest ≤ w.latest → w.latest ≤ w.earliest → Halves ws es ls → Halves (w ∷ ws) (w ∷ es) (w ∷ ls)
halves_below w ws es ls h h' t =
    record {
      inside_e = inside_cons w w es ws (omega arith) (omega arith) t.inside_e;
      inside_l = inside_cons w w ls ws (omega arith) (omega arith) t.inside_l;
      nonempty_e = nonempty_cons w es h t.nonempty_e;
      nonempty_l = nonempty_cons w ls h t.nonempty_l;
      adds = sym (mul-add (w.latest + 1 - w.earliest) (product es) (product ls)) ∙ ap (λ (n : ℕ). (w.latest + 1 - w.earliest) * n) t.adds;
      sized = λ n s. (let d = t.sized s.1 s.4 in (s.0 + d.0, omega (arith, s.3, d.1), (s.0, d.0, s.2, omega arith, d.2), (s.0, d.0, s.2, omega arith, d.3)));
      covers = covers;
      apart = apart;
    }
  where
    covers : (x : List ℕ) → Lies x (w ∷ ws) → Lies x (w ∷ es) ⊎ Lies x (w ∷ ls)
    covers [] l = lies_empty l
    covers (a ∷ x) l = elim (t.covers x (lies_tail l)) [
      | inl c ↦ inl (lies_cons a x w es (lies_low l) (lies_high l) c)
      | inr c ↦ inr (lies_cons a x w ls (lies_low l) (lies_high l) c)
    ]

    apart : (x y : List ℕ) → Lies x (w ∷ ls) → Lies y (w ∷ es) → Later x y
    apart [] y l r = lies_empty l
    apart (a ∷ x) [] l r = lies_empty r
    apart (a ∷ x) (b ∷ y) l r = later_cons a b x y (omega (arith, lies_low l, lies_high l, lies_low r, lies_high r)) (t.apart x y (lies_tail l) (lies_tail r))

pub halves : (ws : List Window) → Nonempty ws → first_wide ws < length ws → Halves ws (halved earlier_half ws) (halved later_half ws)
halves [] h b = absurd (omega arith)
halves (w ∷ ws) h b = go (ltb w.earliest w.latest) refl b (halves ws (nonempty_tail w ws h))
  where
    go : (c : Bool) → ltb w.earliest w.latest ≡ c → cond c 0 (suc (first_wide ws)) < suc (length ws)
        → (first_wide ws < length ws → Halves ws (halved earlier_half ws) (halved later_half ws))
        → Halves (w ∷ ws) (set (w ∷ ws) (cond c 0 (suc (first_wide ws))) (earlier_half (get_or (w ∷ ws) (cond c 0 (suc (first_wide ws))) nowhere))) (set (w ∷ ws) (cond c 0 (suc (first_wide ws))) (later_half (get_or (w ∷ ws) (cond c 0 (suc (first_wide ws))) nowhere)))
    go true e b' t = halves_here w ws (ltb-true w.earliest w.latest e) (nonempty_tail w ws h)
    go false e b' t = halves_below w ws (halved earlier_half ws) (halved later_half ws) (nonempty_head w ws h) (ltb-false w.earliest w.latest e) (t (le_of_suc-le-suc b'))

-- With no batch to split at, every window is one period.
pub narrow : (ws : List Window) → length ws ≤ first_wide ws → Narrow ws
narrow [] h k b = absurd (omega arith)
narrow (w ∷ ws) h k b = go (ltb w.earliest w.latest) refl h (narrow ws) k b
  where
    go : (c : Bool) → ltb w.earliest w.latest ≡ c → suc (length ws) ≤ cond c 0 (suc (first_wide ws)) → (length ws ≤ first_wide ws → Narrow ws) → Narrow (w ∷ ws)
    go true e b' t j l = absurd (omega arith)
    go false e b' t zero l = ltb-false w.earliest w.latest e
    go false e b' t (suc j) l = t (le_of_suc-le-suc b') j (le_of_suc-le-suc l)
