-- Windows inside windows, one batch more; the product of their lengths; windows of one period each.
use Rattle.std.proofs.Common.{ℕ, zero, suc, ◌<◌, ◌≤◌, List, [], ◌∷◌, length, sym, refl, ap, ◌∙◌, suc-le-suc, le_of_suc-le-suc, mul-le-mul, mul-pos, arith}
use Rattle.windows.specs.declared.window.Window.{Window}
use Rattle.windows.specs.WindowSets.{Lies, Inside, Single, earliest_of, latest_of}
use Rattle.windows.specs.Halves.{first_periods}
use Rattle.windows.proofs.Lying.{Nonempty, inside_tail}
use Rattle.windows.proofs.Halving.{length_periods, periods_at}
use Rattle.runs.specs.Law.{product}

pub nonempty_cons : (w : Window) (ws : List Window) → w.earliest ≤ w.latest → Nonempty ws → Nonempty (w ∷ ws)
nonempty_cons w ws h hs zero b = h
nonempty_cons w ws h hs (suc k) b = hs k (le_of_suc-le-suc b)

pub nonempty_head : (w : Window) (ws : List Window) → Nonempty (w ∷ ws) → w.earliest ≤ w.latest
nonempty_head w ws h = h 0 (omega arith)

pub nonempty_tail : (w : Window) (ws : List Window) → Nonempty (w ∷ ws) → Nonempty ws
nonempty_tail w ws h k b = h (suc k) (suc-le-suc b)

pub inside_cons : (v w : Window) (vs ws : List Window) → w.earliest ≤ v.earliest → v.latest ≤ w.latest → Inside vs ws → Inside (v ∷ vs) (w ∷ ws)
inside_cons v w vs ws lo hi i = record { same_size = ap suc i.same_size; not_before = not_before; not_after = not_after }
  where
    not_before : (k : ℕ) → k < length (w ∷ ws) → earliest_of (w ∷ ws) k ≤ earliest_of (v ∷ vs) k
    not_before zero h = lo
    not_before (suc k) h = i.not_before k (le_of_suc-le-suc h)

    not_after : (k : ℕ) → k < length (w ∷ ws) → latest_of (v ∷ vs) k ≤ latest_of (w ∷ ws) k
    not_after zero h = hi
    not_after (suc k) h = i.not_after k (le_of_suc-le-suc h)

pub inside_self : (ws : List Window) → Inside ws ws
inside_self ws = record { same_size = refl; not_before = λ k h. omega arith; not_after = λ k h. omega arith }

pub inside_trans : {us vs ws : List Window} → Inside us vs → Inside vs ws → Inside us ws
inside_trans i j =
    record {
      same_size = i.same_size ∙ j.same_size;
      not_before = λ k h. (let e = j.same_size in omega (arith, i.not_before k (omega arith), j.not_before k h));
      not_after = λ k h. (let e = j.same_size in omega (arith, i.not_after k (omega arith), j.not_after k h));
    }

pub lies_inside : {x : List ℕ} {vs ws : List Window} → Lies x vs → Inside vs ws → Lies x ws
lies_inside l i =
    record {
      same_size = l.same_size ∙ i.same_size;
      not_before = λ k h. (let e = i.same_size in omega (arith, l.not_before k (omega arith), i.not_before k h));
      not_after = λ k h. (let e = i.same_size in omega (arith, l.not_after k (omega arith), i.not_after k h));
    }

pub product_pos : (ws : List Window) → Nonempty ws → 1 ≤ product ws
product_pos [] h = omega arith
product_pos (w ∷ ws) h = mul-pos (let q = nonempty_head w ws h in omega arith) (product_pos ws (nonempty_tail w ws h))

pub product_inside : (vs ws : List Window) → Inside vs ws → product vs ≤ product ws
product_inside [] [] i = omega arith
product_inside [] (w ∷ ws) i = absurd (let e = i.same_size in omega arith)
product_inside (v ∷ vs) [] i = absurd (let e = i.same_size in omega arith)
product_inside (v ∷ vs) (w ∷ ws) i = mul-le-mul (omega (arith, i.not_before 0 (omega arith), i.not_after 0 (omega arith))) (product_inside vs ws (inside_tail i))

-- Every window is one period, if it is not empty.
abbrev pub Narrow : List Window → Type 0
Narrow ws = (k : ℕ) → k < length ws → latest_of ws k ≤ earliest_of ws k

pub narrow_inside : (vs ws : List Window) → Narrow ws → Inside vs ws → Narrow vs
narrow_inside vs ws n i k h = let e = i.same_size in omega (arith, n k (omega arith), i.not_before k (omega arith), i.not_after k (omega arith))

pub single_narrow : (ws : List Window) → Nonempty ws → Narrow ws → Single ws (first_periods ws)
single_narrow ws h n = record { same_size = length_periods ws; starts = λ k b. sym (periods_at ws k); ends = λ k b. omega (arith, periods_at ws k, h k b, n k b) }
