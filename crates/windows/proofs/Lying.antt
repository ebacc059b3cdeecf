-- Lying in windows, one batch more; and windows inside proper ones.
use Rattle.std.proofs.Common.{◌≡◌, ℕ, zero, suc, ◌<◌, ◌≤◌, List, [], ◌∷◌, length, get_or, ap, suc-le-suc, le_of_suc-le-suc, arith}
use native.Mathlib.Nat.{suc_inj}
use Rattle.windows.specs.declared.window.Window.{Window}
use Rattle.windows.specs.WindowSets.{WindowSet, Lies, Inside, Proper, earliest_of, latest_of}

-- No window is empty.
abbrev pub Nonempty : List Window → Type 0
Nonempty ws = (k : ℕ) → k < length ws → earliest_of ws k ≤ latest_of ws k

pub lies_cons : (a : ℕ) (x : List ℕ) (w : Window) (ws : List Window) → w.earliest ≤ a → a ≤ w.latest → Lies x ws → Lies (a ∷ x) (w ∷ ws)
lies_cons a x w ws lo hi l = record { same_size = ap suc l.same_size; not_before = not_before; not_after = not_after }
  where
    not_before : (k : ℕ) → k < length (w ∷ ws) → earliest_of (w ∷ ws) k ≤ get_or (a ∷ x) k 0
    not_before zero h = lo
    not_before (suc k) h = l.not_before k (le_of_suc-le-suc h)

    not_after : (k : ℕ) → k < length (w ∷ ws) → get_or (a ∷ x) k 0 ≤ latest_of (w ∷ ws) k
    not_after zero h = hi
    not_after (suc k) h = l.not_after k (le_of_suc-le-suc h)

pub lies_tail : {a : ℕ} {x : List ℕ} {w : Window} {ws : List Window} → Lies (a ∷ x) (w ∷ ws) → Lies x ws
lies_tail l = record { same_size = suc_inj l.same_size; not_before = λ k h. l.not_before (suc k) (suc-le-suc h); not_after = λ k h. l.not_after (suc k) (suc-le-suc h) }

pub lies_low : {a : ℕ} {x : List ℕ} {w : Window} {ws : List Window} → Lies (a ∷ x) (w ∷ ws) → w.earliest ≤ a
lies_low l = l.not_before 0 (omega arith)

pub lies_high : {a : ℕ} {x : List ℕ} {w : Window} {ws : List Window} → Lies (a ∷ x) (w ∷ ws) → a ≤ w.latest
lies_high l = l.not_after 0 (omega arith)

pub lies_empty : {A : Type 0} {w : Window} {ws : List Window} → Lies [] (w ∷ ws) → A
lies_empty l = absurd (let e = l.same_size in omega arith)

pub inside_tail : {v w : Window} {vs ws : List Window} → Inside (v ∷ vs) (w ∷ ws) → Inside vs ws
inside_tail i = record { same_size = suc_inj i.same_size; not_before = λ k h. i.not_before (suc k) (suc-le-suc h); not_after = λ k h. i.not_after (suc k) (suc-le-suc h) }

pub proper_inside : (v w : WindowSet) → Proper w → v.periods ≡ w.periods → Inside v.each w.each → Nonempty v.each → Proper v
proper_inside v w p e i h =
    let n = i.same_size in
    record {
      some = let q = p.some in omega arith;
      most = let q = p.most in omega arith;
      few = let q = p.few in omega arith;
      starts = λ k b. omega (arith, p.starts k (omega arith), i.not_before k (omega arith));
      holds = h;
      ends = λ k b. omega (arith, p.ends k (omega arith), i.not_after k (omega arith));
    }
