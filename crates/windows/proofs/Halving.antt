-- The first wide window, found from the front; a window changed in a table; periods written one after the other.
use Rattle.std.proofs.Common.{◌≡◌, ℕ, zero, suc, ◌+◌, ◌<◌, ◌≤◌, Bool, true, false, cond, ltb, List, [], ◌∷◌, ◌++◌, length, get_or, take, drop, set, position, Some, None, sym, refl, ap, ◌∙◌, subst, inl, inr, append_assoc, le_of_suc-le-suc, arith}
use lib.Seq.{take-set-lt}
use Rattle.std.proofs.lemmas.List.{get_or-take, get_or-set_same, get_or-set_other, take_more, take_all, drop_more, set_at, length-take-le}
use Rattle.std.proofs.lemmas.Bool.{cases_eq, ltb-true, ltb-false}
use Rattle.std.specs.List.{position_or_len}
use Rattle.std.proofs.lemmas.List.Recursion.{is_position_or_len}
use Rattle.windows.specs.declared.window.Window.{Window}
use Rattle.windows.specs.declared.windows.Windows.{Windows}
use Rattle.windows.specs.WindowSets.{earliest_of, latest_of, nowhere}
use Rattle.windows.specs.Filling.{set_of}
use Rattle.windows.specs.Halves.{wide, first_wide, halved, first_periods, over}
use Rattle.windows.proofs.Hulls.{some_inj, not_some}
use Rattle.windows.proofs.Held.{held_length}

first_wide_is : (ws : List Window) → first_wide ws ≡ position_or_len wide ws
first_wide_is ws = is_position_or_len first_wide wide refl (λ v vs. (let e : suc (first_wide vs) ≡ 1 + first_wide vs = omega arith in ap (λ (n : ℕ). cond (wide v) 0 n) e)) ws

module _ (ws : List Window) where
  pub wide_found : (k : ℕ) → position wide ws ≡ Some k → (k ≡ first_wide ws) × (k < length ws)
  wide_found k e = go (ltb (position_or_len wide ws) (length ws)) refl e
    where
      go : (b : Bool) → ltb (position_or_len wide ws) (length ws) ≡ b → cond b (Some (position_or_len wide ws)) None ≡ Some k → (k ≡ first_wide ws) × (k < length ws)
      go true t f = let i = some_inj (position_or_len wide ws) k f in (sym i ∙ sym (first_wide_is ws), omega (arith, ltb-true _ _ t))
      go false t f = absurd (not_some k f)

  pub none_wide : position wide ws ≡ None → length ws ≤ first_wide ws
  none_wide e = go (ltb (position_or_len wide ws) (length ws)) refl e
    where
      go : (b : Bool) → ltb (position_or_len wide ws) (length ws) ≡ b → cond b (Some (position_or_len wide ws)) None ≡ None → length ws ≤ first_wide ws
      go true t f = absurd (not_some (position_or_len wide ws) (sym f))
      go false t f = omega (arith, first_wide_is ws, ltb-false _ _ t)

pub wide_at : (ws : List Window) → first_wide ws < length ws → earliest_of ws (first_wide ws) < latest_of ws (first_wide ws)
wide_at [] h = absurd (omega arith)
wide_at (w ∷ ws) h = go (ltb w.earliest w.latest) refl h (wide_at ws)
  where
    go : (b : Bool) → ltb w.earliest w.latest ≡ b → cond b 0 (suc (first_wide ws)) < suc (length ws) → (first_wide ws < length ws → earliest_of ws (first_wide ws) < latest_of ws (first_wide ws)) → earliest_of (w ∷ ws) (cond b 0 (suc (first_wide ws))) < latest_of (w ∷ ws) (cond b 0 (suc (first_wide ws)))
    go true e l t = ltb-true w.earliest w.latest e
    go false e l t = t (le_of_suc-le-suc l)

-- The ends of a window that a value holds.
pub earliest_held : (w : Windows) (k : ℕ) → k < w.extent.batches → earliest_of (set_of w).each k ≡ earliest_of w.each k
earliest_held w k h = ap (λ (v : Window). v.earliest) (get_or-take w.extent.batches w.each k nowhere h)

pub latest_held : (w : Windows) (k : ℕ) → k < w.extent.batches → latest_of (set_of w).each k ≡ latest_of w.each k
latest_held w k h = ap (λ (v : Window). v.latest) (get_or-take w.extent.batches w.each k nowhere h)

-- The first wide window of a value has more than one period, and a half of it written is a half of the windows.
module _ (w : Windows) (k : ℕ) where
  pub wide_held : k ≡ first_wide (set_of w).each → k < w.extent.batches → earliest_of w.each k < latest_of w.each k
  wide_held is h =
      let e : earliest_of (set_of w).each k < latest_of (set_of w).each k = subst (λ (j : ℕ). earliest_of (set_of w).each j < latest_of (set_of w).each j) (sym is) (wide_at (set_of w).each (omega (arith, held_length w))) in
      omega (arith, earliest_held w k h, latest_held w k h)

  pub halved_held : (half : Window → Window) → k ≡ first_wide (set_of w).each → k < w.extent.batches → take w.extent.batches (set w.each k (half (get_or w.each k nowhere))) ≡ halved half (set_of w).each
  halved_held half is h =
      take-set-lt w.extent.batches w.each k (half (get_or w.each k nowhere)) h
      ∙ ap (λ (v : Window). set (set_of w).each k (half v)) (sym (get_or-take w.extent.batches w.each k nowhere h))
      ∙ ap (λ (j : ℕ). set (set_of w).each j (half (get_or (set_of w).each j nowhere))) is

-- What holds of each of the first n windows still does after a write of a window of which it holds.
pub each_set : (P : Window → Type 0) (ws : List Window) (n k : ℕ) (v : Window) → k < length ws → P v → ((j : ℕ) → j < n → P (get_or ws j nowhere)) → (j : ℕ) → j < n → P (get_or (set ws k v) j nowhere)
each_set P ws n k v l p h j b = elim (cases_eq j k) [
  | inl e ↦ rw (e, get_or-set_same ws k v nowhere l) p
  | inr d ↦ rw (get_or-set_other ws k j v nowhere d) (h j b)
]

pub length_periods : (ws : List Window) → length (first_periods ws) ≡ length ws
length_periods [] = refl
length_periods (w ∷ ws) = ap suc (length_periods ws)

pub periods_at : (ws : List Window) (k : ℕ) → get_or (first_periods ws) k 0 ≡ earliest_of ws k
periods_at [] k = refl
periods_at (w ∷ ws) zero = refl
periods_at (w ∷ ws) (suc k) = periods_at ws k

-- The first k elements of x, written over the start of a memory.
pub write_next : (x before now' : List ℕ) (k v : ℕ) → k < length x → length x ≤ length before → v ≡ get_or x k 0 → now' ≡ take k x ++ drop k before → set now' k v ≡ take (k + 1) x ++ drop (k + 1) before
write_next x before now' k v h l e i =
    ap (λ (s : List ℕ). set s k v) (i ∙ ap (λ (s : List ℕ). take k x ++ s) (drop_more before k 0 (omega arith)))
    ∙ set_at (take k x) (get_or before k 0) (drop (k + 1) before) v k (length-take-le k x (omega arith))
    ∙ ap (λ (u : ℕ). take k x ++ (u ∷ drop (k + 1) before)) e
    ∙ sym (append_assoc (take k x) (get_or x k 0 ∷ []) (drop (k + 1) before))
    ∙ ap (λ (s : List ℕ). s ++ drop (k + 1) before) (sym (take_more x k 0 h))

-- The earliest period of one window more, written after those before it.
pub write_window : (ws : List Window) (before now' : List ℕ) (k : ℕ) → k < length ws → length ws ≤ length before → now' ≡ take k (first_periods ws) ++ drop k before → set now' k (earliest_of ws k) ≡ take (k + 1) (first_periods ws) ++ drop (k + 1) before
write_window ws before now' k h l i = write_next (first_periods ws) before now' k (earliest_of ws k) (omega (arith, length_periods ws)) (omega (arith, length_periods ws)) (sym (periods_at ws k)) i

pub write_all : (x before now' : List ℕ) (k : ℕ) → k ≡ length x → now' ≡ take k x ++ drop k before → now' ≡ over x before
write_all x before now' k e i = i ∙ ap (λ (j : ℕ). take j x ++ drop j before) e ∙ ap (λ (s : List ℕ). s ++ drop (length x) before) (take_all (length x) x (omega arith))
