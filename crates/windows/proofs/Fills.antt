-- Bad windows in two lists of periods, and the windows that the lists give.
use Rattle.std.proofs.Common.{◌≡◌, ℕ, zero, suc, ◌<◌, ◌≤◌, true, false, List, [], ◌∷◌, length, get_or, take, sym, refl, ap, ◌∙◌, arith}
use Rattle.std.proofs.lemmas.List.{ext_get_or, get_or-take, length-take-le}
use Rattle.std.proofs.lemmas.Bool.{or_left, or_right, or_from, or_parts}
use Rattle.std.proofs.lemmas.Bool.Decides.{nat_tests}
use Rattle.windows.specs.declared.window.Window.{Window}
use Rattle.windows.specs.WindowSets.{window, nowhere}
use Rattle.windows.specs.Refusals.{struck}
use Rattle.windows.specs.Filling.{bad, some_bad, paired, fill_checks}
use Rattle.windows.specs.Sizes.{out_of_size}

pub bad_here : (T : ℕ) (es ls : List ℕ) (k : ℕ) → length es ≡ length ls → k < length es → bad T (get_or es k 0) (get_or ls k 0) ≡ true → some_bad T es ls ≡ true
bad_here T [] ls k n h b = absurd (omega arith)
bad_here T (e ∷ es) [] k n h b = absurd (omega arith)
bad_here T (e ∷ es) (l ∷ ls) zero n h b = or_left (bad T e l) (some_bad T es ls) b
bad_here T (e ∷ es) (l ∷ ls) (suc k) n h b = or_right (bad T e l) (some_bad T es ls) (bad_here T es ls k (omega arith) (omega arith) b)

pub none_bad : (T : ℕ) (es ls : List ℕ) → length es ≡ length ls → ((k : ℕ) → k < length es → bad T (get_or es k 0) (get_or ls k 0) ≡ false) → some_bad T es ls ≡ false
none_bad T [] ls n h = refl
none_bad T (e ∷ es) [] n h = absurd (omega arith)
none_bad T (e ∷ es) (l ∷ ls) n h = or_from (bad T e l) (some_bad T es ls) (h 0 (omega arith)) (none_bad T es ls (omega arith) (λ k b. h (suc k) (omega arith)))

pub each_good : (T : ℕ) (es ls : List ℕ) → length es ≡ length ls → some_bad T es ls ≡ false → (k : ℕ) → k < length es → bad T (get_or es k 0) (get_or ls k 0) ≡ false
each_good T [] ls n b k h = absurd (omega arith)
each_good T (e ∷ es) [] n b k h = absurd (omega arith)
each_good T (e ∷ es) (l ∷ ls) n b zero h = (or_parts (bad T e l) (some_bad T es ls) b).0
each_good T (e ∷ es) (l ∷ ls) n b (suc k) h = each_good T es ls (omega arith) (or_parts (bad T e l) (some_bad T es ls) b).1 k (omega arith)

pub record Good (T e l : ℕ) : Type 0 where
  pub starts : 1 ≤ e
  pub holds : e ≤ l
  pub ends : l ≤ T

pub good : (T e l : ℕ) → bad T e l ≡ false → Good T e l
good T e l h = record { starts = grind (arith, nat_tests); holds = grind (arith, nat_tests); ends = grind (arith, nat_tests) }

pub not_good : (T e l : ℕ) → Good T e l → bad T e l ≡ false
not_good T e l g = let a = g.starts in let b = g.holds in let c = g.ends in grind (arith, nat_tests)

pub length_paired : (es ls : List ℕ) → length es ≡ length ls → length (paired es ls) ≡ length es
length_paired [] ls n = refl
length_paired (e ∷ es) [] n = absurd (omega arith)
length_paired (e ∷ es) (l ∷ ls) n = ap suc (length_paired es ls (omega arith))

pub paired_at : (es ls : List ℕ) (k : ℕ) → length es ≡ length ls → k < length es → get_or (paired es ls) k nowhere ≡ window (get_or es k 0) (get_or ls k 0)
paired_at [] ls k n h = absurd (omega arith)
paired_at (e ∷ es) [] k n h = absurd (omega arith)
paired_at (e ∷ es) (l ∷ ls) zero n h = refl
paired_at (e ∷ es) (l ∷ ls) (suc k) n h = paired_at es ls k (omega arith) (omega arith)

-- A table whose first n windows are those of the lists.
pub pairs_taken : (n : ℕ) (ws : List Window) (es ls : List ℕ) → n ≤ length ws → length es ≡ n → length ls ≡ n → ((k : ℕ) → k < n → get_or ws k nowhere ≡ window (get_or es k 0) (get_or ls k 0)) → take n ws ≡ paired es ls
pairs_taken n ws es ls long a b h =
    let t = length-take-le n ws long in
    let p = length_paired es ls (a ∙ sym b) in
    ext_get_or nowhere (take n ws) (paired es ls) (omega arith) (λ k i. (let c : k < n = omega arith in get_or-take n ws k nowhere c ∙ h k c ∙ sym (paired_at es ls k (a ∙ sym b) (omega arith))))

-- Where no check strikes.
pub fill_accepted : (n T : ℕ) (es ls : List ℕ) → out_of_size n T ≡ false → length es ≡ n → length ls ≡ n → some_bad T es ls ≡ false → struck (fill_checks n T es ls) ≡ 0
fill_accepted n T es ls s a b g = grind (arith, nat_tests)

-- What the lists of an accepted fill are.
pub record Accepted (n T : ℕ) (es ls : List ℕ) : Type 0 where
  pub starts : length es ≡ n
  pub ends : length ls ≡ n
  pub good : some_bad T es ls ≡ false

pub accepted : (n T : ℕ) (es ls : List ℕ) → struck (fill_checks n T es ls) ≡ 0 → Accepted n T es ls
accepted n T es ls e = record { starts = grind (arith, nat_tests); ends = grind (arith, nat_tests); good = grind (arith, nat_tests) }

-- What is said of an extent is said of the size that it holds.
pub at_extent : {X : Type 0} (f : ℕ → ℕ → X) (n T m P : ℕ) → m ≡ n → P ≡ T → f m P ≡ f n T
at_extent f n T m P p q = ap (λ k. f k P) p ∙ ap (f n) q
