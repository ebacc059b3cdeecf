-- Windows of two tables, filled and narrowed.
use Rattle.std.proofs.Common.{◌≡◌, ℕ, ◌*◌, ◌≤◌, Bool, true, false, cond, not, ◌&&◌, eqb, ltb, List, [], ◌∷◌, length, Some, Ok, Err, Result, sym, refl, ap, ◌∙◌, subst, arith}
use Rattle.std.proofs.lemmas.Bool.{cond-false, and_from, eq-eqb}
use Rattle.std.proofs.lemmas.Bool.Decides.{nat_tests}
use Rattle.windows.specs.declared.refusal.Refusal.{Refusal}
use Rattle.windows.specs.declared.windows.Windows.{Windows}
use Rattle.windows.specs.Refusals.{struck}
use Rattle.windows.specs.WindowSets.{WindowSet}
use Rattle.windows.specs.Filling.{set_of, paired, some_bad, fill_checks}
use Rattle.windows.specs.Sizes.{out_of_size}
use Rattle.windows.proofs.Fills.{length_paired, accepted}
use Rattle.windows.proofs.Held.{held_proper}
use Rattle.rule.specs.Meaning.{Meaning, Lawful, max_charge}
use Rattle.rule.specs.Narrowing.{none, narrow_checks}
use Rattle.flat.specs.Tests.{same_size}
use Rattle.flat.specs.Rules.{flat}
use Rattle.flat.specs.Loading.{flat_checks}
use Rattle.rated.specs.Rates.{rated}
use Rattle.rated.specs.Loading.{rated_checks}
use Rattle.sheet.specs.Layout.{pairs}
use Rattle.wake.specs.Exports.{windows_given, window_checks, flat_table_checks, rated_table_checks, WindowsNarrowed}

low : (limit : ℕ) (o : Bool) → ◌≡◌ {A = ℕ} (cond (ltb max_charge limit) 8 (cond o 9 0)) 0 → limit ≤ max_charge
low limit o e = grind (arith, nat_tests)

pub few : (n T : ℕ) → out_of_size n T ≡ false → n ≤ 32
few n T e = grind (arith, nat_tests)

-- What is known of windows filled from two tables, under a rule that fits them.
pub record Given (m : Meaning) (n T limit : ℕ) (es ls : List ℕ) (w : Windows) : Type 0 where
  pub checked : struck (window_checks m T es ls limit) ≡ struck (narrow_checks m limit (set_of w))
  pub cut : (v : WindowSet) → m.cut (set_of w) limit ≡ Some v → m.cut (windows_given T es ls) limit ≡ Some v
  pub long : (v : WindowSet) → m.cut (set_of w) limit ≡ Some v → struck (narrow_checks m limit (set_of w)) ≡ 0 → length v.each ≡ n

pub given : (m : Meaning) (n T limit : ℕ) (es ls : List ℕ) (w : Windows) → Lawful m → m.fits n T ≡ true → struck (fill_checks n T es ls) ≡ 0 → set_of w ≡ windows_given T es ls → Given m n T limit es ls w
given m n T limit es ls w law fits z e =
    let f = accepted n T es ls z in
    let long : length (paired es ls) ≡ n = length_paired es ls (f.starts ∙ sym f.ends) ∙ f.starts in
    let left : struck (narrow_checks m limit (set_of w)) ≡ cond (ltb max_charge limit) 8 (cond (none (m.cut (windows_given T es ls) limit)) 9 0) =
    rw e (ap (λ (d : Bool). cond (not d) 7 (cond (ltb max_charge limit) 8 (cond (none (m.cut (windows_given T es ls) limit)) 9 0))) (ap (λ (k : ℕ). m.fits k T) long ∙ fits)) in
    record {
      checked = cond-false (some_bad T es ls) 6 _ f.good ∙ sym left;
      cut = λ v c. (rw e at c);
      long = λ v c s. (law.cut_inside (set_of w) v limit (held_proper w) (low limit _ (sym left ∙ s)) c).1.same_size ∙ ap (λ (u : WindowSet). length u.each) e ∙ long;
    }

-- A rule fits the size that it was filled with.
pub same_fits : (n T : ℕ) → same_size n T n T ≡ true
same_fits n T = and_from _ _ (eq-eqb n n refl) (eq-eqb T T refl)

-- Checks of which the first three don't strike.
passed : (p q d : Bool) (cs : List (ℕ × Bool)) → p ≡ false → q ≡ true → d ≡ false → struck ((3, p) ∷ ((4, not q) ∷ ((5, d) ∷ cs))) ≡ struck cs
passed p q d cs e f g = rw (e, f, g)

first_two : (p q r : Bool) → (p && (q && r)) ≡ true → (p && q) ≡ true
first_two p q r e = grind (arith, nat_tests)

-- A fill that judged the lengths and the entries of its own tables.
record Filled (q d : Bool) : Type 0 where
  lengths : q ≡ true
  entries : d ≡ false

filled : (p q d : Bool) → struck ((3, p) ∷ ((4, not q) ∷ ((5, d) ∷ []))) ≡ 0 → Filled q d
filled p q d e = record { lengths = grind (arith, nat_tests); entries = grind (arith, nat_tests) }

-- What a narrowing of the windows answers is what the call answers, for a rule that was filled with the same tables.
answered : (m m' : Meaning) (T limit : ℕ) (es ls : List ℕ) (checks : List (ℕ × Bool)) (r : Result Windows Refusal) → m' ≡ m → struck checks ≡ struck (window_checks m T es ls limit)
    → WindowsNarrowed m' T es ls limit (window_checks m' T es ls limit) r → WindowsNarrowed m T es ls limit checks r
answered m m' T limit es ls checks r q p h = go r (subst (λ (x : Meaning). WindowsNarrowed x T es ls limit (window_checks x T es ls limit) r) q h)
  where
    go : (o : Result Windows Refusal) → WindowsNarrowed m T es ls limit (window_checks m T es ls limit) o → WindowsNarrowed m T es ls limit checks o
    go (Ok w) k = (p ∙ k.0, k.1, k.2)
    go (Err x) k = p ∙ k

module _ (n T limit : ℕ) (cs ds es ls : List ℕ) (m' : Meaning) (r : Result Windows Refusal) (sized : out_of_size n T ≡ false) (a : length es ≡ n) (b : length ls ≡ n) (h : WindowsNarrowed m' T es ls limit (window_checks m' T es ls limit) r) where
  pub flat_answered : struck (flat_checks n T cs ds) ≡ 0 → m' ≡ flat n T cs ds → WindowsNarrowed (flat n T cs ds) T es ls limit (flat_table_checks n T cs ds es ls limit) r
  flat_answered z q =
      let m = flat n T cs ds in
      let f = filled _ _ _ z in
      answered m m' T limit es ls (flat_table_checks n T cs ds es ls limit) r q (passed _ _ _ (window_checks m T es ls limit) sized (and_from _ _ (and_from _ _ (eq-eqb _ n a) (eq-eqb _ n b)) f.lengths) f.entries) h

  pub rated_answered : (rs bytes : List ℕ) → length bytes ≡ 2 * n → rs ≡ pairs n bytes → struck (rated_checks n T cs ds rs) ≡ 0 → m' ≡ rated n T cs ds rs
      → WindowsNarrowed (rated n T cs ds (pairs n bytes)) T es ls limit (rated_table_checks n T cs ds bytes es ls limit) r
  rated_answered rs bytes l e z q =
      let m = rated n T cs ds (pairs n bytes) in
      let f = filled _ _ _ (rw e at z) in
      let right = first_two (eqb (length cs) T) (eqb (length ds) n) (eqb (length (pairs n bytes)) n) f.lengths in
      answered m m' T limit es ls (rated_table_checks n T cs ds bytes es ls limit) r (rw e at q) (passed _ _ _ (window_checks m T es ls limit) sized (and_from _ _ (and_from _ _ (and_from _ _ (eq-eqb _ n a) (eq-eqb _ n b)) (eq-eqb _ (2 * n) l)) right) f.entries) h
