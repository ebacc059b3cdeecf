-- The outermost affordable period of a window, looked for step by step from one of its ends.
use Rattle.std.proofs.Common.{◌≡◌, ◌≢◌, ℕ, ◌+◌, ◌-◌, ◌<◌, ◌≤◌, true, false, List, length, get_or, set, Decides, sym, refl, ap, ◌∙◌, subst, arith, get_or-set_other, get_or-set_same, below_more}
use Rattle.std.proofs.lemmas.Bool.{false≢true}
use Rattle.windows.specs.declared.window.Window.{Window}
use Rattle.windows.specs.WindowSets.{earliest_of, latest_of}
use Rattle.rated.specs.declared.measure.Forcing.{Forcing}
use Rattle.rated.specs.declared.scan.End.{End}
use Rattle.rated.specs.declared.scan.End.TheVariants.{Earliest, Latest}
use Rattle.rated.specs.Measures.{Affords, SomeUnaffordable}
use Rattle.rated.specs.Ends.{inward, Outermost}

-- One more entry is written into a table.
pub each_written : (P : ℕ → ℕ → Type 0) (xs ys : List ℕ) (i v : ℕ) → ys ≡ xs → i < length ys → ((k : ℕ) → k < i → P k (get_or xs k 0)) → P i v → (k : ℕ) → k < i + 1 → P k (get_or (set ys i v) k 0)
each_written P xs ys i v kept inside each here = below_more _ i
    (λ k h. let ne : k ≢ i = omega arith in subst (P k) (sym (get_or-set_other ys i k v 0 ne ∙ ap (λ (zs : List ℕ). get_or zs k 0) kept)) (each k h))
    (subst (P i) (sym (get_or-set_same ys i v 0 inside)) here)

-- P holds at none of the first n steps from one end of a window from a to z.
abbrev pub NoneBefore : End → ℕ → ℕ → (ℕ → Type 0) → ℕ → Type 0
NoneBefore end a z P n = (s : ℕ) → s < n → P (inward end a z s) → ⊥

-- So it holds at no period that they lead to.
none_first : (a z u n : ℕ) (P : ℕ → Type 0) → NoneBefore Earliest a z P n → a ≤ u → u < a + n → P u → ⊥
none_first a z u n P none low high p =
    let back : a + (u - a) ≡ u = omega arith in
    none (u - a) (omega arith) (subst P (sym back) p)

none_final : (a z u n : ℕ) (P : ℕ → Type 0) → NoneBefore Latest a z P n → z < u + n → u ≤ z → P u → ⊥
none_final a z u n P none low high p =
    let back : z - (z - u) ≡ u = omega arith in
    none (z - u) (omega arith) (subst P (sym back) p)

none_inside : (end : End) (a z u : ℕ) (P : ℕ → Type 0) → NoneBefore end a z P (z - a + 1) → a ≤ u → u ≤ z → P u → ⊥
none_inside Earliest a z u P none low high p = none_first a z u (z - a + 1) P none low (omega arith) p
none_inside Latest a z u P none low high p = none_final a z u (z - a + 1) P none (omega arith) high p

outermost : (end : End) (f : Forcing) (ws : List Window) (k n v : ℕ) → earliest_of ws k + n ≤ latest_of ws k → v ≡ inward end (earliest_of ws k) (latest_of ws k) n → NoneBefore end (earliest_of ws k) (latest_of ws k) (Affords f k) n → Affords f k v → Outermost end f ws k v
outermost Earliest f ws k n v inside is none a = record { starts = omega arith; ends = omega arith; affords = a; before = λ u low high p. none_first (earliest_of ws k) (latest_of ws k) u n (Affords f k) none low (omega arith) p }
outermost Latest f ws k n v inside is none a = record { starts = omega arith; ends = omega arith; affords = a; after = λ u low high p. none_final (earliest_of ws k) (latest_of ws k) u n (Affords f k) none (omega arith) high p }

-- The period v, n steps inward in the window of batch i, is asked about; g is the forcing f, and us are the windows ws.
module _ (f g : Forcing) (back : g ≡ f) (end : End) (us ws : List Window) (same : us ≡ ws) (i n v : ℕ) (at : v ≡ inward end (earliest_of us i) (latest_of us i) n) (none : NoneBefore end (earliest_of ws i) (latest_of ws i) (Affords f i) n) where
  is : v ≡ inward end (earliest_of ws i) (latest_of ws i) n
  is = at ∙ ap (λ (vs : List Window). inward end (earliest_of vs i) (latest_of vs i) n) same

  pub none_more : Decides false (Affords g i v) → NoneBefore end (earliest_of ws i) (latest_of ws i) (Affords f i) (n + 1)
  none_more d = below_more _ n none (subst (λ (u : ℕ). Affords f i u → ⊥) is (λ a. false≢true (d.1 (subst (λ (h : Forcing). Affords h i v) (sym back) a))))

  pub none_found : i < length ws → n ≡ latest_of us i - earliest_of us i → Decides false (Affords g i v) → SomeUnaffordable f ws
  none_found inside last d =
      let end_is : n ≡ latest_of ws i - earliest_of ws i = last ∙ ap (λ (vs : List Window). latest_of vs i - earliest_of vs i) same in
      (i, inside, λ u low high a. none_inside end (earliest_of ws i) (latest_of ws i) u (Affords f i) (λ s h. none_more d s (omega arith)) low high a)

  pub outermost_found : earliest_of ws i ≤ latest_of ws i → n ≤ latest_of us i - earliest_of us i → Decides true (Affords g i v) → Outermost end f ws i v
  outermost_found proper inside d =
      let room : earliest_of ws i + n ≤ latest_of ws i = omega (arith, ap (λ (vs : List Window). latest_of vs i - earliest_of vs i) same) in
      outermost end f ws i n v room is none (subst (λ (h : Forcing). Affords h i v) back (d.0 refl))
