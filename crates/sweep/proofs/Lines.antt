-- A waiting line that is filled in the order of the batches.
use Rattle.std.proofs.Common.{◌≡◌, ℕ, ◌+◌, ◌<◌, ◌≤◌, Bool, false, List, length, get_or, take, set, sym, ap, ◌∙◌, subst, subst₂, ⊎_elim, arith, get_or-set_other, get_or-set_same}
use Rattle.std.proofs.lemmas.List.{get_or-take, length-take-le}
use Rattle.std.proofs.lemmas.Bool.{cases_eq}
use Rattle.line.specs.Fronts.{Front}

-- the first m of xs are the elements, as `made` has them, of the batches below k that wait
pub record Line {X : Type 0} (made : ℕ → X) (waits : ℕ → Type 0) (k m : ℕ) (xs : List X) : Type 0 where
  pub short : m ≤ k
  pub from : (i : ℕ) → i < m → (j : ℕ) × (j < k) × waits j × ((d : X) → get_or xs i d ≡ made j)
  pub has : (j : ℕ) → j < k → waits j → (i : ℕ) × (i < m) × ((d : X) → get_or xs i d ≡ made j)

module _ {X : Type 0} (made : ℕ → X) (waits : ℕ → Type 0) where
  pub line_skips : (k m : ℕ) (xs : List X) → Line made waits k m xs → (waits k → ⊥) → Line made waits (k + 1) m xs
  line_skips k m xs l out =
      record {
        short = omega (arith, l.short);
        from = λ i h. let r = l.from i h in (r.0, omega (arith, r.1), r.2, r.3);
        has = λ j h w. ⊎_elim (λ e. absurd (out (subst waits e w))) (λ ne. l.has j (omega arith) w) (cases_eq j k);
      }

  pub line_joins : (k m : ℕ) (xs : List X) → Line made waits k m xs → m < length xs → waits k → Line made waits (k + 1) (m + 1) (set xs m (made k))
  line_joins k m xs l room here =
      record {
        short = omega (arith, l.short);
        from = λ i h. ⊎_elim
            (λ e. (k, omega arith, here, λ d. ap (λ a. get_or (set xs m (made k)) a d) e ∙ get_or-set_same xs m (made k) d room))
            (λ ne. let r = l.from i (omega arith) in (r.0, omega (arith, r.1), r.2, λ d. get_or-set_other xs m i (made k) d ne ∙ r.3 d))
            (cases_eq i m);
        has = λ j h w. ⊎_elim
            (λ e. (m, omega arith, λ d. get_or-set_same xs m (made k) d room ∙ ap made (sym e)))
            (λ ne. let r = l.has j (omega arith) w in (r.0, omega (arith, r.1), λ d. get_or-set_other xs m r.0 (made k) d (omega (arith, r.1)) ∙ r.2 d))
            (cases_eq j k);
      }

  -- the number j of the front x of the line is that of a batch that waits, and no batch that waits is ahead of it
  pub line_next : (leads : X → X → Bool) (number : X → ℕ) → ((j : ℕ) → number (made j) ≡ j) → (n m i : ℕ) (xs : List X) (x : X) (j : ℕ) →
      Line made waits n m xs → m ≤ length xs → Front leads (take m xs) i → x ≡ get_or (take m xs) i x → j ≡ number x →
      (j < n) × waits j × ((k : ℕ) → k < n → waits k → leads (made k) (made j) ≡ false)
  line_next leads number numbered n m i xs x j l room front read told =
      let size = length-take-le m xs room in
      let inside : i < m = omega (arith, front.inside) in
      let r = l.from i inside in
      let at : (d : X) → get_or (take m xs) i d ≡ made r.0 = λ d. get_or-take m xs i d inside ∙ r.3 d in
      let own : j ≡ r.0 = told ∙ ap number (read ∙ at x) ∙ numbered r.0 in
      subst (λ a. (a < n) × waits a × ((k : ℕ) → k < n → waits k → leads (made k) (made a) ≡ false)) (sym own) (
        r.1,
        r.2,
        λ k h w.
            let q = l.has k h w in
            let d = made k in
            subst₂ (λ x y. leads x y ≡ false) (get_or-take m xs q.0 d q.1 ∙ q.2 d) (at d) (front.unled q.0 d (omega (arith, q.1))),
      )
