-- Windows inside others are the same, or have less slack.
use Rattle.std.specs.Prelude.{◌≡◌, ℕ, suc, ◌-◌, ◌<◌, ◌≤◌, true, false, ◌⊎◌, List, [], ◌∷◌, refl}
use Rattle.std.proofs.Common.{inl, suc-le-suc, arith}
use Rattle.std.proofs.lemmas.List.Sums.{sum_by-cons}
use Rattle.std.proofs.lemmas.Bool.Decides.{nat_tests}
use Rattle.windows.specs.declared.window.Window.{Window}
use Rattle.windows.specs.WindowSets.{Inside}
use Rattle.windows.proofs.Lying.{Nonempty, inside_tail}
use Rattle.layers.specs.Layers.{same, slack}

abbrev Narrower : List Window → List Window → Type 0
Narrower vs ws = ((same vs ws ≡ true) × (slack vs ≡ slack ws)) ⊎ ((same vs ws ≡ false) × (slack vs < slack ws))

-- One window more.
narrower_cons : (v w : Window) (vs ws : List Window) → v.earliest ≤ v.latest → w.earliest ≤ v.earliest → v.latest ≤ w.latest → Narrower vs ws → Narrower (v ∷ vs) (w ∷ ws)
narrower_cons v w vs ws some low high r =
    let f : Window → ℕ = λ u. u.latest - u.earliest in
    let sv = sum_by-cons f v vs in
    let sw = sum_by-cons f w ws in
    grind (arith, nat_tests)

pub narrower : (vs ws : List Window) → Nonempty vs → Inside vs ws → Narrower vs ws
narrower [] [] n i = inl (refl, refl)
narrower [] (w ∷ ws) n i = absurd (let e = i.same_size in omega arith)
narrower (v ∷ vs) [] n i = absurd (let e = i.same_size in omega arith)
narrower (v ∷ vs) (w ∷ ws) n i = narrower_cons v w vs ws (n 0 (omega arith)) (i.not_before 0 (omega arith)) (i.not_after 0 (omega arith)) (narrower vs ws (λ k h. n (suc k) (suc-le-suc h)) (inside_tail i))
