-- The slack of windows asked for one by one.
use Rattle.std.proofs.Common.{◌≡◌, ℕ, ◌+◌, ◌-◌, ◌*◌, ◌<◌, ◌≤◌, length, take, Some, ap, ◌∙◌, arith}
use Rattle.std.proofs.lemmas.List.Sums.{sum_by_more}
use Rattle.std.proofs.lemmas.Bool.Decides.{nat_tests}
use Rattle.windows.specs.WindowSets.{WindowSet, Proper, nowhere, earliest_of, latest_of}
use Rattle.windows.specs.Filling.{window_asked}
use Rattle.windows.proofs.Hulls.{some_inj}
use Rattle.layers.specs.Layers.{slack}

pub asked : (s : WindowSet) (k : ℕ) → k < length s.each → window_asked s (k + 1) ≡ Some (earliest_of s.each k, latest_of s.each k)
asked s k h = grind (arith, nat_tests)

pub slack_more : (s : WindowSet) (k e l total : ℕ) → Proper s → k < length s.each → Some (e, l) ≡ window_asked s (k + 1) → total ≡ slack (take k s.each) → total ≤ 64 * k → (e ≤ l) × (total + (l - e) ≡ slack (take (k + 1) s.each)) × (total + (l - e) ≤ 64 * (k + 1))
slack_more s k e l total p h a t m =
    let more = sum_by_more (λ u. u.latest - u.earliest) s.each k nowhere h in
    let at = some_inj (e, l) (earliest_of s.each k, latest_of s.each k) (a ∙ asked s k h) in
    let first = ap (λ (w : ℕ × ℕ). w.0) at in
    let final = ap (λ (w : ℕ × ℕ). w.1) at in
    (omega (arith, p.holds k h), omega arith, omega (arith, p.most, p.ends k h))
