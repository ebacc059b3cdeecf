use Rattle.std.proofs.Common.{◌≡◌, ℕ, ◌<◌, length, get_or}
use Rattle.windows.specs.WindowSets.{window, nowhere}
use Rattle.windows.proofs.windows.Windows.fill.Given as goal

abbrev pub invariant-loop-k : goal.invariant-loop-k
invariant-loop-k l = (length l.each ≡ 32) × ((j : ℕ) → j < l.k → get_or l.each j nowhere ≡ window (get_or l.earliest j 0) (get_or l.latest j 0))
