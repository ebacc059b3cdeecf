use Rattle.std.proofs.Common.{◌≡◌, ℕ, ◌+◌, ◌*◌, ◌<◌, length, get_or}
use Rattle.sheet.specs.Layout.{word}
use Rattle.sheet.proofs.frame.Frame.rates.Given as goal

abbrev pub invariant-loop-k : goal.invariant-loop-k
invariant-loop-k l = (length l.table ≡ 32) × ((j : ℕ) → j < l.k → get_or l.table j 0 ≡ word 2 l.batches (6 * j + 4))
