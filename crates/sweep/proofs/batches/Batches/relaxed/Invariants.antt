use Rattle.std.proofs.Common.{◌≡◌, ℕ, ◌<◌, length}
use Rattle.sweep.specs.Charges.{at, opened}
use Rattle.sweep.proofs.batches.Batches.relaxed.Given as goal

-- The batches below k are opened.
abbrev pub invariant-loop-k : goal.invariant-loop-k
invariant-loop-k l = (length l.each ≡ 32) × ((j : ℕ) → j < l.k → at l.each j ≡ opened (at l.old-items j))
