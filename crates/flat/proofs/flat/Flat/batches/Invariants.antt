use Rattle.std.proofs.Common.{◌≡◌, ℕ, ◌<◌, min, length, get_or}
use Rattle.windows.specs.WindowSets.{earliest_of, latest_of}
use Rattle.windows.specs.Filling.{set_of}
use Rattle.sweep.specs.Charges.{at}
use Rattle.flat.proofs.flat.Flat.batches.Given as goal

abbrev pub invariant-loop-k : goal.invariant-loop-k
invariant-loop-k l =
    (length l.each ≡ 32) ×
    ((j : ℕ) → j < l.k → at l.each j ≡ record { earliest = earliest_of (set_of l.windows).each j; latest = min (latest_of (set_of l.windows).each j) (get_or l.self.dues j 0); due = get_or l.self.dues j 0; rate = 1 })
