use Rattle.std.proofs.Common.{◌≡◌, ℕ, ◌+◌, ◌*◌, ◌<◌, length, get_or}
use Rattle.sheet.specs.Reading.{place_of}
use Rattle.sheet.proofs.frame.Frame.column.Given as goal

abbrev pub invariant-loop-k : goal.invariant-loop-k
invariant-loop-k l = (length l.table ≡ 32) × ((j : ℕ) → j < l.k → get_or l.table j 0 ≡ get_or l.batches (6 * j + place_of l.fn.field) 0)
