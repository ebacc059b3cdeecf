use Rattle.std.proofs.Common.{◌≡◌, ℕ, ◌<◌}
use Rattle.flat.specs.Ends.{Reached}
use Rattle.flat.proofs.ends.scan.Found.stretch.Given as goal

abbrev pub invariant-loop-i : goal.invariant-loop-i
invariant-loop-i l = (l.self.sought ≡ l.initial.self.sought) × ((k : ℕ) → k < l.i → Reached l.self.sought l.self.ends k)
