-- The table of charges: K rows of K entries.
use Rattle.std.specs.Prelude.{ℕ, ◌*◌, ◌≤◌}
use Rattle.std.proofs.Common.{mul-le-mul_right, arith}

pub square_most : (K : ℕ) → K ≤ 8 → K * K ≤ 64
square_most K h = omega (arith, mul-le-mul_right K h)
