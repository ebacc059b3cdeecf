-- How two batches that wait are ranked.
use Rattle.std.specs.Prelude.{ℕ, Bool, ◌&&◌, ◌||◌, ◌==◌, nat_lt}

-- Key a with number i goes before key b with number j: the greater key is ahead, and of two equal keys the lower number.
abbrev pub ahead_by : ℕ → ℕ → ℕ → ℕ → Bool
ahead_by a i b j = nat_lt b a || (a == b && nat_lt i j)
