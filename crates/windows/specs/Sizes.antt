-- Numbers of batches and periods, and their limits.
use Rattle.std.specs.Prelude.{◌≡◌, ℕ, Bool, ◌||◌, false, true, List, Ok, Err, Result, nat_lt}
use Rattle.windows.specs.declared.refusal.Refusal.{Refusal}
use Rattle.windows.specs.declared.refusal.Refusal.TheVariants.{Limit}
use Rattle.windows.specs.Refusals.{number, struck}
use Rattle.windows.specs.declared.size.Size.{Size}
use Rattle.windows.specs.declared.extent.Extent.{Extent}

-- The limits of n and T.
abbrev pub out_of_size : ℕ → ℕ → Bool
out_of_size n T = nat_lt 32 n || (nat_lt T 1 || nat_lt 64 T)

-- The numbers are within their limits, and an extent holds them; or they are refused.
abbrev pub Limited : Size → Result Extent Refusal → Type 0
Limited size (Ok e) = (out_of_size size.batches size.periods ≡ false) × (e.batches ≡ size.batches) × (e.periods ≡ size.periods)
Limited size (Err r) = (out_of_size size.batches size.periods ≡ true) × (r ≡ Limit)

-- A fill of a size is judged by its checks: accepted, an extent holds the size.
abbrev pub Sized : List (ℕ × Bool) → Size → Result Extent Refusal → Type 0
Sized checks size (Ok e) = (struck checks ≡ 0) × (e.batches ≡ size.batches) × (e.periods ≡ size.periods)
Sized checks size (Err r) = struck checks ≡ number r
