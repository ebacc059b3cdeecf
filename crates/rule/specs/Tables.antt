-- Entries of the tables that a host hands in.
use Rattle.std.specs.Prelude.{ℕ, Bool, ◌||◌, List, nat_lt}
use Rattle.std.specs.List.{list_any}

-- Some entry is below a or above b.
abbrev pub outside : ℕ → ℕ → List ℕ → Bool
outside a b vs = list_any (λ v. nat_lt v a || nat_lt b v) vs
