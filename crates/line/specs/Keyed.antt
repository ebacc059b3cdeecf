-- The greater key is ahead, and of two equal keys the lower number.
use Rattle.std.specs.Prelude.{◌≡◌, ℕ, ◌≤◌, true, false}
use Rattle.std.proofs.Common.{arith}
use Rattle.std.proofs.lemmas.Bool.Decides.{nat_tests}
use Rattle.line.specs.Orders.{ahead_by}

pub keyed_one_way : (a i b j : ℕ) → ahead_by a i b j ≡ true → ahead_by b j a i ≡ false
keyed_one_way a i b j e = grind (arith, nat_tests)

pub keyed_chain : (a i b j c k : ℕ) → ahead_by a i b j ≡ true → ahead_by b j c k ≡ true → ahead_by a i c k ≡ true
keyed_chain a i b j c k e f = grind (arith, nat_tests)

-- keys are told apart by their numbers
pub keyed_tied : {K : Type 0} (value : K → ℕ) (exact : (a b : K) → value a ≡ value b → a ≡ b) (a : K) (i : ℕ) (b : K) (j : ℕ) →
    ahead_by (value a) i (value b) j ≡ false → ahead_by (value b) j (value a) i ≡ false → (a ≡ b) × (i ≡ j)
keyed_tied value exact a i b j e f =
    let same : value a ≡ value b = grind (arith, nat_tests) in
    (exact a b same, grind (arith, nat_tests))

pub keyed_level : (a i b j : ℕ) → a ≡ b → i ≡ j → ahead_by a i b j ≡ false
keyed_level a i b j e f = grind (arith, nat_tests)

-- a key that is not ahead is not greater
pub keyed_behind : (a i b j : ℕ) → ahead_by a i b j ≡ false → a ≤ b
keyed_behind a i b j e = grind (arith, nat_tests)
