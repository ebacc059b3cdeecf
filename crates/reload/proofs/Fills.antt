-- The fill call, where no check strikes.
use Rattle.std.specs.List.{list_any}
use Rattle.std.proofs.Common.{◌≡◌, ℕ, ◌*◌, ◌≤◌, false, ltb, List, length, arith}
use Rattle.std.proofs.lemmas.Bool.Decides.{nat_tests}
use Rattle.windows.specs.Refusals.{struck}
use Rattle.rule.specs.Tables.{outside}
use Rattle.reload.specs.Loading.{reload_checks}

pub record Accepted (n T K : ℕ) (ks q : List ℕ) : Type 0 where
  pub few : n ≤ 32
  pub most : T ≤ 64
  pub eight : K ≤ 8
  pub each : length ks ≡ n
  pub square : length q ≡ K * K
  pub known : outside 1 K ks ≡ false
  pub low : list_any (λ v. ltb 10000 v) q ≡ false

pub reload_accepted : (n T K : ℕ) (ks q : List ℕ) → struck (reload_checks n T K ks q) ≡ 0 → Accepted n T K ks q
reload_accepted n T K ks q e =
    record {
      few = grind (arith, nat_tests);
      most = grind (arith, nat_tests);
      eight = grind (arith, nat_tests);
      each = grind (arith, nat_tests);
      square = grind (arith, nat_tests);
      known = grind (arith, nat_tests);
      low = grind (arith, nat_tests);
    }
