-- What the accepted calls were asked.
use Rattle.std.proofs.Common.{◌≡◌, ℕ, ◌≤◌, false, List, length, arith}
use Rattle.std.proofs.lemmas.Bool.Decides.{nat_tests}
use Rattle.windows.specs.Refusals.{struck}
use Rattle.rule.specs.Tables.{outside}
use Rattle.flat.specs.Loading.{slots_checks, flat_checks}

pub record Slotted (n T : ℕ) (cs : List ℕ) : Type 0 where
  pub few : n ≤ 32
  pub some : 1 ≤ T
  pub most : T ≤ 64
  pub rooms : length cs ≡ T

pub slots_accepted : (n T : ℕ) (cs : List ℕ) → struck (slots_checks n T cs) ≡ 0 → Slotted n T cs
slots_accepted n T cs e = record { few = grind (arith, nat_tests); some = grind (arith, nat_tests); most = grind (arith, nat_tests); rooms = grind (arith, nat_tests) }

pub record Dated (n T : ℕ) (cs ds : List ℕ) : Type 0 where
  pub few : n ≤ 32
  pub some : 1 ≤ T
  pub most : T ≤ 64
  pub rooms : length cs ≡ T
  pub dated : length ds ≡ n
  pub timely : outside 1 T ds ≡ false

pub flat_accepted : (n T : ℕ) (cs ds : List ℕ) → struck (flat_checks n T cs ds) ≡ 0 → Dated n T cs ds
flat_accepted n T cs ds e =
    record {
      few = grind (arith, nat_tests);
      some = grind (arith, nat_tests);
      most = grind (arith, nat_tests);
      rooms = grind (arith, nat_tests);
      dated = grind (arith, nat_tests);
      timely = grind (arith, nat_tests);
    }
