use Rattle.std.proofs.Common.{refl, arith}
use Rattle.rule.proofs.Entries.{zeros}
use Rattle.flat.proofs.flat.Flat.new.Goals as goal

pub invariant_of-result : goal.invariant_of-result
invariant_of-result c = record {
  dated = refl;
  soon = (λ k. omega (arith, zeros 32 k));
}
