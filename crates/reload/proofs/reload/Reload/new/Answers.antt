use Rattle.std.proofs.Common.{refl, arith}
use Rattle.rule.proofs.Entries.{zeros}
use Rattle.reload.proofs.reload.Reload.new.Goals as goal

pub invariant_of-result-2 : goal.invariant_of-result-2
invariant_of-result-2 c = record {
  long = refl;
  square = refl;
  eight = omega arith;
  named = (λ k h. absurd (omega arith));
  known = (λ k h. absurd (omega arith));
  low = (λ k. omega (arith, zeros 64 k));
}
