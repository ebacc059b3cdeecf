use Rattle.std.proofs.Common.{arith}
use Rattle.rule.proofs.Entries.{zeros}
use Rattle.rated.proofs.rated.Rated.new.Goals as goal

pub invariant_of-result-2-clause-cheap : goal.invariant_of-result-2-clause-cheap
invariant_of-result-2-clause-cheap c = λ k. omega (arith, zeros 32 k)
