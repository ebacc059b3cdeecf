use Rattle.std.proofs.Common.{min, max, get_or, rules}
use Rattle.flat.proofs.Made.{made_at}
use Rattle.flat.proofs.ends.Ends.holding.Goals as goal

pub returns : goal.returns
returns c = record {
  first = λ k h. made_at _ _ (λ k. min (get_or c.args.self.earliest k 0) (get_or c.args.placed.now k 0)) _ (λ k y q e. search rules) 32 c.from_fn.ensures.items k 0 h;
  final = λ k h. made_at _ _ (λ k. max (get_or c.args.self.latest k 0) (get_or c.args.placed.now k 0)) _ (λ k y q e. search rules) 32 c.from_fn-2.ensures.items k 0 h;
}
