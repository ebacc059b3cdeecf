use Rattle.std.proofs.Common.{rules}
use Rattle.search.proofs.Cuts.{cut_within}
use Rattle.search.proofs.left.left_of.Goals as goal

pub returns-in-Some : goal.returns-in-Some
returns-in-Some g c = record {
  narrowed = c.narrow.new.windows;
  inside = cut_within (g.met.R.Rule.lawful c.args.rule.now) c.in_ok-limit.limit c.args.part.now c.narrow.new.windows c.narrow.result c.narrow.ensures;
  halves = c.in-Some.ensures;
  fate = search rules;
}
