use Rattle.std.proofs.Common.{rules, arith}
use Rattle.flat.specs.Ends.{placed_in}
use Rattle.flat.proofs.Scans.{first_down}
use Rattle.flat.proofs.Outermost.{none_after, is_latest}
use Rattle.flat.proofs.ends.sought.Sought.latest.Goals as goal

pub returns : goal.returns
returns c =
    let s = c.args.self.now in
    let i = c.args.i in
    first_down (λ a r q e. search rules) c.new.result c.rev.result c.new.ensures.exhausted c.rev.ensures.runs _ c.find_map.ensures.runs
    (λ none. none_after s i c.requires.one c.args.found (λ v low high. let n = none v (omega (arith, c.new.ensures.start)) (omega (arith, c.new.ensures.end, c.last.ensures)) in search rules))
    (λ p t got none. is_latest s i c.requires.one (placed_in s p) t (search rules) (λ v low high. let n = none v low (omega (arith, c.new.ensures.end, c.last.ensures)) in search rules))
