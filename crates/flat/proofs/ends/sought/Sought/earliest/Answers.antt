use Rattle.std.proofs.Common.{rules}
use Rattle.flat.specs.Ends.{placed_in}
use Rattle.flat.proofs.Scans.{first_up}
use Rattle.flat.proofs.Outermost.{none_before, is_earliest}
use Rattle.flat.proofs.ends.sought.Sought.earliest.Goals as goal

pub returns : goal.returns
returns c =
    let s = c.args.self.now in
    let i = c.args.i in
    first_up (λ a r q e. search rules) _ _ c.find_map.ensures.runs
    (λ none. none_before s i c.requires c.args.found (λ v low high. let n = none v low high in search rules))
    (λ p t got none. is_earliest s i c.requires (placed_in s p) t (search rules) (λ v low high. let n = none v low high in search rules))
