use Rattle.std.proofs.Common.{◌≡◌, map, reverse, subst, sym, arith}
use Rattle.std.proofs.lemmas.Grind.{common_steps}
use Rattle.runs.specs.Run.{after}
use Rattle.runs.specs.Law.{Upheld}
use Rattle.search.specs.Held.{state, call_of}
use Rattle.search.proofs.Goings.{upheld}
use Rattle.search.proofs.history.replay.Goals as goal

pub returns-clause-law : goal.returns-clause-law
returns-clause-law g c =
    let m = g.R.Rule.meaning c.args.rule in
    let calls = reverse (map call_of c.args.calls.now) in
    let e : state c.loop-call.search.inner ≡ after m calls = grind (arith, common_steps) in
    subst (Upheld m calls) (sym e) (upheld (g.met.R.Rule.lawful c.args.rule) c.args.calls.now)
