use Rattle.std.proofs.Common.{◌≡◌, ℕ, List, ap, rules, arith}
use Rattle.rated.proofs.Forcing.{full, stuck, returned, least_with}
use Rattle.rated.proofs.measure.Forcing.least_with.Goals as goal

pub returns-then-room-eq0-clause-least : goal.returns-then-room-eq0-clause-least
returns-then-room-eq0-clause-least c = full c.args.self.now c.args.batch c.args.period c.in_ok-own.own c.in_ok-own.ensures (omega arith) (omega (arith, c.if-room-eq0.true))

pub returns-in_err-placed-clause-back : goal.returns-in_err-placed-clause-back
returns-in_err-placed-clause-back c =
    let f = c.args.self.now in
    let e = returned f c.args.batch c.args.period c.in_ok-own.own c.in_ok-own.ensures (omega arith) (omega arith) in
    let k : c.drop-lowered.new.self.0 ≡ f.capacities = cc in
    ap (λ (xs : List ℕ). record f { capacities = xs }) k

pub returns-in_err-placed-clause-least : goal.returns-in_err-placed-clause-least
returns-in_err-placed-clause-least c =
    let h = stuck c.args.self.now c.args.batch c.args.period c.in_ok-own.own c.in_ok-own.ensures (omega arith) c.without-others.result c.without-others.ensures.0 c.without-others.ensures.1 c.new-lowered.result.capacities.now (cc) c.in_err-placed.ensures in
    search rules

pub returns-clause-back : goal.returns-clause-back
returns-clause-back c =
    let f = c.args.self.now in
    let e = returned f c.args.batch c.args.period c.in_ok-own.own c.in_ok-own.ensures (omega arith) (omega arith) in
    let k : c.drop-lowered-2.new.self.0 ≡ f.capacities = cc in
    ap (λ (xs : List ℕ). record f { capacities = xs }) k

pub returns-clause-least : goal.returns-clause-least
returns-clause-least c =
    least_with c.args.self.now c.args.batch c.args.period c.in_ok-own.own c.in_ok-own.ensures (omega arith) c.without-others.result c.without-others.ensures.0 c.without-others.ensures.1 c.new-lowered.result.capacities.now (cc) (omega arith) c.in_ok-placed.placed c.in_ok-placed.ensures c.charge.result c.charge-2.result
    c.charge.ensures.exact c.charge-2.ensures.exact
