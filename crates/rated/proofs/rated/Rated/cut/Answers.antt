use Rattle.std.proofs.Common.{◌≡◌, ℕ, ◌<◌, length, get_or, ap, subst, sym, ◌∙◌}
use Rattle.std.specs.Option.{option_map}
use Rattle.windows.specs.Filling.{set_of}
use Rattle.rated.specs.declared.measure.Forcing.{Forcing}
use Rattle.rated.specs.Measures.{SomeUnaffordable, Final}
use Rattle.rated.proofs.Cutting.{never_nothing, unaffordable, filled_cut, never_refused}
use Rattle.rated.proofs.rated.Rated.cut.Goals as goal

pub returns-in_err-batches : goal.returns-in_err-batches
returns-in_err-batches c = absurd (never_nothing c.args.self.now c.args.windows.now c.in_ok-hull.hull c.in_ok-hull.ensures c.in_err-batches.ensures)

pub returns-in_err-earliest : goal.returns-in_err-earliest
returns-in_err-earliest c = ap (option_map set_of) c.from_residual-in_err-earliest.ensures ∙ unaffordable c.args.self.now c.args.windows.now c.in_ok-hull.hull c.in_ok-hull.ensures c.in_ok-batches.batches c.in_ok-batches.ensures c.new-forcing.result c.args.limit c.new-forcing.ensures c.in_err-earliest.ensures.found

pub returns-in_err-latest : goal.returns-in_err-latest
returns-in_err-latest c = ap (option_map set_of) c.from_residual-in_err-latest.ensures ∙ unaffordable c.args.self.now c.args.windows.now c.in_ok-hull.hull c.in_ok-hull.ensures c.in_ok-batches.batches c.in_ok-batches.ensures c.new-forcing.result c.args.limit c.new-forcing.ensures
    (subst (λ (f : Forcing). SomeUnaffordable f (set_of c.in_ok-hull.hull).each) c.in_ok-earliest.ensures.back c.in_err-latest.ensures.found)

pub returns-in_err-ok : goal.returns-in_err-ok
returns-in_err-ok c =
    let hs = (set_of c.in_ok-hull.hull).each in
    let q = c.in_ok-latest.latest in
    let late = subst (λ (f : Forcing). (length q ≡ 32) × ((k : ℕ) → k < length hs → Final f hs k (get_or q k 0))) c.in_ok-earliest.ensures.back c.in_ok-latest.ensures.found in
    absurd (never_refused c.args.self.now c.args.windows.now c.in_ok-hull.hull c.in_ok-hull.ensures c.in_ok-batches.batches c.in_ok-batches.ensures c.new-forcing.result c.args.limit c.new-forcing.ensures c.size-size.result.batches c.size-size.result.periods c.in_ok-earliest.earliest q c.size-size.ensures.batches c.size-size.ensures.periods c.in_ok-earliest.ensures.found late c.fill.new.self c.fill.result (sym c.in_err-ok.ensures.value) c.fill.ensures)

pub returns : goal.returns
returns c =
    let hs = (set_of c.in_ok-hull.hull).each in
    let q = c.in_ok-latest.latest in
    let late = subst (λ (f : Forcing). (length q ≡ 32) × ((k : ℕ) → k < length hs → Final f hs k (get_or q k 0))) c.in_ok-earliest.ensures.back c.in_ok-latest.ensures.found in
    filled_cut c.args.self.now c.args.windows.now c.in_ok-hull.hull c.in_ok-hull.ensures c.in_ok-batches.batches c.in_ok-batches.ensures c.new-forcing.result c.args.limit c.new-forcing.ensures c.size-size.result.batches c.size-size.result.periods c.in_ok-earliest.earliest q c.size-size.ensures.batches c.size-size.ensures.periods c.in_ok-earliest.ensures.found late c.fill.new.self c.in_ok-ok.field-0 c.fill.result (sym c.in_ok-ok.ensures.value) c.fill.ensures
