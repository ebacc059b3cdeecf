use Rattle.std.proofs.Common.{rules, ◌≡◌, Some}
use Rattle.windows.specs.Filling.{set_of}
use Rattle.windows.proofs.Held.{held_proper}
use Rattle.layers.specs.Layers.{less}
use Rattle.layers.specs.Pairing.{fit_less}
use Rattle.layers.proofs.rounds.Narrowing.turn.Goals as goal

pub invariant_of-result : goal.invariant_of-result
invariant_of-result g c =
    let n = c.args.self.now in
    let a = g.L.Rule.meaning n.left.now in
    let e : Some (set_of c.narrow.new.windows) ≡ less a n.limit c.args.floor (set_of n.windows) = search rules in
    let fit = fit_less a (g.met.L.Rule.lawful n.left.now) n.limit n.low c.args.floor in
    record {
      fits_left = fit (g.R.Rule.meaning n.right.now) (set_of n.windows) (set_of c.narrow.new.windows) (held_proper n.windows) e n.fits_right;
      fits_right = fit a (set_of n.windows) (set_of c.narrow.new.windows) (held_proper n.windows) e n.fits_left;
      low = n.low;
    }
