use Rattle.std.proofs.Common.{length}
use Rattle.reload.specs.Rules.{places_of}
use Rattle.reload.specs.Orders.{kinds_after, kinds_from}
use Rattle.reload.specs.Held.{ks}
use Rattle.reload.proofs.Drawing.{Draws}
use Rattle.reload.proofs.reload.Reload.charge.Given as goal

abbrev pub invariant-loop-t : goal.invariant-loop-t
invariant-loop-t l = Draws l.self (places_of l.each) (kinds_after l.self.extent.periods (ks l.self) (places_of l.each) l.t) l.total l.before

abbrev pub invariant-loop-window : goal.invariant-loop-window
invariant-loop-window l = Draws l.self (places_of l.each) (kinds_from l.self.extent.periods (ks l.self) (places_of l.each) l.t (length l.yielded)) l.total l.before
