use Rattle.std.proofs.Common.{◌-◌, arith}
use Rattle.std.proofs.lemmas.List.{length-set}
use Rattle.search.proofs.Tables.{room_below, room_left, room_pushed}
use Rattle.search.proofs.inner.Inner.advance.Goals as goal

pub invariant_of-self-clause-room : goal.invariant_of-self-clause-room
invariant_of-self-clause-room g c = let s = c.args.self.now in room_below s.parts s.count _ c.left_of.new.part (omega arith) (s.busy c.requires) (omega (arith, s.long, s.few)) s.room

pub invariant_of-self-in-Some-Plan-clause-room : goal.invariant_of-self-in-Some-Plan-clause-room
invariant_of-self-in-Some-Plan-clause-room g c = let s = c.args.self.now in room_below s.parts s.count _ c.left_of.new.part (omega arith) (s.busy c.requires) (omega (arith, s.long, s.few)) s.room

pub listed-in-Some-Halves : goal.listed-in-Some-Halves
listed-in-Some-Halves g c =
    let s = c.args.self.now in
    omega (arith, room_left s c.requires c.index-parts-self.result (rw c.in-Some-Halves.field-0-is at c.in-Some-Halves.ensures), s.long, length-set s.parts (s.count - 1) c.left_of.new.part)

pub bounds-self-self-in-Some-Halves : goal.bounds-self-self-in-Some-Halves
bounds-self-self-in-Some-Halves g c =
    let s = c.args.self.now in
    omega (arith, room_left s c.requires c.index-parts-self.result (rw c.in-Some-Halves.field-0-is at c.in-Some-Halves.ensures), s.busy c.requires)

pub invariant_of-self-in-Some-Halves-clause-few : goal.invariant_of-self-in-Some-Halves-clause-few
invariant_of-self-in-Some-Halves-clause-few g c =
    let s = c.args.self.now in
    omega (arith, room_left s c.requires c.index-parts-self.result (rw c.in-Some-Halves.field-0-is at c.in-Some-Halves.ensures))

pub invariant_of-self-in-Some-Halves-clause-room : goal.invariant_of-self-in-Some-Halves-clause-room
invariant_of-self-in-Some-Halves-clause-room g c =
    let s = c.args.self.now in
    room_pushed s c.requires c.index-parts-self.result (rw c.in-Some-Halves.field-0-is at c.in-Some-Halves.ensures)
