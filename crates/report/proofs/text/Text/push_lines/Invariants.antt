use Rattle.std.proofs.Common.{◌≡◌, ◌+◌, ◌*◌, ◌≤◌, ◌++◌, length}
use Rattle.report.specs.Texts.{lines_from}
use Rattle.report.proofs.text.Text.push_lines.Given as goal

-- The lines so far and those to come are all the lines.
abbrev pub invariant-loop-batch : goal.invariant-loop-batch
invariant-loop-batch l =
    let it = l.batch-iterator in
    record {
      can_next : (goal.iterator-loop-batch).can_next it;
      is_finite : (goal.iterator-loop-batch).is_finite it;
      room : length l.self + 8 * length it.b.rest.now ≤ 320;
      few : it.a.start + length it.b.rest.now ≤ 33;
      text : l.initial.self ++ lines_from 1 l.periods ≡ l.self ++ lines_from it.a.start it.b.rest.now;
    }
