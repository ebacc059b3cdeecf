use Rattle.std.proofs.Common.{◌<◌, ◌≤◌, List, length, get_or, sym, refl, ap, ◌∙◌, arith}
use Rattle.std.proofs.lemmas.List.{length-set}
use Rattle.std.proofs.lemmas.Bool.{le-leb, lt-leb}
use Rattle.windows.specs.declared.window.Window.{Window}
use Rattle.windows.specs.WindowSets.{WindowSet, nowhere}
use Rattle.windows.specs.Filling.{set_of}
use Rattle.windows.specs.Halves.{earlier_half, later_half}
use Rattle.windows.proofs.Held.{held_length}
use Rattle.windows.proofs.Halving.{wide_found, none_wide, wide_held, each_set, halved_held}
use Rattle.windows.proofs.windows.Windows.split.Goals as goal

pub invariant_of-later : goal.invariant_of-later
invariant_of-later c =
    let w = c.args.self.now in
    let k = c.in_ok-k.k in
    let found = wide_found (set_of w).each k (sym c.in_ok-k.ensures) in
    let h : k < w.extent.batches = omega (arith, found.1, held_length w) in
    let v = later_half (get_or w.each k nowhere) in
    let wide = wide_held w k found.0 h in
    let in_table : k < length w.each = omega (arith, w.long, w.extent.few) in record {
      long = length-set w.each k v ∙ w.long;
      starts = each_set (λ u. 1 ≤ u.earliest) w.each w.extent.batches k v in_table (omega arith) w.starts;
      holds = each_set (λ u. u.earliest ≤ u.latest) w.each w.extent.batches k v in_table (omega arith) w.holds;
      ends = each_set (λ u. u.latest ≤ w.extent.periods) w.each w.extent.batches k v in_table (w.ends k h) w.ends;
    }

pub returns : goal.returns
returns c =
    let w = c.args.self.now in
    let k = c.in_ok-k.k in
    let found = wide_found (set_of w).each k (sym c.in_ok-k.ensures) in
    let is = found.0 in
    let h : k < w.extent.batches = omega (arith, found.1, held_length w) in
    let over : List Window → WindowSet = λ ws. record { periods = w.extent.periods; each = ws } in
    (lt-leb _ _ (omega (arith, held_length w)), ap over (halved_held w k earlier_half is h), ap over (halved_held w k later_half is h))

pub returns-in_err-k : goal.returns-in_err-k
returns-in_err-k c = rw c.from_residual.ensures (le-leb _ _ (none_wide (set_of c.args.self.now).each (sym c.in_err-k.ensures)), refl)
