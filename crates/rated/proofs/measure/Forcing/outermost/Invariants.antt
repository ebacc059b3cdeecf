use Rattle.std.proofs.Common.{◌≡◌, ℕ, ◌<◌, length, get_or}
use Rattle.windows.specs.WindowSets.{earliest_of, latest_of}
use Rattle.windows.specs.Filling.{set_of}
use Rattle.rated.specs.Ends.{Outermost}
use Rattle.rated.specs.Measures.{Affords}
use Rattle.rated.proofs.Scanned.{NoneBefore}
use Rattle.rated.proofs.measure.Forcing.outermost.Given as goal

abbrev pub invariant-loop-steps : goal.invariant-loop-steps
invariant-loop-steps l = record {
  back : l.self ≡ l.fn.self;
  kept : l.found ≡ l.initial.found;
  none : NoneBefore l.end (earliest_of (set_of l.windows).each l.batch) (latest_of (set_of l.windows).each l.batch) (Affords l.fn.self l.batch) l.steps;
}

abbrev pub invariant-batches : goal.invariant-batches
invariant-batches l = record {
  back : l.self ≡ l.fn.self;
  long : length l.found ≡ 32;
  each : (k : ℕ) → k < l.batch → Outermost l.end l.fn.self (set_of l.windows).each k (get_or l.found k 0);
}
