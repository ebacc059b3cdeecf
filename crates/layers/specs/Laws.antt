-- That the rounds of a pair end by themselves.
use Rattle.std.specs.Prelude.{◌≡◌, ℕ, ◌<◌, ◌≤◌}
use Rattle.windows.specs.WindowSets.{WindowSet, Proper}
use Rattle.rule.specs.Meaning.{Meaning, Lawful, max_charge}
use Rattle.layers.specs.Layers.{round, rounds, slack, pair}

-- Of lawful rules, any number of rounds above the slack gives the cut of the pair.
abbrev pub RoundsSettle : Type 0
RoundsSettle = (a b : Meaning) → Lawful a → Lawful b → (limit k : ℕ) (w : WindowSet) → Proper w → limit ≤ max_charge → slack w.each < k → rounds (round a b limit) k w ≡ (pair a b).cut w limit
