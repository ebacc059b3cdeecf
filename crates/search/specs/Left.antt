-- What a step leaves of a part.
use Rattle.std.specs.Prelude.{◌≡◌, ℕ, Some, None, Option}
use Rattle.windows.specs.declared.windows.Windows.{Windows}
use Rattle.windows.specs.WindowSets.{Inside}
use Rattle.windows.specs.Filling.{set_of}
use Rattle.windows.specs.Halves.{SplitUp}
use Rattle.rule.specs.Meaning.{Meaning}
use Rattle.runs.specs.Run.{closed, found, split, fate as fate_under}
use Rattle.search.specs.declared.left.Left.{Left}
use Rattle.search.specs.declared.left.Left.TheVariants.{Plan, Halves}

-- A part was narrowed and then split: it keeps the earlier half.
pub record Halved (m : Meaning) (limit : Option ℕ) (before after half : Windows) : Type 0 where
  pub narrowed : Windows
  pub inside : Inside (set_of narrowed).each (set_of before).each
  pub halves : SplitUp narrowed after (Some half)
  pub fate : fate_under m (set_of before) limit ≡ split (set_of narrowed)

-- A part met its fate in its place: it is closed; or it is one schedule now, with its charge; or it is split.
abbrev pub LeftOf : Meaning → Option ℕ → Windows → Windows → Option Left → Type 0
LeftOf m limit before after None = fate_under m (set_of before) limit ≡ closed
LeftOf m limit before after (Some (Plan charge)) = (fate_under m (set_of before) limit ≡ found (set_of after)) × (charge ≡ m.floor (set_of after))
LeftOf m limit before after (Some (Halves half)) = Halved m limit before after half
