-- The rounds of a pair of lawful rules settle.
use Rattle.std.proofs.Common.{◌≡◌, ℕ, suc, ◌<◌, ◌≤◌, Some, ◌≢◌, sym, arith}
use Rattle.windows.specs.WindowSets.{WindowSet, Proper}
use Rattle.rule.specs.Meaning.{Meaning, Lawful, max_charge}
use Rattle.layers.specs.Layers.{round, slack, pair}
use Rattle.layers.specs.Laws.{RoundsSettle}
use Rattle.layers.specs.Rounding.{rounds_same, settles, goes_on}
use Rattle.layers.specs.Pairing.{round_within}

pub rounds_settle : RoundsSettle
rounds_settle a b la lb limit k w p c h = rounds_same (round a b limit) (round_within a b la lb limit c) k (suc (slack w.each)) w p (omega arith) (omega arith)

-- The windows v after a round have less slack than those before, w, and the same cut.
pub record Onward (a b : Meaning) (limit : ℕ) (w v : WindowSet) : Type 0 where
  pub less : slack v.each < slack w.each
  pub same_cut : (pair a b).cut w limit ≡ (pair a b).cut v limit

-- A round that leads from w to v: it is the last, or there is another.
module _ (a b : Meaning) (la : Lawful a) (lb : Lawful b) (limit : ℕ) (capped : limit ≤ max_charge) (w v : WindowSet) (p : Proper w) (e : Some v ≡ round a b limit w) where
  pub settled : slack v.each ≡ slack w.each → Some v ≡ (pair a b).cut w limit
  settled s = sym (settles (round a b limit) (round_within a b la lb limit capped) (slack w.each) w v p (sym e) s)

  pub onward : (slack v.each ≢ slack w.each) → Onward a b limit w v
  onward s = let o = goes_on (round a b limit) (round_within a b la lb limit capped) w v p (sym e) s in record { less = o.0; same_cut = o.1 }
