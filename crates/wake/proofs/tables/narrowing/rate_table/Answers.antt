use Rattle.std.proofs.Common.{ℕ, ◌*◌, refl, rules}
use Rattle.sheet.specs.Layout.{word}
use Rattle.sheet.proofs.Fronts.{front_made}
use Rattle.wake.proofs.tables.narrowing.rate_table.Goals as goal

pub returns : goal.returns
returns c n most = front_made _ (λ (k : ℕ). word 2 c.args.bytes.now (2 * k)) _ (λ k y q h. search rules) c.from_fn.result 32 n n refl most c.from_fn.ensures.items
