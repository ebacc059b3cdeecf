use Rattle.std.proofs.Common.{sym, vec_items, arith}
use Rattle.sheets.proofs.Decoded.{next_byte, odd}
use Rattle.sheets.proofs.hex.decode.Goals as goal

pub returns-then-text-eq1 : goal.returns-then-text-eq1
returns-then-text-eq1 c = sym (odd c.args.text.now c.if-text-eq1.true)

pub loop-rest-preserved : goal.loop-rest-preserved
loop-rest-preserved c = (rw c.in_ok-push.ensures.items (next_byte c.args.text.now (vec_items c.loop-rest.bytes) c.loop-rest.rest.now c.in-Some.byte c.in-len2-up.len_at_least c.in-Some.ensures c.loop-rest.invariant.0), omega (arith, c.loop-rest.invariant.1, c.in-len2-up.len_at_least))
