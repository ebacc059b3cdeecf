use Rattle.std.proofs.Common.{◌≡◌, ◌%◌, length, vec_items}
use Rattle.sheets.specs.Hex.{hex_bytes}
use Rattle.sheets.proofs.Decoded.{after}
use Rattle.sheets.proofs.hex.decode.Given as goal

-- The bytes so far, and those of the text that is left, are those of the text; and that is even.
abbrev pub invariant-loop-rest : goal.invariant-loop-rest
invariant-loop-rest l = (hex_bytes l.text ≡ after (vec_items l.bytes) (hex_bytes l.rest)) × (length l.rest % 2 ≡ 0)

abbrev pub decreases-loop-rest : goal.decreases-loop-rest
decreases-loop-rest l = length l.rest
