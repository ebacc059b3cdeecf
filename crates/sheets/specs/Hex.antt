-- Bytes written as hexadecimal.
use Rattle.std.specs.Prelude.{ℕ, ◌+◌, ◌-◌, ◌*◌, cond, ◌&&◌, List, [], ◌∷◌, Some, None, vec_items, Option, nat_le}
use Rattle.std.specs.Global.{Vec}

-- The value of a digit, of either case.
abbrev pub digit_value : ℕ → Option ℕ
digit_value d =
    cond (nat_le 48 d && nat_le d 57) (Some (d - 48))
    (cond (nat_le 65 d && nat_le d 70) (Some (d - 65 + 10))
    (cond (nat_le 97 d && nat_le d 102) (Some (d - 97 + 10)) None))

-- The byte of two digits; nothing if one of them is no digit.
abbrev pub joined : Option ℕ → Option ℕ → Option ℕ
joined None low = None
joined (Some high) None = None
joined (Some high) (Some low) = Some (16 * high + low)

abbrev pub byte_value : ℕ → ℕ → Option ℕ
byte_value d e = joined (digit_value d) (digit_value e)

-- A byte before others; nothing if there is nothing of either.
abbrev pub before : Option ℕ → Option (List ℕ) → Option (List ℕ)
before None bytes = None
before (Some b) None = None
before (Some b) (Some bytes) = Some (b ∷ bytes)

-- The bytes of some text, two digits each; nothing if it is no hexadecimal.
abbrev pub hex_bytes : List ℕ → Option (List ℕ)
hex_bytes [] = Some []
hex_bytes (d ∷ []) = None
hex_bytes (d ∷ (e ∷ text)) = before (byte_value d e) (hex_bytes text)

-- What an optional list of bytes holds.
abbrev pub items_in : Option (Vec ℕ) → Option (List ℕ)
items_in None = None
items_in (Some v) = Some (vec_items v)
