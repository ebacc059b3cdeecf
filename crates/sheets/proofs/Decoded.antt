-- Decoding text two digits at a time.
use Rattle.std.proofs.Common.{◌≡◌, ℕ, ◌-◌, ◌%◌, ◌≤◌, List, [], ◌∷◌, ◌++◌, length, get_or, take, drop, Some, None, Option, sym, refl, ap, ◌∙◌, append_assoc, arith}
use Rattle.std.proofs.lemmas.List.{take_all}
use Rattle.sheets.specs.Hex.{byte_value, before, hex_bytes}

-- Bytes after others; nothing after them if there are none.
abbrev pub after : List ℕ → Option (List ℕ) → Option (List ℕ)
after xs None = None
after xs (Some ys) = Some (xs ++ ys)

pub one_byte : (xs : List ℕ) (b : ℕ) (o : Option (List ℕ)) → after xs (before (Some b) o) ≡ after (xs ++ (b ∷ [])) o
one_byte xs b None = refl
one_byte xs b (Some ys) = ap Some (sym (append_assoc xs (b ∷ []) ys))

-- An odd text is no hexadecimal.
pub odd : (text : List ℕ) → length text % 2 ≡ 1 → hex_bytes text ≡ None
odd [] h = absurd (omega arith)
odd (d ∷ []) h = refl
odd (d ∷ (e ∷ text)) h = ap (before (byte_value d e)) (odd text (omega arith)) ∙ none (byte_value d e)
  where
    none : (o : Option ℕ) → before o None ≡ None
    none None = refl
    none (Some b) = refl

-- The byte of the next two digits stands before those of the rest.
pub next_byte : (text xs rest : List ℕ) (b : ℕ) → 2 ≤ length rest → Some b ≡ byte_value (get_or rest 0 0) (get_or rest 1 0) → hex_bytes text ≡ after xs (hex_bytes rest) → hex_bytes text ≡ after (xs ++ (b ∷ [])) (hex_bytes (take (length rest - 2) (drop 2 rest)))
next_byte text xs [] b h e i = absurd (omega arith)
next_byte text xs (d ∷ []) b h e i = absurd (omega arith)
next_byte text xs (d ∷ (f ∷ more)) b h e i =
    let z : length more ≤ length (d ∷ (f ∷ more)) - 2 = omega arith in
    i
    ∙ ap (λ (o : Option ℕ). after xs (before o (hex_bytes more))) (sym e)
    ∙ one_byte xs b (hex_bytes more)
    ∙ ap (λ (t : List ℕ). after (xs ++ (b ∷ [])) (hex_bytes t)) (sym (take_all (length (d ∷ (f ∷ more)) - 2) more z))
