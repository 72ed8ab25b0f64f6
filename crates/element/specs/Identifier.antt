-- The identifier of a parameter: class bits 10, the form, and the number, or 31 with the number behind it, seven bits
-- an octet.
use Rattle.std.specs.Prelude.{ℕ, ◌+◌, ◌*◌, ◌/◌, ◌%◌, ◌≤◌, [], ◌∷◌, ltb}
use Rattle.element.specs.Octets.{Octets, if}

-- the octets of an identifier
unfoldable pub identifier : (number form : ℕ) → Octets
identifier number form =
    if (ltb number 31) ((0x80 + 32 * form + number) ∷ [])
    (if (ltb number 128) ((0x9F + 32 * form) ∷ number ∷ [])
    ((0x9F + 32 * form) ∷ (0x80 + number / 128) ∷ (number % 128) ∷ []))

-- how many they are
unfoldable pub identifier_size : ℕ → ℕ
identifier_size number = if (ltb number 31) 1 (if (ltb number 128) 2 3)

-- the identifiers that there are
pub data IdentifierField : (number form : ℕ) → Octets → Type 0 where
  only : (number form : ℕ) → number ≤ 16383 → form ≤ 1 → IdentifierField number form (identifier number form)
