-- The length field: one octet 00 to 7F; 81 and one octet; 82 and two octets, high first. Any of the three is taken for
-- a length that it can say; the shortest is written.
use Rattle.std.specs.Prelude.{ℕ, ◌+◌, ◌*◌, ◌/◌, ◌%◌, ◌<◌, [], ◌∷◌, ltb}
use Rattle.element.specs.Octets.{Octets, if}

-- the shortest field that says `n`
unfoldable pub shortest : ℕ → Octets
shortest n =
    if (ltb n 128) (n ∷ [])
    (if (ltb n 256) (0x81 ∷ n ∷ [])
    (0x82 ∷ (n / 256) ∷ (n % 256) ∷ []))

-- how many octets it takes; a length over 65,535 is counted as a field of four
unfoldable pub field_size : ℕ → ℕ
field_size n = if (ltb n 128) 1 (if (ltb n 256) 2 (if (ltb n 65536) 3 4))

-- the fields that are taken for a length
pub data LengthField : ℕ → Octets → Type 0 where
  one : {n : ℕ} → n < 128 → LengthField n (n ∷ [])
  two : {n : ℕ} → n < 256 → LengthField n (0x81 ∷ n ∷ [])
  three : {high low : ℕ} → high < 256 → low < 256 → LengthField (high * 256 + low) (0x82 ∷ high ∷ low ∷ [])
