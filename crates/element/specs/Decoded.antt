-- What stands at the head of what is left of the parent: a length field, a parameter identifier, or none.
use Rattle.std.specs.Prelude.{ℕ, Option, Some, None, ◌+◌, ◌*◌, ◌/◌, ◌%◌, ◌-◌, length, get_or, ltb, leb, eqb}
use Rattle.element.specs.declared.Length as L
use Rattle.element.specs.declared.Identifier as I
use Rattle.element.specs.Octets.{Octets, if}

abbrev pub a_length : (value size : ℕ) → Option L.Length
a_length value size = Some (record { value = value; size = size })

abbrev pub an_identifier : (number form size : ℕ) → Option I.Identifier
an_identifier number form size = Some (record { number = number; form = form; size = size })

-- the field that stands at the head of what is left of the parent
unfoldable pub length_at : Octets → Option L.Length
length_at s =
    if (leb (length s) 0) None
    (if (ltb (get_or s 0 0) 0x80) (a_length (get_or s 0 0) 1)
    (if (eqb (get_or s 0 0) 0x81)
    (if (leb (length s) 1) None (a_length (get_or s 1 0) 2))
    (if (eqb (get_or s 0 0) 0x82)
    (if (leb (length s) 2) None (a_length (get_or s 1 0 * 256 + get_or s 2 0) 3))
    None)))

-- the number behind an octet whose low five bits are all ones: in one octet, 31 to 127, or in two, 128 to 16,383
unfoldable pub numbered : (form : ℕ) → Octets → Option I.Identifier
numbered form s =
    if (leb (length s) 1) None
    (if (ltb (get_or s 1 0) 0x80)
    (if (ltb (get_or s 1 0) 31) None (an_identifier (get_or s 1 0) form 2))
    (if (eqb (get_or s 1 0) 0x80) None
    (if (leb (length s) 2) None
    (if (ltb (get_or s 2 0) 0x80) (an_identifier ((get_or s 1 0 - 0x80) * 128 + get_or s 2 0) form 3)
    None))))

-- the identifier that stands at the head of what is left of the parent
unfoldable pub identifier_at : Octets → Option I.Identifier
identifier_at s =
    if (leb (length s) 0) None
    (if (eqb (get_or s 0 0 / 64) 2)
    (if (ltb (get_or s 0 0 % 32) 31) (an_identifier (get_or s 0 0 % 32) (get_or s 0 0 / 32 % 2) 1)
    (numbered (get_or s 0 0 / 32 % 2) s))
    None)
