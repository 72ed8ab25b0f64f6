-- The four types of components: how many ID octets each may have, and the element of its code, which stands between the
-- component ID and the set of parameters.
use Rattle.std.specs.Prelude.{ℕ, ◌≤◌, Bool, true, false, ◌&&◌, ◌∷◌, leb, eqb}
use Rattle.element.specs.Octets.{Octets, if}

-- the element of the code, where there is one: its identifier, the number that refuses it, whether the family stands
-- before the code, and how many octets the code has
pub data Coding : Type 0 where
  uncoded : Coding
  coded : (identifier number : ℕ) (family : Bool) (size : ℕ) → Coding

-- how many ID octets there may be, and the code
pub record Format : Type 0 where
  pub fewest : ℕ
  pub most : ℕ
  pub coding : Coding

-- 0 to 2 ID octets, and D1 with the family and a specifier
abbrev pub INVOKE : Format
INVOKE = record { fewest = 0; most = 2; coding = coded 0xD1 7 true 1 }

-- its operation is handed in
abbrev pub RESULT : Format
RESULT = record { fewest = 1; most = 1; coding = uncoded }

-- D4 with an error octet
abbrev pub ERROR : Format
ERROR = record { fewest = 1; most = 1; coding = coded 0xD4 21 false 1 }

-- D5 with two problem octets
abbrev pub REJECT : Format
REJECT = record { fewest = 0; most = 1; coding = coded 0xD5 21 false 2 }

-- the type's octet, E9 to EC
abbrev pub Typed : ℕ → Type 0
Typed kind = (0xE9 ≤ kind) × (kind ≤ 0xEC)

-- where the octet is no type, nothing is asked of its format
unfoldable pub format_of : (kind : ℕ) → Format
format_of kind = if (eqb kind 0xE9) INVOKE (if (eqb kind 0xEB) ERROR (if (eqb kind 0xEC) REJECT RESULT))

abbrev pub coding_of : (kind : ℕ) → Coding
coding_of kind = (format_of kind).coding

-- so many ID octets are allowed in a component of this type
abbrev pub Allowed : (kind size : ℕ) → Type 0
Allowed kind size = Typed kind × ((format_of kind).fewest ≤ size) × (size ≤ (format_of kind).most)

-- ---- the code
-- the contents of its element: the family is 9
abbrev pub with_family : Bool → Octets → Octets
with_family true code = 9 ∷ code
with_family false code = code

abbrev pub family_size : Bool → ℕ
family_size family = if family 1 0

abbrev pub code_size : Coding → ℕ
code_size uncoded = 0
code_size (coded identifier number family size) = size

-- ---- the same as tests
unfoldable pub typed : ℕ → Bool
typed kind = leb 0xE9 kind && leb kind 0xEC

unfoldable pub id_fits : (kind size : ℕ) → Bool
id_fits kind size = leb (format_of kind).fewest size && leb size (format_of kind).most
