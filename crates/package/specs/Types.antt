-- The six types of packages, and how many octets of transaction IDs each has.
use Rattle.std.specs.Prelude.{ℕ, ◌≤◌, Bool, ◌&&◌, ltb, leb, eqb}
use Rattle.element.specs.Octets.{if}

-- UNIDIRECTIONAL
abbrev pub U : ℕ
U = 0xE1

-- QUERY WITH PERMISSION
abbrev pub QW : ℕ
QW = 0xE2

-- QUERY WITHOUT PERMISSION, in which Table 2 carries nothing
abbrev pub QWO : ℕ
QWO = 0xE3

-- RESPONSE
abbrev pub R : ℕ
R = 0xE4

-- CONVERSATION WITH PERMISSION
abbrev pub CW : ℕ
CW = 0xE5

-- CONVERSATION WITHOUT PERMISSION
abbrev pub CWO : ℕ
CWO = 0xE6

abbrev pub PackageType : ℕ → Type 0
PackageType kind = (U ≤ kind) × (kind ≤ CWO)

-- none in a UNIDIRECTIONAL, one ID of four octets in a QUERY and in a RESPONSE, the originating and the responding one
-- in a CONVERSATION; where the octet is no type, nothing is asked
unfoldable pub id_size : (kind : ℕ) → ℕ
id_size kind = if (eqb kind U) 0 (if (ltb kind CW) 4 8)

-- the same as a test
unfoldable pub package_type : ℕ → Bool
package_type kind = leb U kind && leb kind CWO
