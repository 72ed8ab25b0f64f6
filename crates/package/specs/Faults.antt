-- The faults of a package's layout, the twin of `Packaged`: which octets have 22, with this detail. What is laid out
-- stands first, and behind it what cannot be; `at` counts the octets before it.
use Rattle.std.specs.Prelude.{ℕ, ◌+◌, ◌≡◌, [], ◌∷◌, ◌++◌, length}
use Rattle.element.specs.Octets.{Octets}
use Rattle.element.specs.Length.{LengthField}
use Rattle.component.specs.Grammar.{Element}
use Rattle.component.specs.Faults.{Numbers, Unheld, Unfound, LeftOver}
use Rattle.package.specs.Types.{PackageType, id_size}

-- each fault of an element of the package's own has the one number
abbrev pub layout : Numbers
layout = record { field = 22; extent = 22; end = 22; rest = 22 }

-- ---- the components, to the end of the sequence
pub data InSequence : (at : ℕ) → Octets → (number detail : ℕ) → Type 0 where
  unheld : {at octet : ℕ} {s : Octets} {n d : ℕ} → Unheld layout (octet ∷ []) at s n d → InSequence at s n d
  later : {at octet : ℕ} {body o rest : Octets} {n d : ℕ} → Element (octet ∷ []) body o →
      InSequence (at + length o) rest n d → InSequence at (o ++ rest) n d

-- ---- the component sequence: a dialogue portion, F9, is another octet
pub data NoSequence (at : ℕ) : Octets → (number detail : ℕ) → Type 0 where
  unfound : {s : Octets} {n d : ℕ} → Unfound layout 0xE8 22 at s n d → NoSequence at s n d
  left_over : {s : Octets} {n d : ℕ} → LeftOver layout (0xE8 ∷ []) at s n d → NoSequence at s n d
  inside : {field contents : Octets} {n d : ℕ} → LengthField (length contents) field →
      InSequence (at + (1 + length field)) contents n d → NoSequence at (0xE8 ∷ (field ++ contents)) n d

-- ---- the transaction IDs and what stands behind them, in a package of this type
pub data NoIds (kind at : ℕ) : Octets → (number detail : ℕ) → Type 0 where
  unfound : {s : Octets} {n d : ℕ} → Unfound layout 0xC7 22 at s n d → NoIds kind at s n d
  sized : {ids i : Octets} (rest : Octets) → Element (0xC7 ∷ []) ids i → (length ids ≡ id_size kind → ⊥) →
      NoIds kind at (i ++ rest) 22 at
  behind : {ids i rest : Octets} {n d : ℕ} → Element (0xC7 ∷ []) ids i → length ids ≡ id_size kind →
      NoSequence (at + length i) rest n d → NoIds kind at (i ++ rest) n d

-- ---- the element of the type
pub data Unpackaged : Octets → (number detail : ℕ) → Type 0 where
  untyped : {a : ℕ} {s : Octets} → (PackageType a → ⊥) → Unpackaged (a ∷ s) 22 0
  unheld : {kind : ℕ} {s : Octets} {n d : ℕ} → PackageType kind → Unheld layout (kind ∷ []) 0 s n d →
      Unpackaged s n d
  left_over : {kind : ℕ} {s : Octets} {n d : ℕ} → PackageType kind → LeftOver layout (kind ∷ []) 0 s n d →
      Unpackaged s n d
  inside : {kind : ℕ} {field body : Octets} {n d : ℕ} → PackageType kind → LengthField (length body) field →
      NoIds kind (1 + length field) body n d → Unpackaged (kind ∷ (field ++ body)) n d
