-- Which octets lay out which package: no order of checks, no position. Its components are octets here; what each of
-- them says is the component reader's.
use Rattle.std.specs.Prelude.{ℕ, ◌≡◌, List, [], ◌∷◌, ◌++◌, length}
use Rattle.element.specs.Octets.{Octets}
use Rattle.component.specs.Grammar.{Element}
use Rattle.package.specs.Types.{PackageType, id_size}

pub record Package : Type 0 where
  pub kind : ℕ
  pub ids : Octets
  pub components : List Octets

-- components one behind another, each an element of one identifier octet, whichever it is
pub data Sequence : List Octets → Octets → Type 0 where
  none : Sequence [] []
  more : {octet : ℕ} {body o rest : Octets} {os : List Octets} → Element (octet ∷ []) body o → Sequence os rest →
      Sequence (o ∷ os) (o ++ rest)

-- the elements of the transaction IDs and of the component sequence, in that of the type
pub record Packaged (p : Package) (s : Octets) : Type 0 where
  pub ids : Octets
  pub sequence : Octets
  pub contents : Octets
  pub typed : PackageType p.kind
  pub sized : length p.ids ≡ id_size p.kind
  pub identified : Element (0xC7 ∷ []) p.ids ids
  pub components : Sequence p.components contents
  pub sequenced : Element (0xE8 ∷ []) contents sequence
  pub whole : Element (p.kind ∷ []) (ids ++ sequence) s
