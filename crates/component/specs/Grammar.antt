-- The grammar: which octets lay out which component, as the paper words it. No order of checks, no position.
use Rattle.std.specs.Prelude.{ℕ, ◌≡◌, Bool, List, [], ◌∷◌, ◌++◌, length}
use Rattle.element.specs.Octets.{Octets}
use Rattle.element.specs.Length.{LengthField}
use Rattle.element.specs.Identifier.{IdentifierField}
use Rattle.component.specs.Types.{Coding, uncoded, coded, coding_of, Allowed, with_family}

pub record Parameter : Type 0 where
  pub number : ℕ
  pub form : ℕ
  pub content : Octets

-- identifier, length field, body
pub data Element (head body : Octets) : Octets → Type 0 where
  laid : (field : Octets) → LengthField (length body) field → Element head body (head ++ field ++ body)

pub data Parameters : List Parameter → Octets → Type 0 where
  none : Parameters [] []
  more : (p : Parameter) {ps : List Parameter} {head s rest : Octets} →
      IdentifierField p.number p.form head → Element head p.content s → Parameters ps rest →
      Parameters (p ∷ ps) (s ++ rest)

-- the code as it stands in the octets: none in a RESULT
pub record Component : Type 0 where
  pub kind : ℕ
  pub id : Octets
  pub code : Octets
  pub parameters : List Parameter

-- the element of the code
pub data Coded : Coding → (code : Octets) → Octets → Type 0 where
  absent : Coded uncoded [] []
  present : {octet number size : ℕ} {family : Bool} {code s : Octets} → length code ≡ size →
      Element (octet ∷ []) (with_family family code) s → Coded (coded octet number family size) code s

-- the elements of the component ID, of the code and of the set of parameters, in that of the type
pub record Laid (c : Component) (s : Octets) : Type 0 where
  pub id : Octets
  pub code : Octets
  pub set : Octets
  pub contents : Octets
  pub allowed : Allowed c.kind (length c.id)
  pub identified : Element (0xCF ∷ []) c.id id
  pub encoded : Coded (coding_of c.kind) c.code code
  pub parameters : Parameters c.parameters contents
  pub collected : Element (0xF2 ∷ []) contents set
  pub whole : Element (c.kind ∷ []) (id ++ code ++ set) s
