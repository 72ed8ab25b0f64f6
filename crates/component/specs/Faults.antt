-- The faults of a component, the twin of `Laid`: which octets have the paper's `number` and `detail`. What is laid
-- out stands first, and
-- behind it what cannot be; `at` counts the octets before it. The element of the type and F2 end where their parent
-- ends, so every parent ends with the octets.
use Rattle.std.specs.Prelude.{ℕ, zero, suc, ◌+◌, ◌<◌, ◌≤◌, ◌≡◌, Bool, [], ◌∷◌, ◌++◌, length}
use Rattle.element.specs.Octets.{Octets}
use Rattle.element.specs.Length.{LengthField}
use Rattle.element.specs.Identifier.{IdentifierField}
use Rattle.component.specs.Types.{Coding, coded, coding_of, Typed, Allowed, with_family}
use Rattle.component.specs.Grammar.{Element, Component, Coded, Laid}

-- ---- one element, under whatever numbers its faults have
pub record Numbers : Type 0 where
  pub field : ℕ  -- no length field
  pub extent : ℕ  -- contents run past the parent
  pub end : ℕ  -- an element is wanted where the parent has ended
  pub rest : ℕ  -- octets are left over

-- no length field begins what is left of the parent, and no identifier does
abbrev pub NoField : Octets → Type 0
NoField s = (n : ℕ) (field rest : Octets) → LengthField n field → s ≡ field ++ rest → ⊥

abbrev pub NoIdentifier : Octets → Type 0
NoIdentifier s = (number form : ℕ) (head rest : Octets) → IdentifierField number form head → s ≡ head ++ rest → ⊥

-- an element with this identifier stands at `at`, and its length field is none, or says more than the parent has
pub data Unheld (ns : Numbers) (head : Octets) (at : ℕ) : Octets → (number detail : ℕ) → Type 0 where
  no_field : (s : Octets) → NoField s → Unheld ns head at (head ++ s) ns.field (at + length head)
  overrun : {n : ℕ} {field : Octets} (rest : Octets) → LengthField n field → length rest < n →
      Unheld ns head at (head ++ (field ++ rest)) ns.extent at

-- an element of this one octet is wanted at `at`; the parent has ended, another octet stands there (`number`), or no
-- contents
pub data Unfound (ns : Numbers) (octet number at : ℕ) : Octets → (number detail : ℕ) → Type 0 where
  ended : Unfound ns octet number at [] ns.end at
  other : {a : ℕ} {s : Octets} → (a ≡ octet → ⊥) → Unfound ns octet number at (a ∷ s) number at
  unheld : {s : Octets} {n d : ℕ} → Unheld ns (octet ∷ []) at s n d → Unfound ns octet number at s n d

-- the element has to end where its parent ends, and octets are left over
pub data LeftOver (ns : Numbers) (head : Octets) (at : ℕ) : Octets → (number detail : ℕ) → Type 0 where
  left : {body e : Octets} (a : ℕ) (rest : Octets) → Element head body e → LeftOver ns head at (e ++ (a ∷
      rest)) ns.rest (at + length e)

-- those of a component
abbrev pub component : Numbers
component = record { field = 4; extent = 5; end = 25; rest = 20 }

-- ---- the parameters, of which `room` more are allowed: 10, 9, and 4 and 5 of each
pub data InSet : (room at : ℕ) → Octets → (number detail : ℕ) → Type 0 where
  one_too_many : {at a : ℕ} {s : Octets} → InSet zero at (a ∷ s) 10 at
  no_identifier : {room at a : ℕ} {s : Octets} → NoIdentifier (a ∷ s) → InSet (suc room) at (a ∷ s) 9 at
  unheld : {room at number form : ℕ} {head s : Octets} {n d : ℕ} → IdentifierField number form head →
      Unheld component head at s n d → InSet (suc room) at s n d
  later : {room at number form : ℕ} {head body e rest : Octets} {n d : ℕ} → IdentifierField number form head →
      Element head body e
      → InSet room (at + length e) rest n d → InSet (suc room) at (e ++ rest) n d

-- ---- the set: 8, and 20 where it ends early
pub data NoSet (at : ℕ) : Octets → (number detail : ℕ) → Type 0 where
  unfound : {s : Octets} {n d : ℕ} → Unfound component 0xF2 8 at s n d → NoSet at s n d
  left_over : {s : Octets} {n d : ℕ} → LeftOver component (0xF2 ∷ []) at s n d → NoSet at s n d
  inside : {field set : Octets} {n d : ℕ} → LengthField (length set) field → InSet 64 (at + (1 + length field)) set n d
      → NoSet at (0xF2 ∷ (field ++ set)) n d

-- ---- the code and what stands behind it: its number for another octet, and for contents that are not a code
pub data NoCode (at : ℕ) : Coding → Octets → (number detail : ℕ) → Type 0 where
  unfound : {octet number size : ℕ} {family : Bool} {s : Octets} {n d : ℕ} → Unfound component octet number at s n d →
      NoCode at (coded octet number family size) s n d
  another : {octet number size : ℕ} {family : Bool} {body e : Octets} (rest : Octets) → Element (octet ∷ []) body e →
      ((code : Octets) → length code ≡ size → body ≡ with_family family code → ⊥) →
      NoCode at (coded octet number family size) (e ++ rest) number at
  behind : {coding : Coding} {code e rest : Octets} {n d : ℕ} → Coded coding code e → NoSet (at + length e) rest n d →
      NoCode at coding (e ++ rest) n d

-- ---- the component ID and what stands behind it, in a component of this type: 6 for another octet, or a length not
-- allowed
pub data NoBody (kind at : ℕ) : Octets → (number detail : ℕ) → Type 0 where
  unfound : {s : Octets} {n d : ℕ} → Unfound component 0xCF 6 at s n d → NoBody kind at s n d
  sized : {id i : Octets} (rest : Octets) → Element (0xCF ∷ []) id i → (Allowed kind (length id) → ⊥) →
      NoBody kind at (i ++ rest) 6 at
  behind : {id i rest : Octets} {n d : ℕ} → Element (0xCF ∷ []) id i → Allowed kind (length id) →
      NoCode (at + length i) (coding_of kind) rest n d → NoBody kind at (i ++ rest) n d

-- ---- the component: 2, 3, then the element of the type, whose length field stands at 1
pub data Whole (kind : ℕ) : Octets → (number detail : ℕ) → Type 0 where
  unheld : {s : Octets} {n d : ℕ} → Unheld component (kind ∷ []) 0 s n d → Whole kind s n d
  left_over : {s : Octets} {n d : ℕ} → LeftOver component (kind ∷ []) 0 s n d → Whole kind s n d
  inside : {field body : Octets} {n d : ℕ} → LengthField (length body) field → NoBody kind (1 + length field) body n d
      → Whole kind (kind ∷ (field ++ body)) n d

pub data Faulty : (number detail : ℕ) → Octets → Type 0 where
  empty : Faulty 2 0 []
  long : {s : Octets} → 4096 < length s → Faulty 2 0 s
  untyped : {a : ℕ} {s : Octets} → length (a ∷ s) ≤ 4096 → (Typed a → ⊥) → Faulty 3 0 (a ∷ s)
  whole : {kind : ℕ} {s : Octets} {n d : ℕ} → length s ≤ 4096 → Typed kind → Whole kind s n d → Faulty n d s

-- ---- and what has none: laid out, within 4,096 octets and 64 parameters
pub record LaidOut (c : Component) (s : Octets) : Type 0 where
  pub laid : Laid c s
  pub within : length s ≤ 4096
  pub few : length c.parameters ≤ 64
