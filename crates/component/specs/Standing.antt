-- Where the parts of a component stand, by its layout: the set's contents are the last of it, each parameter stands
-- where the one before it ends, and the code is the last before the set.
use Rattle.std.specs.Prelude.{ℕ, ◌+◌, ◌-◌, ◌≡◌, List, [], ◌∷◌, ◌++◌, length, eqb}
use Rattle.element.specs.Octets.{Octets, if}
use Rattle.element.specs.Length.{LengthField}
use Rattle.element.specs.Identifier.{IdentifierField}
use Rattle.component.specs.Grammar.{Parameter, Parameters, Component, Laid}
use Rattle.component.specs.Table.{Entry}

-- the entry of a parameter whose octets `e` stand at `place`: its contents are the last of them
unfoldable pub entry_at : (place : ℕ) (e : Octets) → Parameter → Entry
entry_at place e p =
    record {
      number = p.number;
      form = p.form;
      place = place;
      start = place + (length e - length p.content);
      size = length p.content;
    }

-- an entry shows a parameter of these octets: at its place stand the identifier, the length field and the contents,
-- which start where it says
pub record Shows (s : Octets) (e : Entry) (p : Parameter) : Type 0 where
  pub before : Octets
  pub identifier : Octets
  pub field : Octets
  pub behind : Octets
  pub octets : s ≡ before ++ identifier ++ field ++ p.content ++ behind
  pub identified : IdentifierField p.number p.form identifier
  pub sized : LengthField (length p.content) field
  pub number : e.number ≡ p.number
  pub form : e.form ≡ p.form
  pub place : e.place ≡ length before
  pub start : e.start ≡ length (before ++ identifier ++ field)
  pub size : e.size ≡ length p.content

-- two lists of one length, and `R` holds of each two that stand at one index
pub data Pairwise {A B : Type 0} (R : A → B → Type 0) : List A → List B → Type 0 where
  none : Pairwise R [] []
  more : {a : A} {b : B} {xs : List A} {ys : List B} → R a b → Pairwise R xs ys → Pairwise R (a ∷ xs) (b ∷ ys)

unfoldable pub entries_at : (place : ℕ) {ps : List Parameter} {s : Octets} → Parameters ps s → List Entry
entries_at place Parameters.none = []
entries_at place (Parameters.more p {s = e} n w r) = entry_at place e p ∷ entries_at (place + length e) r

-- the entries of a component, as they go to the table
unfoldable pub standing : {c : Component} {s : Octets} → Laid c s → List Entry
standing {s = s} h = entries_at (length s - length h.contents) h.parameters

-- where the operation stands: 0 but in an INVOKE
unfoldable pub operation_at : {c : Component} {s : Octets} → Laid c s → ℕ
operation_at {c} {s} h = if (eqb c.kind 0xE9) (length s - (length h.set + length c.code)) 0
