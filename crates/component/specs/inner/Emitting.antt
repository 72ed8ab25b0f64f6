-- What the private functions of the composing part say: the octets that each puts down, and those that each counts.
use Rattle.std.specs.Prelude.{ℕ, Option, Some, None, Result, Ok, Err, ◌+◌, ◌*◌, ◌-◌, ◌<◌, ◌≤◌, ◌≡◌, Bool, true, ◌&&◌, List, [], ◌∷◌, ◌++◌, length}
use Rattle.std.specs.Prelude.{take, drop, leb}
use Rattle.element.specs.Octets.{Octets, if}
use Rattle.element.specs.Answer.{Answer, accepted, ◌>>=◌, ◌>>◌, check}
use Rattle.element.specs.Field.{put}
use Rattle.element.specs.Length.{shortest}
use Rattle.element.specs.Identifier.{identifier, identifier_size}
use Rattle.component.specs.declared.Id as D
use Rattle.component.specs.declared.Code as E
use Rattle.element.specs.declared.refusal.Refusal as F
use Rattle.component.specs.Types.{coding_of}
use Rattle.component.specs.Grammar.{Parameter}
use Rattle.component.specs.Composed.{element, code_element}
use Rattle.component.specs.Table.{Entry, width, held, held_from, id_octets, written_code}
use Rattle.component.specs.Composing.{entry_stands, Sizes}
use Rattle.component.specs.Needed.{element_size, set_size, body_size}

-- ---- octets put down at a place of the output, and the place behind them
pub record Put (field : Octets) (at : ℕ) (out : Octets) (next : ℕ) (after : Octets) : Type 0 where
  pub place : next ≡ at + length field
  pub octets : after ≡ put field at out

-- the element of the code
unfoldable pub coded_octets : (kind : ℕ) → E.Code → Octets
coded_octets kind code = code_element (coding_of kind) (written_code kind code)

-- all that stands before the parameters, where the contents of the type's element take `body` octets and the
-- parameters `set`
unfoldable pub head_octets : (kind : ℕ) (id : D.Id) (code : E.Code) (body set : ℕ) → Octets
head_octets kind id code body set =
    (kind ∷ []) ++ shortest body ++ element (0xCF ∷ []) (id_octets id) ++ coded_octets kind code
    ++ (0xF2 ∷ []) ++ shortest set

-- ---- the entries of a table, where all of them stand
abbrev pub AllStand : (count : ℕ) (table : List ℕ) (source : Octets) → Type 0
AllStand count t source = (i : ℕ) → i < count → entry_stands source (held t i) ≡ true

-- ---- how many octets they take
unfoldable pub sized : Answer (List Parameter) → Answer ℕ
sized a = a >>= λ ps. accepted (set_size ps)

-- what is measured, where they take `set`
unfoldable pub measured_of : (kind id set : ℕ) → Answer Sizes
measured_of kind id set = do
  check (leb (element_size 1 (body_size kind id set)) 4096) 15 (element_size 1 (body_size kind id set))
  accepted (record { whole = element_size 1 (body_size kind id set); body = body_size kind id set; set = set })

abbrev pub at_most : ℕ → Result ℕ F.Refusal → Type 0
at_most n (Ok m) = m ≤ n
at_most n (Err r) = Unit {0}

-- the octets of an entry's parameter, and how many they are where the entry stands
abbrev pub octets_at : (source : Octets) → Entry → Octets
octets_at source e = element (identifier e.number e.form) (take e.size (drop e.start source))

abbrev pub size_in : (source : Octets) → Entry → Option ℕ
size_in source e = if (entry_stands source e) (Some (element_size (identifier_size e.number) e.size)) None

-- ---- a component that was measured before: what is put down where its parameters are taken to have `set` octets
-- whether an entry stands, and its parameter finds room
unfoldable pub finds_room : (source : Octets) (room : ℕ) → Entry → Bool
finds_room source room e = entry_stands source e && leb (element_size (identifier_size e.number) e.size) room

-- the parameters one behind another, up to the first of which that is not so
unfoldable pub fitting : (source : Octets) (room : ℕ) → List Entry → Octets
fitting source room [] = []
fitting source room (e ∷ es) =
    if (finds_room source room e)
    (element (identifier e.number e.form) (take e.size (drop e.start source))
    ++ fitting source (room - element_size (identifier_size e.number) e.size) es)
    []

-- the head as that size has it, and the parameters behind it; nothing where there can be no such head, or no room
unfoldable pub laid : (kind : ℕ) (id : D.Id) (code : E.Code) (count : ℕ) (table : List ℕ) (source : Octets)
    (set room : ℕ) → Octets
laid kind id code count table source set room =
    if (leb id.count 2 && (leb count 64 && (leb set 4096 && (leb (width * count) (length table)
    && leb (element_size 1 (body_size kind id.count set)) room))))
    (head_octets kind id code (body_size kind id.count set) set
    ++ fitting source (room - length (head_octets kind id code (body_size kind id.count set) set))
    (held_from 0 count table))
    []
