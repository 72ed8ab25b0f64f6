-- What the reader makes of the engine's answer, which points by entries: places in the component, and the table filled.
use Rattle.std.specs.Prelude.{ℕ, ◌+◌, ◌*◌, ◌-◌, ◌<◌, ◌≤◌, List, length, eqb, Result, Ok, Err}
use Rattle.element.specs.Octets.{Octets, if, between}
use Rattle.element.specs.Answer.{Answer, accepted, refused}
use Rattle.component.specs.declared.Head as G
use Rattle.component.specs.Table.{width, held, id_of, code_of}
use Rattle.component.specs.Layout.{Head, code_octets, operation_place}
use Rattle.operation.specs.declared.engine.RowFault as F
use Rattle.operation.specs.declared.engine.RowFault.TheVariants as FV
use Rattle.operation.specs.inner.Sheet.{copied}
use Rattle.operation.specs.Codes.{told_code}
use Rattle.operation.specs.Caller.{Told}

-- where the parts of a head stand in the octets
abbrev pub Headed : Octets → G.Head → Type 0
Headed s h = (h.id.start ≤ h.id.end) × (h.id.end ≤ h.id.start + 2) × (h.id.end ≤ length s)
    × (h.code + 1 < length s) × (length s ≤ 4096)

-- what the engine's answer is about: at most as many named as there are, and an entry that is there
abbrev pub Pointing : (count : ℕ) → Result ℕ F.RowFault → Type 0
Pointing count (Ok named) = named ≤ count
Pointing count (Err FV.NoRow) = Unit
Pointing count (Err (FV.Again entry)) = entry < count
Pointing count (Err (FV.WrongSize entry)) = entry < count
Pointing count (Err (FV.Missing number)) = Unit
Pointing count (Err (FV.Both entry)) = entry < count

unfoldable pub detail_of : Head → (sheet : List ℕ) (number detail : ℕ) → ℕ
detail_of h sheet n d = if (eqb n 11) (operation_place h) (if (eqb n 13) d (held sheet d).place)

unfoldable pub finished : Octets → Head → (given count : ℕ) (sheet : List ℕ) → Answer ℕ → Answer Told
finished s h given count sheet (accepted named) =
    accepted (record {
      kind = h.kind;
      id = id_of (between h.id.start h.id.end s);
      code = code_of (told_code h.kind (code_octets s h) given);
      all = count;
      named = named;
      other = count - named;
    })
finished s h given count sheet (refused n d) = refused n (detail_of h sheet n d)

unfoldable pub table_finished : (count : ℕ) (sheet t : List ℕ) → Answer ℕ → List ℕ
table_finished count sheet t (accepted named) = copied sheet t (width * count)
table_finished count sheet t (refused n d) = t
