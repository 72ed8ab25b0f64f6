-- Our reader and our writer, as a caller sees them, and that there is no other.
use Rattle.std.specs.Prelude.{◌≡◌, List, ℕ, length}
use Rattle.element.specs.Octets.{Octets, AreOctets}
use Rattle.element.specs.Answer.{Answer, refused}
use Rattle.element.specs.Output.{written, output_after}
use Rattle.operation.specs.Reading.{reading, table_after}
use Rattle.operation.specs.Writing.{writing}
use Rattle.operation.specs.Told.{told}
use Rattle.operation.specs.Caller.{read, Reader, Order, wrote, Writer}
use Rattle.operation.specs.Demands.{Demands}

abbrev pub reader : Reader
reader s given t = read (told (reading s given (length t))) (table_after t (reading s given (length t)))

abbrev pub written_as : Order → (room : ℕ) → Answer Octets
written_as o room = writing o.kind o.id o.code o.count o.table o.source room

abbrev pub writer : Writer
writer o out = wrote (written (written_as o (length out))) (output_after out (written_as o (length out)))

-- ours satisfies the demands
unfoldable pub Ours : Type 0
Ours = Demands reader writer

-- and whatever satisfies them gives, for all inputs, the same answer and the same lent buffers
unfoldable pub OnlyOne : Type 0
OnlyOne = (r : Reader) (w : Writer) → Demands r w →
    ((s : Octets) (given : ℕ) (t : List ℕ) → AreOctets s → r s given t ≡ reader s given t)
    × ((o : Order) (out : Octets) → w o out ≡ writer o out)

-- 18 was a parameter number over 16,383, which no octets say. It has no sense any more and gets no other: nothing that
-- satisfies the demands refuses with it, in reading or in writing
unfoldable pub NoEighteen : Type 0
NoEighteen = (r : Reader) (w : Writer) → Demands r w →
    ((s : Octets) (given : ℕ) (t : List ℕ) (d : ℕ) → AreOctets s → (r s given t).answer ≡ refused 18 d → ⊥)
    × ((o : Order) (out : Octets) (d : ℕ) → (w o out).answer ≡ refused 18 d → ⊥)
