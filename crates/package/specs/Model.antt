-- Our package reader and our package writer, as a caller sees them, and that there is no other.
use Rattle.std.specs.Prelude.{ℕ, ◌≡◌, List, length}
use Rattle.element.specs.Octets.{Octets, AreOctets}
use Rattle.element.specs.Answer.{refused}
use Rattle.element.specs.Output.{written, output_after}
use Rattle.operation.specs.Caller.{wrote}
use Rattle.package.specs.Caller.{read, Reader, Order, Writer}
use Rattle.package.specs.Reading.{package_reading, tables_after}
use Rattle.package.specs.Writing.{package_writing}
use Rattle.package.specs.Told.{told}
use Rattle.package.specs.Demands.{Demands}

abbrev pub reader : Reader
reader s specifiers t =
    read (told (package_reading s specifiers (length t))) (tables_after t (package_reading s specifiers (length t)))

abbrev pub writer : Writer
writer o out = wrote (written (package_writing o (length out))) (output_after out (package_writing o (length out)))

-- ours satisfies the demands
unfoldable pub Ours : Type 0
Ours = Demands reader writer

-- and whatever satisfies them gives, for all inputs, the same answer and the same lent buffers
unfoldable pub OnlyOne : Type 0
OnlyOne = (r : Reader) (w : Writer) → Demands r w →
    ((s : Octets) (specifiers : ℕ) (t : List ℕ) → AreOctets s → r s specifiers t ≡ reader s specifiers t)
    × ((o : Order) (out : Octets) → w o out ≡ writer o out)

-- 18 has no sense here either: nothing that satisfies the demands refuses with it, in reading or in writing
unfoldable pub NoEighteen : Type 0
NoEighteen = (r : Reader) (w : Writer) → Demands r w →
    ((s : Octets) (specifiers : ℕ) (t : List ℕ) (d : ℕ) → AreOctets s → (r s specifiers t).answer ≡ refused 18 d → ⊥)
    × ((o : Order) (out : Octets) (d : ℕ) → (w o out).answer ≡ refused 18 d → ⊥)
