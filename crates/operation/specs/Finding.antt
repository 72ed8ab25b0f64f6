-- The row of an operation and a component type.
use Rattle.std.specs.Prelude.{ℕ, Bool, ◌&&◌, ◌||◌, List, [], ◌∷◌, eqb}
use Rattle.element.specs.Octets.{if}
use Rattle.element.specs.Answer.{Answer, accepted, refused}
use Rattle.operation.specs.Row.{Row}
use Rattle.operation.specs.Rows.{Operation, operations}

unfoldable pub find : (kind specifier at : ℕ) → List Operation → Answer Row
find kind specifier at [] = refused 11 at
find kind specifier at (o ∷ os) =
    if (eqb kind o.kind && eqb specifier o.specifier) (accepted o.row) (find kind specifier at os)

-- an INVOKE and a RESULT have a row, an ERROR and a REJECT none
unfoldable pub rowed : (kind : ℕ) → Bool
rowed kind = eqb kind 0xE9 || eqb kind 0xEA

-- the row of an operation and a component type; none: 11, pointing at `at`. A type without rows has the row of no line,
-- which names nothing and asks for nothing
unfoldable pub row_of : (kind operation at : ℕ) → Answer Row
row_of kind operation at = if (rowed kind) (find kind operation at operations) (accepted [])
