-- The component ID and the code as C hands them in.
use Rattle.std.specs.Prelude.{ℕ}
use Rattle.component.specs.declared.Id as D
use Rattle.component.specs.declared.Code as E

-- the paper's component ID from its numbers
abbrev pub id_from : (count first second : ℕ) → D.Id
id_from count first second = record { count = count; first = first; second = second }

abbrev pub code_from : (first second : ℕ) → E.Code
code_from first second = record { first = first; second = second }
