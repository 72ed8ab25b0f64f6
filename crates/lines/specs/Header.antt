-- The header of a tagged field: a tag, and the length of the contents in two octets, high first.
use Rattle.std.specs.Prelude.{◌+◌, ◌*◌, Option, Some, None, length, nat_lt, slice_index}
use Rattle.element.specs.Octets.{Octets, if}
use Rattle.lines.specs.declared.Field as F

unfoldable pub field_at : Octets → Option F.Field
field_at s =
    if (nat_lt (length s) 3) None
    (Some (record { tag = slice_index s 0; size = slice_index s 1 * 256 + slice_index s 2 }))
