-- The charts are read as the paper says.
use mathlib.Core.Path.{◌≡◌, refl}
use mathlib.Core.List.{map}
use Rattle.element.specs.Decoded.{length_at, numbered, identifier_at}
use Rattle.component.specs.Layout.{span_of, contents, wanted, set_at, coded_at, code_at, behind_id, body_at, head_from, head_at, parameter, parameter_at, parameters, layout_behind, layout_at, code_octets, operation_place}
use Rattle.component.specs.Table.{numbers, table_with, id_of, code_of}
use Rattle.component.specs.Types.{format_of, typed, id_fits}
use Rattle.operation.specs.Row.{key, number_of, members, some_of, among, on_line, asks, named, repeats, allows}
use Rattle.operation.specs.Rows.{fixed, sizes_in, sizes, operations}
use Rattle.operation.specs.Items.{item_of}
use Rattle.operation.specs.Judge.{occurs, last_mark, once, sized, met, present, doubled, single, judge, count_named}
use Rattle.operation.specs.Finding.{find, rowed, row_of}
use Rattle.operation.specs.Codes.{operation_of, told_code}
use Rattle.operation.specs.Reading.{operation_in, count_other, shown_of, reading_at, table_after}
use Rattle.operation.specs.Told.{told}
use Rattle.operation.specs.Charts.{reads, expected, starred, living}

pub charts : map reads starred ≡ map expected starred
unfolding length_at numbered identifier_at span_of contents wanted set_at format_of typed id_fits coded_at code_at behind_id body_at head_from head_at parameter parameter_at parameters layout_behind layout_at code_octets operation_place numbers table_with id_of code_of operation_of told_code operation_in rowed key number_of members some_of among on_line asks named repeats allows fixed sizes_in sizes occurs last_mark once sized met present doubled single judge count_named operations find row_of item_of count_other shown_of reading_at table_after told
charts = refl

pub rows_live : map reads living ≡ map expected living
unfolding length_at numbered identifier_at span_of contents wanted set_at format_of typed id_fits coded_at code_at behind_id body_at head_from head_at parameter parameter_at parameters layout_behind layout_at code_octets operation_place numbers table_with id_of code_of operation_of told_code operation_in rowed key number_of members some_of among on_line asks named repeats allows fixed sizes_in sizes occurs last_mark once sized met present doubled single judge count_named operations find row_of item_of count_other shown_of reading_at table_after told
rows_live = refl
