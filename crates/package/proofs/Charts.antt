-- The packages are read as the paper says.
use mathlib.Core.Path.{◌≡◌, refl}
use mathlib.Core.List.{map}
use Rattle.element.specs.Decoded.{length_at, numbered, identifier_at}
use Rattle.component.specs.Layout.{span_of, contents, wanted, set_at, coded_at, code_at, behind_id, body_at, head_from, parameter, parameter_at, parameters, layout_behind, layout_from, code_octets, operation_place}
use Rattle.component.specs.Table.{numbers, table_with, id_of, code_of}
use Rattle.component.specs.Types.{format_of, typed, id_fits}
use Rattle.operation.specs.Row.{key, number_of, members, some_of, among, on_line, asks, named, repeats, allows}
use Rattle.operation.specs.Rows.{fixed, sizes_in, sizes, operations}
use Rattle.operation.specs.Items.{item_of}
use Rattle.operation.specs.Judge.{occurs, last_mark, once, sized, met, present, doubled, single, judge, count_named}
use Rattle.operation.specs.Finding.{find, rowed, row_of}
use Rattle.operation.specs.Codes.{operation_of, told_code}
use Rattle.operation.specs.Reading.{operation_in, count_other, shown_of, reading_from}
use Rattle.package.specs.Types.{id_size, package_type}
use Rattle.package.specs.Carriage.{lines, others, line_of, column, carrier}
use Rattle.package.specs.Layout.{sequence_at, ids_at, opening, components_from, all_from}
use Rattle.package.specs.Reading.{read_each, carries, carried_in, few, sequence_reading, package_reading, tables_with, tables_after}
use Rattle.package.specs.Told.{told}
use Rattle.package.specs.Charts.{reads, expected, parts, worked}

pub charts : map reads worked ≡ map expected worked
unfolding length_at numbered identifier_at span_of contents wanted set_at format_of typed id_fits coded_at code_at behind_id body_at head_from parameter parameter_at parameters layout_behind layout_from code_octets operation_place numbers table_with id_of code_of operation_of told_code operation_in rowed key number_of members some_of among on_line asks named repeats allows fixed sizes_in sizes occurs last_mark once sized met present doubled single judge count_named operations find row_of item_of count_other shown_of reading_from id_size package_type lines others line_of column carrier sequence_at ids_at opening components_from all_from read_each carries carried_in few sequence_reading package_reading tables_with tables_after told parts
charts = refl
