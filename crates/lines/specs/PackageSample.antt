-- A package of one component, and one that Table 2 does not let carry it, computed.
use Rattle.std.specs.Prelude.{◌≡◌, [], ◌∷◌, ◌++◌, refl}
use Rattle.element.specs.Octets.{Octets}
use Rattle.element.specs.Decoded.{length_at, numbered, identifier_at}
use Rattle.component.specs.Layout.{span_of, contents, wanted, set_at, coded_at, code_at, behind_id, body_at, head_from}
use Rattle.component.specs.Layout.{parameter, parameter_at, parameters, layout_behind, layout_from, code_octets}
use Rattle.component.specs.Layout.{operation_place}
use Rattle.component.specs.Types.{format_of, typed, id_fits}
use Rattle.operation.specs.Row.{key, number_of, members, some_of, among, on_line, asks, named, repeats, allows}
use Rattle.operation.specs.Judge.{occurs, last_mark, once, sized, met, present, doubled, single, judge, count_named}
use Rattle.operation.specs.Rows.{fixed, sizes_in, sizes, operations}
use Rattle.operation.specs.Finding.{find, rowed, row_of}
use Rattle.operation.specs.Items.{item_of}
use Rattle.operation.specs.Reading.{operation_in, count_other, shown_of, reading_from}
use Rattle.operation.specs.Codes.{operation_of, told_code}
use Rattle.operation.specs.Packed.{octets}
use Rattle.package.specs.Types.{package_type, id_size}
use Rattle.package.specs.Layout.{sequence_at, ids_at, opening, components_from, all_from}
use Rattle.package.specs.Carriage.{lines, others, line_of, column, carrier}
use Rattle.package.specs.Reading.{read_each, carries, carried_in, few, sequence_reading, package_reading}
use Rattle.package.specs.Told.{told}
use Rattle.lines.specs.Header.{field_at}
use Rattle.lines.specs.Decimal.{digits, decimal}
use Rattle.lines.specs.Line as L
use Rattle.lines.specs.Listing.{after, lines_for, listing, fills, whole, input_from, input_of, printed}
use Rattle.lines.specs.Packages.{inside_line, inside_lines, package_lines, eight_of, packages_header, packages}

-- chart A
abbrev chart : Octets
chart =
    0xE9 ∷ 0x1E ∷ 0xCF ∷ 0x01 ∷ 0x05 ∷ 0xD1 ∷ 0x02 ∷ 0x09 ∷ 0x04 ∷ 0xF2 ∷ 0x15 ∷ 0x85 ∷ 0x00 ∷ 0x86 ∷ 0x02 ∷ 0x01
    ∷ 0x07 ∷ 0x88 ∷ 0x05 ∷ 0x21 ∷ 0x43 ∷ 0x65 ∷ 0x87 ∷ 0x09 ∷ 0x82 ∷ 0x02 ∷ 0x00 ∷ 0x11 ∷ 0x83 ∷ 0x02 ∷ 0x00 ∷ 0x12 ∷ []

-- in a QUERY WITH PERMISSION, and in a UNIDIRECTIONAL
abbrev input : Octets
input =
    (0x05 ∷ 0x00 ∷ 0x2A ∷ 0xE2 ∷ 0x28 ∷ 0xC7 ∷ 0x04 ∷ 0x00 ∷ 0x00 ∷ 0x00 ∷ 0x01 ∷ 0xE8 ∷ 0x20 ∷ chart)
    ++ 0x05 ∷ 0x00 ∷ 0x26 ∷ 0xE1 ∷ 0x24 ∷ 0xC7 ∷ 0x00 ∷ 0xE8 ∷ 0x20 ∷ chart

-- `1 0 0 226 1` and ` 10 0 0 5 0`, and `2 24 6 0 0`
abbrev printed_lines : Octets
printed_lines =
    0x31 ∷ 0x20 ∷ 0x30 ∷ 0x20 ∷ 0x30 ∷ 0x20 ∷ 0x32 ∷ 0x32 ∷ 0x36 ∷ 0x20 ∷ 0x31 ∷ 0x0A
    ∷ 0x20 ∷ 0x31 ∷ 0x30 ∷ 0x20 ∷ 0x30 ∷ 0x20 ∷ 0x30 ∷ 0x20 ∷ 0x35 ∷ 0x20 ∷ 0x30 ∷ 0x0A
    ∷ 0x32 ∷ 0x20 ∷ 0x32 ∷ 0x34 ∷ 0x20 ∷ 0x36 ∷ 0x20 ∷ 0x30 ∷ 0x20 ∷ 0x30 ∷ 0x0A ∷ []

pub sample : printed packages input ≡ packages_header ++ printed_lines
unfolding length_at numbered identifier_at span_of contents wanted set_at format_of typed id_fits coded_at code_at
    behind_id body_at head_from parameter parameter_at parameters layout_behind layout_from code_octets
    operation_place key number_of members some_of among on_line asks named repeats allows fixed sizes_in sizes occurs
    last_mark once sized met present doubled single judge count_named operations find rowed row_of item_of
    operation_of told_code operation_in count_other shown_of reading_from octets package_type id_size sequence_at
    ids_at opening components_from all_from lines others line_of column carrier read_each carries carried_in few
    sequence_reading package_reading told field_at digits decimal L.cell L.row L.line_of inside_line inside_lines
    package_lines eight_of after lines_for listing fills whole input_from input_of printed
sample = refl
