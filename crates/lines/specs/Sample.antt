-- The paper's own listing, and inputs that are cut, computed.
use Rattle.std.specs.Prelude.{◌≡◌, [], ◌∷◌, ◌++◌, refl}
use Rattle.element.specs.Octets.{Octets}
use Rattle.element.specs.Decoded.{length_at, numbered, identifier_at}
use Rattle.component.specs.Layout.{span_of, contents, wanted, set_at, coded_at, code_at, behind_id, body_at}
use Rattle.component.specs.Layout.{head_from, head_at}
use Rattle.component.specs.Layout.{parameter, parameter_at, parameters, layout_behind, layout_at, code_octets}
use Rattle.component.specs.Layout.{operation_place}
use Rattle.component.specs.Types.{format_of, typed, id_fits}
use Rattle.operation.specs.Row.{key, number_of, members, some_of, among, on_line, asks, named, repeats, allows}
use Rattle.operation.specs.Judge.{occurs, last_mark, once, sized, met, present, doubled, single, judge, count_named}
use Rattle.operation.specs.Rows.{fixed, sizes_in, sizes, operations}
use Rattle.operation.specs.Finding.{find, rowed, row_of}
use Rattle.operation.specs.Items.{item_of}
use Rattle.operation.specs.Reading.{operation_in, count_other, shown_of, reading_at}
use Rattle.operation.specs.Codes.{operation_of, told_code}
use Rattle.operation.specs.Told.{told}
use Rattle.lines.specs.Header.{field_at}
use Rattle.lines.specs.Decimal.{digits, decimal}
use Rattle.lines.specs.Line.{cell, row, line_of}
use Rattle.lines.specs.Listing.{components, after, lines_for, listing, fills, whole, input_from, input_of, printed}
use Rattle.lines.specs.Listing.{header_line, cut_line}

abbrev input : Octets
input =
    0x02 ∷ 0x00 ∷ 0x01 ∷ 0x04
    ∷ 0x01 ∷ 0x00 ∷ 0x09 ∷ 0xEA ∷ 0x07 ∷ 0xCF ∷ 0x01 ∷ 0x05 ∷ 0xF2 ∷ 0x02 ∷ 0x85 ∷ 0x00
    ∷ 0x01 ∷ 0x00 ∷ 0x02 ∷ 0xE9 ∷ 0x00 ∷ []

-- `1 0 0 1 0` and `2 25 2 0 0`
abbrev lines : Octets
lines =
    0x31 ∷ 0x20 ∷ 0x30 ∷ 0x20 ∷ 0x30 ∷ 0x20 ∷ 0x31 ∷ 0x20 ∷ 0x30 ∷ 0x0A
    ∷ 0x32 ∷ 0x20 ∷ 0x32 ∷ 0x35 ∷ 0x20 ∷ 0x32 ∷ 0x20 ∷ 0x30 ∷ 0x20 ∷ 0x30 ∷ 0x0A ∷ []

pub sample : printed components input ≡ header_line ++ lines
unfolding length_at numbered identifier_at span_of contents wanted set_at format_of typed id_fits coded_at code_at
    behind_id body_at head_from head_at parameter parameter_at parameters layout_behind layout_at code_octets
    operation_place key number_of members some_of among on_line asks named repeats allows fixed sizes_in sizes occurs
    last_mark once sized met present doubled single judge count_named operations find rowed row_of item_of
    operation_of told_code operation_in count_other shown_of reading_at told field_at digits decimal cell row line_of
    after lines_for listing fills whole input_from input_of printed
sample = refl

-- no field; a header of two octets; a specifier field of two octets of which one is there
pub no_field : printed components [] ≡ header_line
unfolding listing input_from input_of printed
no_field = refl

pub header_cut : printed components (0x02 ∷ 0x00 ∷ []) ≡ header_line ++ cut_line
unfolding field_at listing fills whole input_from input_of printed
header_cut = refl

pub contents_cut : printed components (0x02 ∷ 0x00 ∷ 0x02 ∷ 0x04 ∷ []) ≡ header_line ++ cut_line
unfolding field_at listing fills whole input_from input_of printed
contents_cut = refl
