-- The listing of packages: the lines of a package and of its components, and what is listed.
use Rattle.std.specs.Prelude.{ℕ, ◌+◌, ◌*◌, List, [], ◌∷◌, ◌++◌, length, replicate}
use Rattle.element.specs.Octets.{Octets}
use Rattle.element.specs.Answer.{Answer, accepted, refused}
use Rattle.operation.specs.Packed.{octets}
use Rattle.package.specs.Caller.{Inside, Parcel}
use Rattle.package.specs.Reading.{tables_size, package_reading, tables_after}
use Rattle.package.specs.Told.{told}
use Rattle.lines.specs.Line.{blank, row, longest, line_of}
use Rattle.lines.specs.Listing.{Subject}

-- of a component, behind one blank, the listing's line with its place for the item
unfoldable pub inside_line : Inside → Octets
inside_line c = blank ∷ line_of c.place (accepted c.told)

unfoldable pub inside_lines : List Inside → Octets
inside_lines [] = []
inside_lines (c ∷ cs) = inside_line c ++ inside_lines cs

-- type and count of components stand where a component's line has its counts, and are 0 on refusal; behind an accepted
-- package come its components
unfoldable pub package_lines : (item : ℕ) → Answer Parcel → Octets
package_lines item (accepted p) = row item 0 0 p.kind (length p.components) ++ inside_lines p.components
package_lines item (refused number detail) = row item number detail 0 0

-- eight specifiers as one number, each the kept one
unfoldable pub eight_of : (specifier : ℕ) → ℕ
eight_of specifier = octets (replicate 8 specifier)

-- `item answer detail type components`
abbrev pub packages_header : Octets
packages_header =
    0x69 ∷ 0x74 ∷ 0x65 ∷ 0x6D ∷ 0x20 ∷ 0x61 ∷ 0x6E ∷ 0x73 ∷ 0x77 ∷ 0x65 ∷ 0x72 ∷ 0x20
    ∷ 0x64 ∷ 0x65 ∷ 0x74 ∷ 0x61 ∷ 0x69 ∷ 0x6C ∷ 0x20 ∷ 0x74 ∷ 0x79 ∷ 0x70 ∷ 0x65 ∷ 0x20
    ∷ 0x63 ∷ 0x6F ∷ 0x6D ∷ 0x70 ∷ 0x6F ∷ 0x6E ∷ 0x65 ∷ 0x6E ∷ 0x74 ∷ 0x73 ∷ 0x0A ∷ []

-- packages have tag 5, and a line of their own and one for each of at most eight components
abbrev pub packages : Subject
packages =
    record {
      tag = 5;
      header = packages_header;
      room = tables_size;
      longest = longest + 8 * (1 + longest);
      lines = λ item specifier room s. package_lines item (told (package_reading s (eight_of specifier) room));
      left = λ specifier s table. tables_after table (package_reading s (eight_of specifier) (length table));
    }
