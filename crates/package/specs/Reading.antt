-- What the package reader answers, and what it leaves in the lent table.
use Rattle.std.specs.Prelude.{ℕ, ◌*◌, ◌/◌, ◌%◌, Bool, ◌&&◌, List, [], ◌∷◌, ◌++◌, length, get_or, take, drop}
use Rattle.std.specs.Prelude.{ltb, leb, eqb}
use Rattle.element.specs.Octets.{Octets}
use Rattle.element.specs.Answer.{Answer, accepted, refused, ◌>>=◌, ◌>>◌, check}
use Rattle.component.specs.Layout.{Span}
use Rattle.component.specs.Table.{table_size, table_with}
use Rattle.operation.specs.Codes.{operation_of}
use Rattle.operation.specs.Reading.{Shown, reading_from}
use Rattle.package.specs.Carriage.{carrier}
use Rattle.package.specs.Layout.{Opening, opening, all_from}

-- a component, and its place
pub record Placed : Type 0 where
  pub place : ℕ
  pub shown : Shown

-- each component up to its own end, by its own specifier of those handed in: the first is the lowest octet
unfoldable pub read_each : Octets → List Span → (specifiers : ℕ) → Answer (List Placed)
read_each s [] specifiers = accepted []
read_each s (x ∷ xs) specifiers = do
  y ← reading_from (take x.end s) x.start (specifiers % 256)
  ys ← read_each s xs (specifiers / 256)
  accepted (record { place = x.start; shown = y } ∷ ys)

-- Table 2 asks an INVOKE by its own code, and the others by the specifier that is handed in
unfoldable pub carries : (packet kind code given : ℕ) → Bool
carries packet kind code given = eqb (carrier kind (operation_of kind code given)) packet

-- 24 at the first component that this package does not carry
unfoldable pub carried_in : (packet : ℕ) → List Placed → (specifiers : ℕ) → Answer Unit
carried_in packet [] specifiers = accepted tt
carried_in packet (y ∷ ys) specifiers = do
  check (carries packet y.shown.kind (get_or y.shown.code 0 0) (specifiers % 256)) 24 y.place
  carried_in packet ys (specifiers / 256)

pub record Packet : Type 0 where
  pub kind : ℕ
  pub ids : Span
  pub components : List Placed

-- one to eight
unfoldable pub few : ℕ → Bool
few count = leb 1 count && leb count 8

-- the numbers of a table for as many components
abbrev pub tables_size : ℕ
tables_size = 8 * table_size

-- behind the opening: 22 of the walk over the sequence, 23, the components in order, and 24
unfoldable pub sequence_reading : Octets → (specifiers : ℕ) → Opening → Answer Packet
sequence_reading s specifiers o = do
  xs ← all_from s o.first
  check (few (length xs)) 23 o.sequence
  ys ← read_each s xs specifiers
  carried_in (get_or s 0 0) ys specifiers
  accepted (record { kind = get_or s 0 0; ids = o.ids; components = ys })

unfoldable pub package_reading : Octets → (specifiers room : ℕ) → Answer Packet
package_reading s specifiers room = do
  check (leb tables_size room) 1 0
  check (ltb 0 (length s)) 2 0
  check (leb (length s) 4096) 2 0
  o ← opening s
  sequence_reading s specifiers o

-- the same where lists for places and summaries are lent too, each for eight
unfoldable pub reading_into : Octets → (specifiers room places summaries : ℕ) → Answer Packet
reading_into s specifiers room places summaries = do
  check (leb 8 places && leb 8 summaries) 1 0
  package_reading s specifiers room

-- ---- the lent table: 320 numbers for each component in order, and those that are not filled stay
unfoldable pub tables_with : List Placed → List ℕ → List ℕ
tables_with [] t = t
tables_with (y ∷ ys) t = table_with y.shown.entries (take table_size t) ++ tables_with ys (drop table_size t)

unfoldable pub tables_after : List ℕ → Answer Packet → List ℕ
tables_after t (accepted p) = tables_with p.components t
tables_after t (refused n d) = t
