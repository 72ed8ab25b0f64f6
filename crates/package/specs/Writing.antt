-- What the package writer answers.
use Rattle.std.specs.Prelude.{ℕ, ◌+◌, ◌/◌, ◌%◌, ◌&&◌, length, drop, leb, eqb}
use mathlib.Core.List.{List, [], ◌∷◌, ◌++◌, flatten}
use Rattle.element.specs.Octets.{Octets, if}
use Rattle.element.specs.Answer.{Answer, accepted, ◌>>=◌, ◌>>◌, check}
use Rattle.component.specs.declared.Code as E
use Rattle.component.specs.Table.{table_size}
use Rattle.component.specs.Composed.{element}
use Rattle.operation.specs.Caller as O
use Rattle.operation.specs.Model.{written_as}
use Rattle.package.specs.Types.{package_type, id_size}
use Rattle.package.specs.Reading.{carries, few, tables_size}
use Rattle.package.specs.Caller.{Part, Order}

-- a RESULT is judged by its specifier of the eight, and its code is not looked at
unfoldable pub code_for : (kind : ℕ) (code : E.Code) (given : ℕ) → E.Code
code_for kind code given = record { first = if (eqb kind 0xEA) given code.first; second = code.second }

-- what the component writer is ordered, where the component's entries are the first of the table
abbrev pub order_of : Part → (given : ℕ) (table : List ℕ) (source : Octets) → O.Order
order_of c given table source =
    O.order c.kind c.id (code_for c.kind c.code given) c.count table source

-- each component as the component writer writes it into 4,096 octets: there 17 does not arise
unfoldable pub write_each : List Part → (specifiers : ℕ) (table : List ℕ) (source : Octets) → Answer (List Octets)
write_each [] specifiers table source = accepted []
write_each (c ∷ cs) specifiers table source = do
  o ← written_as (order_of c (specifiers % 256) table source) 4096
  os ← write_each cs (specifiers / 256) (drop table_size table) source
  accepted (o ∷ os)

-- 24 at the first component that this package does not carry; the first of these is component `i`
unfoldable pub carried_as : (packet i : ℕ) → List Part → (specifiers : ℕ) → Answer Unit
carried_as packet i [] specifiers = accepted tt
carried_as packet i (c ∷ cs) specifiers = do
  check (carries packet c.kind c.code.first (specifiers % 256)) 24 i
  carried_as packet (i + 1) cs (specifiers / 256)

-- the octets of a package, each length at its shortest
unfoldable pub package_octets : (kind : ℕ) (ids : Octets) → List Octets → Octets
package_octets kind ids os =
    element (kind ∷ []) (element (0xC7 ∷ []) ids ++ element (0xE8 ∷ []) (flatten os))

-- where the package is not over 4,096 octets and the output has room for it
unfoldable pub laid_down : (kind : ℕ) (ids : Octets) → List Octets → (room : ℕ) → Answer Octets
laid_down kind ids os room = do
  check (leb (length (package_octets kind ids os)) 4096) 15 (length (package_octets kind ids os))
  check (leb (length (package_octets kind ids os)) room) 17 (length (package_octets kind ids os))
  accepted (package_octets kind ids os)

unfoldable pub package_writing : Order → (room : ℕ) → Answer Octets
package_writing o room = do
  check (leb tables_size (length o.table)) 1 0
  check (package_type o.kind && eqb (length o.ids) (id_size o.kind)) 22 0
  check (few (length o.components)) 23 0
  os ← write_each o.components o.specifiers o.table o.source
  carried_as o.kind 0 o.components o.specifiers
  laid_down o.kind o.ids os room
