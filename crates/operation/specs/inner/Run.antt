-- The run of parameters that entries are.
use Rattle.std.specs.Prelude.{List}
use Rattle.operation.specs.Row.{Item}
use Rattle.operation.specs.declared.table.Entries.{Entries}
use Rattle.operation.specs.inner.Coded.{items_from}

abbrev pub run : Entries → List Item
run entries = items_from entries.table.now 0 entries.count
