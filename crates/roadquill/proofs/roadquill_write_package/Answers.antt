-- `roadquill::roadquill_write_package` meets its contract: what `write` says is packed, and the octets that it counts are at
-- most 4,096.
use mathlib.Core.Path.{sym, ap, ◌∙◌}
use mathlib.Core.List.{map}
use lib.ListN.{length}
use Rattle.operation.specs.Packed.{packed_writing}
use Rattle.package.specs.Caller.{order}
use Rattle.package.specs.Told.{part_in}
use Rattle.package.proofs.Packing.{written_short}
use Rattle.roadquill.proofs.Small.{small}
use Rattle.roadquill.proofs.roadquill_write_package.Goals as goal

pub packed_writing-requires : goal.packed_writing-requires
packed_writing-requires c =
    let a = c.args in
    small c.write.result c.write.ensures.0
    (λ _ e. written_short (order a.kind a.ids.now (map part_in a.components.now) a.specifiers a.table.now a.source.now) (length a.output.now) (sym e))

pub returns : goal.returns
returns c = let w = c.write.ensures in (c.packed_writing.ensures ∙ ap packed_writing w.0, w.1)
