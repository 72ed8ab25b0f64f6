-- `roadquill::roadquill_write` meets its contract: what `write` says is packed, and the octets that it counts are at most 4,096.
use mathlib.Core.Path.{ap, ◌∙◌}
use lib.ListN.{length}
use Rattle.operation.proofs.Counts as counts
use Rattle.operation.specs.Packed.{packed_writing}
use Rattle.roadquill.specs.Id.{id_from, code_from}
use Rattle.roadquill.proofs.Small.{small}
use Rattle.roadquill.proofs.roadquill_write.Goals as goal

pub packed_writing-requires : goal.packed_writing-requires
packed_writing-requires c =
    let a = c.args in
    small c.write.result c.write.ensures.0
    (λ _ e. counts.written_short a.kind (id_from a.count a.first a.second) (code_from a.code a.problem) a.entries a.table.now a.source.now (length a.output.now) e)

pub returns : goal.returns
returns c = (c.packed_writing.ensures ∙ ap packed_writing c.write.ensures.0, c.write.ensures.1)
