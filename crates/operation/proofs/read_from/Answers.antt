-- `operation::read_from` meets its contract: the head is found, the walk fills a sheet of its own, the engine judges it, and `finish` says what
-- comes of it.
use borrow.Author.Rules.{rules}
use mathlib.Core.Path.{◌∙◌}
use lib.ListN.{replicate}
use Rattle.component.specs.Table.{table_size}
use Rattle.operation.proofs.Reader as reader
use Rattle.operation.proofs.read_from.Goals as goal

pub returns-then-table-lt-TABLE : goal.returns-then-table-lt-TABLE
returns-then-table-lt-TABLE c = rw c.at.ensures (reader.too_short _ _ _ _ c.if-table-lt-TABLE.true)

pub invariant_of-entries : goal.invariant_of-entries
invariant_of-entries c =
    let a = c.args in
    let few =
    reader.few a.octets.now a.from a.specifier a.table.now (λ i. (c.shared_slice_known-1.given i).fits) c.if-table-lt-TABLE.false
    c.in-Ok.ensures.answer (replicate table_size 0) c.in-Ok-parameters_from.ensures in
    record { room = search rules; few = few }

pub finish-requires : goal.finish-requires
finish-requires c =
    let a = c.args in
    let (ordered, few, inside, coded, _) = c.in-Ok.ensures.inside in
    let most =
    reader.few a.octets.now a.from a.specifier a.table.now (λ i. (c.shared_slice_known-1.given i).fits) c.if-table-lt-TABLE.false
    c.in-Ok.ensures.answer (replicate table_size 0) c.in-Ok-parameters_from.ensures in
    let reached =
    reader.reached a.octets.now a.from a.specifier a.table.now (λ i. (c.shared_slice_known-1.given i).fits) c.if-table-lt-TABLE.false
    c.in-Ok.ensures.answer (replicate table_size 0) c.in-Ok-parameters_from.ensures c.judge_sheet-judged.result
    (rw c.operation_of-operation.ensures at c.judge_sheet-judged.ensures) in
    ((ordered, few, inside, coded, c.in-Ok.ensures.short), most, search rules, search rules, reached.0)

pub returns-in-Ok-parameters_from : goal.returns-in-Ok-parameters_from
returns-in-Ok-parameters_from c =
    let a = c.args in
    let (_, (answer, table)) =
    reader.reached a.octets.now a.from a.specifier a.table.now (λ i. (c.shared_slice_known-1.given i).fits) c.if-table-lt-TABLE.false
    c.in-Ok.ensures.answer (replicate table_size 0) c.in-Ok-parameters_from.ensures c.judge_sheet-judged.result
    (rw c.operation_of-operation.ensures at c.judge_sheet-judged.ensures) in
    (c.finish.ensures.0 ∙ answer, c.finish.ensures.1 ∙ table)

pub returns-in-Err-parameters_from : goal.returns-in-Err-parameters_from
returns-in-Err-parameters_from c =
    let a = c.args in
    rw c.at-in-Err-parameters_from.ensures
    (reader.stopped a.octets.now a.from a.specifier a.table.now (λ i. (c.shared_slice_known-1.given i).fits) c.if-table-lt-TABLE.false c.in-Ok.ensures.answer c.in-Err-parameters_from.ensures)

pub returns-in-Err : goal.returns-in-Err
returns-in-Err c =
    let a = c.args in
    rw c.at-in-Err.ensures (reader.headless a.octets.now a.from a.specifier a.table.now (λ i. (c.shared_slice_known-1.given i).fits) c.if-table-lt-TABLE.false c.in-Err.ensures.answer)
