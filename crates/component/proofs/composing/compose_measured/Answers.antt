-- `component::compose_measured` meets its contract.
use mathlib.Core.Path.{ap, ◌∙◌}
use native.Mathlib.Omega.{arith}
use Rattle.component.specs.Needed.{element_size, body_size}
use Rattle.component.proofs.Laid.{no_id, too_many, too_long, no_table, no_room, head_ready, all_laid}
use Rattle.component.proofs.composing.compose_measured.Goals as goal
use Rattle.component.proofs.composing.compose_measured.Goals.{then-id-gt2-via-then-id-gt2, then-id-gt2-via-else-id-gt2+then-count-gt64, then-id-gt2-via-else-id-gt2+else-count-gt64+then-set-gt4096, then-id-gt2-via-else-id-gt2+else-count-gt64+else-set-gt4096+then-table-count}

pub returns-then-id-gt2 : goal.returns-then-id-gt2
returns-then-id-gt2 c =
    elim c.then-id-gt2.branch [ then-id-gt2-via-then-id-gt2 w ↦ no_id _ _ _ _ _ _ _ _ w.if-id-gt2.true | then-id-gt2-via-else-id-gt2+then-count-gt64 w ↦ too_many _ _ _ _ _ _ _ _ w.if-id-gt2.false w.if-count-gt64.true | then-id-gt2-via-else-id-gt2+else-count-gt64+then-set-gt4096 w ↦ too_long _ _ _ _ _ _ _ _ w.if-id-gt2.false w.if-count-gt64.false w.if-set-gt4096.true | then-id-gt2-via-else-id-gt2+else-count-gt64+else-set-gt4096+then-table-count w ↦ no_table _ _ _ _ _ _ _ _ w.if-id-gt2.false w.if-count-gt64.false w.if-set-gt4096.false w.if-table-count.true ]

pub returns-then-out-element_size : goal.returns-then-out-element_size
returns-then-out-element_size c =
    let bodied = c.body_size-body.ensures.0 ∙ ap (body_size _ _) c.from-set.ensures in
    let whole = c.element_size.ensures.0 ∙ ap (element_size 1) bodied in
    no_room _ _ _ _ _ _ _ _ c.if-id-gt2.false c.if-count-gt64.false c.if-set-gt4096.false c.if-table-count.false (omega (arith, c.if-out-element_size.true, whole))

pub put_head-parameters-requires : goal.put_head-parameters-requires
put_head-parameters-requires c =
    let a = c.args in
    let bodied = c.body_size-body.ensures.0 ∙ ap (body_size _ _) c.from-set.ensures in
    let whole = c.element_size.ensures.0 ∙ ap (element_size 1) bodied in
    rw (bodied, c.from-set.ensures)
    (head_ready a.kind a.id a.code a.count a.table.now a.source.now a.set a.out.now
    c.if-id-gt2.false c.if-count-gt64.false c.if-set-gt4096.false c.if-table-count.false (omega (arith, c.if-out-element_size.false, whole)))

pub put_fitting-requires : goal.put_fitting-requires
put_fitting-requires c =
    let a = c.args in
    let bodied = c.body_size-body.ensures.0 ∙ ap (body_size _ _) c.from-set.ensures in
    let whole = c.element_size.ensures.0 ∙ ap (element_size 1) bodied in
    let ready =
    head_ready a.kind a.id a.code a.count a.table.now a.source.now a.set a.out.now
    c.if-id-gt2.false c.if-count-gt64.false c.if-set-gt4096.false c.if-table-count.false (omega (arith, c.if-out-element_size.false, whole)) in
    let put = rw (bodied, c.from-set.ensures) at c.put_head-parameters.ensures in
    (c.if-count-gt64.false, c.if-table-count.false, omega (arith, put.place, ready.3, c.put_head-parameters.auto.out))

pub returns : goal.returns
returns c =
    let a = c.args in
    let bodied = c.body_size-body.ensures.0 ∙ ap (body_size _ _) c.from-set.ensures in
    let whole = c.element_size.ensures.0 ∙ ap (element_size 1) bodied in
    let put = rw (bodied, c.from-set.ensures) at c.put_head-parameters.ensures in
    all_laid a.kind a.id a.code a.count a.table.now a.source.now a.set a.out.now c.if-id-gt2.false c.if-count-gt64.false c.if-set-gt4096.false c.if-table-count.false
    (omega (arith, c.if-out-element_size.false, whole))
    put c.put_head-parameters.auto.out c.put_fitting.ensures
