-- `operation::parameters_from` meets its contract: each way out is one of the laws of `Walking`.
use mathlib.Core.Path.{sym, ◌∙◌}
use native.Mathlib.Omega.{arith}
use borrow.Author.Rules.{rules}
use Rattle.operation.proofs.Walking.{begins, ends, full, stops, goes_on}
use Rattle.operation.proofs.sheet.parameters_from.Goals as goal

pub parameters-init : goal.parameters-init
parameters-init c = (search rules, search rules, search rules, begins _ _ _)

pub parameters-preserved : goal.parameters-preserved
parameters-preserved c =
    let l = c.parameters in
    (omega (arith, c.in-Ok.ensures.inside), omega arith, c.show.auto.sheet ∙ l.invariant.2, goes_on _ _ _ l.invariant.3 c.if-octets-at.false (omega arith) (omega arith) (sym c.in-Ok.ensures.answer) (omega arith) c.show.ensures)

pub returns-then-octets-at : goal.returns-then-octets-at
returns-then-octets-at c = ends _ _ _ c.parameters.invariant.3 c.if-octets-at.true

pub returns-then-count-ge-MOST : goal.returns-then-count-ge-MOST
returns-then-count-ge-MOST c = rw c.at.ensures (full _ _ _ c.parameters.invariant.3 c.if-octets-at.false (omega arith))

pub returns-in-Err : goal.returns-in-Err
returns-in-Err c =
    let l = c.parameters in
    rw c.at-in-Err.ensures (stops _ _ _ l.invariant.3 c.if-octets-at.false (omega arith) (search rules) (sym c.in-Err.ensures.answer))
