-- `lines::rows::digits_before` meets its contract.
use Rattle.lines.proofs.Spelling.{Spelling}
use Rattle.lines.proofs.rows.digits_before.Given as goal

abbrev pub invariant-loop-rest : goal.invariant-loop-rest
invariant-loop-rest l = Spelling l.number l.at l.initial.text l.rest l.start l.text

abbrev pub decreases-loop-rest : goal.decreases-loop-rest
decreases-loop-rest l = l.rest
