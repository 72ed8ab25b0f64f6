-- `operation::judge` meets its contract: where the walk stopped, what names the fault there judges the row too.
use Rattle.operation.proofs.Verdicts.{faulty}
use Rattle.operation.proofs.engine.judge.Goals as goal

pub returns-in-Err : goal.returns-in-Err
returns-in-Err g c = record { judged = λ row _ names. faulty row _ (c.in-Err.ensures row names) (c.fault.ensures.judged row names) }
