-- `operation::judge_sheet` meets its contract: an ERROR and a REJECT have no row.
use mathlib.Core.Logic.{⊎_elim}
use native.Mathlib.Omega.{arith}
use Rattle.operation.proofs.Verdicts.{no_kind}
use Rattle.operation.proofs.rows.judge_sheet.Goals as goal

pub returns-in-Error : goal.returns-in-Error
returns-in-Error c =
    ⊎_elim (λ e. rw e (no_kind _ _ ((tt, λ e. omega arith), λ e. omega arith)))
    (λ e. rw e (no_kind _ _ ((tt, λ e. omega arith), λ e. omega arith))) c.in-Error.is
