-- `package::ordered` meets its contract.
use Rattle.package.proofs.Weighing.{result_handed, handed}
use Rattle.package.proofs.writing.ordered.Goals as goal

pub returns-then-outline : goal.returns-then-outline
returns-then-outline c = result_handed _ _ c.outline_of-outline.ensures c.if-outline.true

pub returns-else-outline : goal.returns-else-outline
returns-else-outline c = handed _ _ c.outline_of-outline.ensures c.if-outline.false
