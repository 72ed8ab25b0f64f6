-- `lines::component_lines::ComponentsSubject::write_item` meets its contract.
use Rattle.lines.proofs.Stepping.{line_short}
use Rattle.lines.proofs.component_lines.ComponentsSubject.write_item.Goals as goal

pub returns-clause-short : goal.returns-clause-short
returns-clause-short c = line_short _ _
