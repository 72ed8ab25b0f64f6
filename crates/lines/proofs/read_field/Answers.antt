-- `lines::read_field` meets its contract.
use Rattle.std.proofs.Common.{rules, le-ltb}
use Rattle.lines.specs.Header.{field_at}
use Rattle.lines.proofs.read_field.Goals as goal

pub returns-in_default : goal.returns-in_default
unfolding field_at
returns-in_default c = search rules

pub returns-in-len3-up : goal.returns-in-len3-up
unfolding field_at
returns-in-len3-up c = simp (le-ltb _ _ c.in-len3-up.len_at_least, c.from.ensures, c.from_be_bytes.ensures)
