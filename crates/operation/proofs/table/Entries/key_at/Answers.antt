-- `operation::Entries::key_at` meets its contract, by what the conversions ensure of the two numbers.
use Rattle.std.proofs.Common.{rules}
use Rattle.operation.specs.Row.{key}
use Rattle.operation.specs.inner.Coded.{item_at}
use Rattle.operation.proofs.table.Entries.key_at.Goals as goal

pub returns : goal.returns
unfolding item_at key
returns c = search rules
