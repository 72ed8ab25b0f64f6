-- `operation::Entries::size_at` meets its contract: the number is the size of the item.
use Rattle.std.proofs.Common.{refl}
use Rattle.operation.specs.inner.Coded.{item_at}
use Rattle.operation.proofs.table.Entries.size_at.Goals as goal

pub returns : goal.returns
unfolding item_at
returns c = refl
