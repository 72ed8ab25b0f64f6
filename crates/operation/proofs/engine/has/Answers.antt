-- `operation::has` meets its contract: the bit of the key in its word, and beyond the words none.
use mathlib.Core.Path.{sym}
use Rattle.operation.proofs.Sets.{beyond, within}
use Rattle.operation.proofs.engine.has.Goals as goal

pub returns-then-word-set : goal.returns-then-word-set
returns-then-word-set c = within c.args.set.now c.args.key

pub returns : goal.returns
returns c = sym (beyond c.args.set.now c.args.key c.if-word-set.false)
