-- `operation::missized` meets its contract: the key's bit in the word of its size, and beyond the word no key has a size.
use Rattle.operation.specs.inner.Coded.{bit}
use Rattle.operation.proofs.Missizing.{beyond}
use Rattle.operation.proofs.sizes.missized.Goals as goal

pub returns-then-key-lt64 : goal.returns-then-key-lt64
unfolding bit
returns-then-key-lt64 c = c.others.ensures c.args.key c.if-key-lt64.true

pub returns : goal.returns
returns c = beyond c.args.size c.if-key-lt64.false
