-- `component::copy_block` meets its contract.
use borrow.Author.Rules.{rules}
use Rattle.component.proofs.Putting.{part_length, through}
use Rattle.component.proofs.composing.copy_block.Goals as goal

pub returns : goal.returns
returns c = through _ _ (part_length _ _ _ c.requires.0) (search rules) c.copy_each.ensures c.copy_each-2.ensures
