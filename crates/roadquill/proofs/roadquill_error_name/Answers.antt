-- `roadquill::roadquill_error_name` meets its contract: what `put_name` says is packed, and a name has at most 239 octets.
use borrow.Author.Rules.{rules}
use mathlib.Core.Path.{ap, ◌∙◌}
use native.Mathlib.Omega.{arith}
use Rattle.errors.proofs.Putting.{short}
use Rattle.operation.specs.Packed.{packed_writing}
use Rattle.roadquill.proofs.Small.{small}
use Rattle.roadquill.proofs.roadquill_error_name.Goals as goal

pub packed_writing-requires : goal.packed_writing-requires
packed_writing-requires c = small c.put_name.result c.put_name.ensures.0 (λ _ e. omega (arith, short _ (search rules) e))

pub returns : goal.returns
returns c = let p = c.put_name.ensures in (c.packed_writing.ensures ∙ ap packed_writing p.0, p.1)
