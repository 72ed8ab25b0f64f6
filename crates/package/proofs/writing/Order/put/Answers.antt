-- `package::Order::put` meets its contract.
use borrow.Author.Rules.{rules}
use native.Mathlib.Omega.{arith}
use Rattle.component.proofs.Putting.{then}
use Rattle.package.proofs.Fronting.{part}
use Rattle.package.proofs.Laying.{short, packages}
use Rattle.package.proofs.writing.Order.put.Goals as goal

pub put_ids-requires : goal.put_ids-requires
put_ids-requires c = let few = short c.args.self.now in search rules

pub put_components-requires : goal.put_components-requires
put_components-requires c = let p = c.requires in (p.4, (_, p.0, search rules))

pub returns : goal.returns
returns c =
    packages _ _ _ _ _ _ c.requires.0 (omega (arith, short c.args.self.now)) c.requires.1
    (then (then c.put_head-at.ensures (part c.put_ids.ensures.1) (search rules)) (part c.put_head.ensures) (search rules))
    c.put_components.ensures
