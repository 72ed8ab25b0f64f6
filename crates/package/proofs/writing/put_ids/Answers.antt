-- `package::put_ids` meets its contract.
use mathlib.Core.Path.{◌≡◌, refl}
use lib.ListN.{length, length-set}
use borrow.Author.Rules.{rules}
use native.Mathlib.Omega.{arith}
use native.Mathlib.Nat.{zero-add}
use Rattle.component.proofs.Putting.{none_copied, more_copied}
use Rattle.package.proofs.Fronting.{short_copied}
use Rattle.package.proofs.writing.put_ids.Goals as goal

pub loop-i-init : goal.loop-i-init
loop-i-init c = (simp length-set (omega arith), none_copied _ _ _ _)

pub loop-i-preserved : goal.loop-i-preserved
loop-i-preserved c =
    let v = c.loop-i.invariant in
    (rw length-set v.0, rw zero-add at (more_copied _ 0 2 _ _ (omega arith) (omega arith) v.1))

pub returns : goal.returns
returns c = let e : c.loop-i.i ≡ length c.args.ids.now = omega arith in (refl, short_copied 0xC7 _ c.requires (rw e at c.loop-i.invariant.1))
