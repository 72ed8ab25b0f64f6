-- `component::copy_ends` meets its contract.
use Prim.Native.Nat.{◌-◌}
use native.Mathlib.Omega.{arith}
use Rattle.component.proofs.Putting.{both_ends}
use Rattle.component.proofs.composing.copy_ends.Goals as goal

pub returns : goal.returns
returns c =
    let a = c.args in
    both_ends _ _ (a.size - a.width) a.width a.width a.size (omega arith) (omega arith) (omega arith) c.requires.0 c.requires.1
    c.copy_block.ensures c.copy_block-2.ensures
