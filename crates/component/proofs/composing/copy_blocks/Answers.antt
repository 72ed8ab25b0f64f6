-- `component::copy_blocks` meets its contract.
use Prim.Native.Nat.{◌+◌, ◌-◌}
use mathlib.Core.Path.{refl, sym}
use borrow.Author.Rules.{rules}
use native.Mathlib.Omega.{arith}
use Rattle.element.proofs.FieldLaws.{put_none}
use Rattle.component.proofs.Putting.{so_far, further, both_ends}
use Rattle.component.proofs.composing.copy_blocks.Goals as goal

pub blocks-2-init : goal.blocks-2-init
blocks-2-init c = (search rules, search rules, sym (put_none _ _))

pub blocks-2-preserved : goal.blocks-2-preserved
blocks-2-preserved c =
    let a = c.args in
    let i = c.blocks-2.i in (
      search rules,
      omega arith,
      (further a.source.now a.start i 32 (i + 32) refl (so_far a.source.now a.start i (omega arith) c.blocks-2.invariant.2) c.copy_block.ensures (omega arith)).octets,
    )

pub returns : goal.returns
returns c =
    let a = c.args in
    let i = c.blocks-2.i in
    both_ends a.source.now a.start (a.size - 32) i 32 a.size (omega arith) (omega arith) (omega arith) (omega arith) (omega arith)
    (so_far a.source.now a.start i (omega arith) c.blocks-2.invariant.2) c.copy_block-2.ensures
