-- `component::put_parameters` meets its contract.
use Prim.Native.Nat.{◌+◌, ◌≤◌}
use mathlib.Core.Path.{refl, sym, subst}
use lib.ListN.{length}
use native.Mathlib.Omega.{arith}
use Rattle.component.specs.Table.{EntryStands}
use Rattle.component.specs.inner.Emitting.{Put, octets_at}
use Rattle.component.proofs.Entries.{stands}
use Rattle.component.proofs.Emission.{rest_all, rest_none, room_for, more_put}
use Rattle.component.proofs.Putting.{begins, ends}
use Rattle.component.proofs.composing.put_parameters.Goals as goal

pub loop-i-init : goal.loop-i-init
loop-i-init c = (refl, rw (← rest_all _ _ _) begins)

pub put_parameter-next-requires : goal.put_parameter-next-requires
put_parameter-next-requires c =
    let a = c.args in
    let held = sym c.held.ensures.held in (
      subst (EntryStands a.source.now) held (stands (c.requires.2 _ c.loop-i-test.true)),
      c.held.ensures.small.1,
      subst (λ e. c.loop-i.next + length (octets_at a.source.now e) ≤ length c.loop-i.out) held
          (omega (arith, c.loop-i.invariant.0, room_for _ _ _ _ c.loop-i-test.true refl refl c.loop-i.invariant.1 c.requires.3)),
    )

pub loop-i-preserved : goal.loop-i-preserved
loop-i-preserved c =
    let left = c.loop-i.invariant.1 in
    let put = c.put_parameter-next in (
      omega arith,
      more_put _ _ _ _ c.loop-i-test.true refl refl left
          (subst (λ e. Put (octets_at c.args.source.now e) c.loop-i.next c.loop-i.out put.result put.new.out) c.held.ensures.held put.ensures)
          (omega (arith, c.loop-i.invariant.0, left.place, c.requires.3)),
    )

pub returns : goal.returns
returns c = ends (rw (rest_none _ _ _ _ c.loop-i-test.false) at c.loop-i.invariant.1)
