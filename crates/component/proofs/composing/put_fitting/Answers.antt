-- `component::put_fitting` meets its contract.
use Prim.Native.Nat.{◌+◌, ◌-◌, ◌<◌, ◌≤◌}
use mathlib.Core.Path.{◌≡◌, refl, sym, subst}
use lib.ListN.{length}
use native.Mathlib.Omega.{arith}
use Rattle.std.specs.Prelude.{Some, None}
use Rattle.component.specs.Table.{held, EntryStands}
use Rattle.component.specs.inner.Emitting.{Put, octets_at, size_in}
use Rattle.component.proofs.Room.{size_at, stands_with, stands_none, rest_all, rest_none, no_stand, no_room, room_for, more_put}
use Rattle.component.proofs.Putting.{begins, ends}
use Rattle.component.proofs.composing.put_fitting.Goals as goal

pub loop-i-init : goal.loop-i-init
loop-i-init c = (refl, omega arith, rw (← rest_all _ _ _ _) begins)

pub put_parameter-next-requires : goal.put_parameter-next-requires
put_parameter-next-requires c =
    let a = c.args in
    let l = c.loop-i in
    let is = c.held-entry.ensures.held in
    let (stands, size) = stands_with a.source.now _ (subst (λ e. Some c.in-Some.size ≡ size_in a.source.now e) is c.in-Some.ensures) in
    let short = subst (λ e. e.size < 65536) is c.held-entry.ensures.small.1 in (
      subst (EntryStands a.source.now) (sym is) stands,
      c.held-entry.ensures.small.1,
      subst (λ e. l.next + length (octets_at a.source.now e) ≤ length l.out) (sym is)
          (omega (
            arith,
            l.invariant.0,
            room_for a.count a.table.now a.source.now (length a.out.now) l.i l.next c.loop-i-test.true stands short
                (omega (arith, size, c.if-size-out.true, l.invariant.0)) l.invariant.1,
          )),
    )

pub loop-i-preserved : goal.loop-i-preserved
loop-i-preserved c =
    let a = c.args in
    let l = c.loop-i in
    let is = c.held-entry.ensures.held in
    let (stands, size) = stands_with a.source.now _ (subst (λ e. Some c.in-Some.size ≡ size_in a.source.now e) is c.in-Some.ensures) in
    let short = subst (λ e. e.size < 65536) is c.held-entry.ensures.small.1 in
    let fits : size_at (held a.table.now l.i) ≤ length a.out.now - l.next = omega (arith, size, c.if-size-out.true, l.invariant.0) in
    let put = c.put_parameter-next in
    let more = subst (λ e. Put (octets_at a.source.now e) l.next l.out put.result put.new.out) is put.ensures in
    let room = room_for a.count a.table.now a.source.now (length a.out.now) l.i l.next c.loop-i-test.true stands short fits l.invariant.1 in (
      omega (arith, put.auto.out, l.invariant.0),
      omega (arith, more.place, room),
      more_put a.count a.table.now a.source.now (length a.out.now) l.i l.next c.loop-i-test.true stands short fits l.invariant.2 more
          (omega (arith, l.invariant.0, l.invariant.1)),
    )

pub returns-in_default : goal.returns-in_default
returns-in_default c =
    let a = c.args in
    let l = c.loop-i in
    let (_, size) = stands_with a.source.now _ (subst (λ e. Some c.in-Some.size ≡ size_in a.source.now e) c.held-entry.ensures.held c.in-Some.ensures) in
    ends (rw (no_room a.count a.table.now a.source.now (length a.out.now - l.next) l.i c.loop-i-test.true (omega (arith, size, c.if-size-out.false, l.invariant.0))) at l.invariant.2)

pub returns-in_default-2 : goal.returns-in_default-2
returns-in_default-2 c =
    let a = c.args in
    let l = c.loop-i in
    let none = stands_none a.source.now _ (subst (λ e. None ≡ size_in a.source.now e) c.held-entry.ensures.held c.in_default.ensures) in
    ends (rw (no_stand a.count a.table.now a.source.now (length a.out.now - l.next) l.i c.loop-i-test.true none) at l.invariant.2)

pub returns : goal.returns
returns c = ends (rw (rest_none _ _ _ _ _ c.loop-i-test.false) at c.loop-i.invariant.2)
