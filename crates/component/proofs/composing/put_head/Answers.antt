-- `component::put_head` meets its contract.
use mathlib.Core.List.{[], ◌∷◌}
use lib.ListN.{length-set}
use Rattle.component.specs.Composed.{element}
use Rattle.component.specs.Table.{id_octets}
use Rattle.component.specs.inner.Emitting.{head_octets}
use native.Mathlib.Omega.{arith}
use Rattle.component.proofs.Composition.{head_room}
use Rattle.component.proofs.Putting.{stored, then}
use Rattle.component.proofs.composing.put_head.Goals as goal

pub bounds-out-0 : goal.bounds-out-0
bounds-out-0 c = omega (arith, head_room _ _ _ _ _ c.requires.3)

pub put_length-component-requires : goal.put_length-component-requires
put_length-component-requires c = simp length-set (omega (arith, head_room _ _ _ _ _ c.requires.3))

pub put_few-encoded-requires : goal.put_few-encoded-requires
put_few-encoded-requires c = omega (arith, head_room _ _ _ _ _ c.requires.3, simp length-set at c.put_length-component.auto.out)

pub put_code-parameters-requires : goal.put_code-parameters-requires
put_code-parameters-requires c =
    omega (arith, head_room _ _ _ _ _ c.requires.3, simp length-set at c.put_length-component.auto.out)

pub bounds-out-parameters : goal.bounds-out-parameters
bounds-out-parameters c =
    omega (arith, head_room _ _ _ _ _ c.requires.3, simp length-set at c.put_length-component.auto.out)

pub overflow_add-parameters : goal.overflow_add-parameters
overflow_add-parameters c =
    omega (arith, head_room _ _ _ _ _ c.requires.3, simp length-set at c.put_length-component.auto.out)

pub put_length-requires : goal.put_length-requires
put_length-requires c =
    simp length-set (omega (arith, head_room _ _ _ _ _ c.requires.3, simp length-set at c.put_length-component.auto.out))

pub shape_of-out : goal.shape_of-out
shape_of-out c = omega (arith, simp length-set at c.put_length-component.auto.out, simp length-set at c.put_length.auto.out)

pub returns : goal.returns
unfolding head_octets id_octets
returns c =
    let room = head_room _ c.args.id _ _ _ c.requires.3 in
    let kept = simp length-set at c.put_length-component.auto.out in
    then (then (then (then {g = element (0xCF ∷ []) (id_octets c.args.id)}
    (then (stored (_ ∷ []) _ _ (omega arith)) c.put_length-component.ensures (omega arith))
    c.put_few-encoded.ensures (omega arith))
    c.put_code-parameters.ensures (omega arith))
    (stored (_ ∷ []) _ _ (omega arith)) (omega arith))
    c.put_length.ensures (omega arith)
