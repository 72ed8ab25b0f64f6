-- `component::put_parameter` meets its contract.
use native.Mathlib.Omega.{arith}
use Rattle.component.proofs.Composition.{parameter, parameter_room}
use Rattle.component.proofs.Putting.{then}
use Rattle.component.proofs.composing.put_parameter.Goals as goal

pub put_identifier-field-requires : goal.put_identifier-field-requires
put_identifier-field-requires c =
    let s = c.requires.0 in
    omega (arith, s.number, s.form, parameter_room _ _ _ _ s.content _ c.requires.2)

pub put_length-contents-requires : goal.put_length-contents-requires
put_length-contents-requires c = omega (arith, parameter_room _ _ _ _ c.requires.0.content _ c.requires.2)

pub copy_octets-requires : goal.copy_octets-requires
copy_octets-requires c = omega (arith, c.requires.0.content, parameter_room _ _ _ _ c.requires.0.content _ c.requires.2)

pub returns : goal.returns
returns c =
    let room = parameter_room _ _ _ _ c.requires.0.content _ c.requires.2 in
    rw (← parameter _ _ _ _ c.requires.0.content)
    (then (then c.put_identifier-field.ensures c.put_length-contents.ensures (omega arith)) c.copy_octets.ensures (omega arith))
