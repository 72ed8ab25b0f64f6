-- `component::put_length` meets its contract.
use Rattle.element.proofs.LengthLaws.{short, sizes, octets}
use Rattle.component.proofs.Putting.{by_value, value_room}
use Rattle.component.proofs.composing.put_length.Goals as goal

pub put_field-requires : goal.put_field-requires
put_field-requires c = value_room _ (sizes (short _ c.requires.0)) c.length_field.ensures _ c.requires.1

pub returns : goal.returns
returns c =
    let f = short _ c.requires.0 in
    by_value _ (octets f) (sizes f) c.length_field.ensures c.put_field.ensures
