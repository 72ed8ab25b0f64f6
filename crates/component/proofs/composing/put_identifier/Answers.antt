-- `component::put_identifier` meets its contract.
use Rattle.element.specs.Identifier.{only}
use Rattle.element.proofs.IdentifierLaws.{sizes, octets}
use Rattle.component.proofs.Putting.{by_value, value_room}
use Rattle.component.proofs.composing.put_identifier.Goals as goal

pub put_field-requires : goal.put_field-requires
put_field-requires c =
    let p = c.requires in
    value_room _ (sizes (only _ _ p.0 p.1)) c.identifier_field.ensures _ p.2

pub returns : goal.returns
returns c =
    let p = c.requires in
    let f = only _ _ p.0 p.1 in
    by_value _ (octets f) (sizes f) c.identifier_field.ensures c.put_field.ensures
