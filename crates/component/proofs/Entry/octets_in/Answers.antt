-- `component::Entry::octets_in` meets its contract.
use native.Mathlib.Omega.{arith}
use Rattle.element.proofs.IdentifierLaws.{small}
use Rattle.component.proofs.Entry.octets_in.Goals as goal

pub element_size-requires : goal.element_size-requires
element_size-requires c = omega (arith, small _ c.identifier_size.ensures)
