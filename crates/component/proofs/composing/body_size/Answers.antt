-- `component::body_size` meets its contract.
use native.Mathlib.Omega.{arith}
use Rattle.component.proofs.Sizing.{body_size_lem}
use Rattle.component.proofs.composing.body_size.Goals as goal

pub returns : goal.returns
returns c = (rw (c.from.ensures, c.coding_size.ensures.0, c.element_size.ensures.0) (body_size_lem _ _ _ c.requires.0), omega arith)
