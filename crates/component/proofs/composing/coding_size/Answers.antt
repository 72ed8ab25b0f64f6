-- `component::coding_size` meets its contract.
use mathlib.Core.Path.{◌≡◌}
use native.Mathlib.Omega.{arith}
use Rattle.element.specs.Length.{field_size}
use Rattle.component.specs.Types.{format_of}
use Rattle.component.specs.Needed.{element_size, coding_size}
use Rattle.component.proofs.Typing.{untyped}
use Rattle.component.proofs.composing.coding_size.Goals as goal

pub returns-in-Ok-Invoke : goal.returns-in-Ok-Invoke
unfolding format_of coding_size element_size field_size
returns-in-Ok-Invoke c = let k : 0xE9 ≡ c.args.kind = rw c.in-Ok-Invoke.field-0-is at c.in-Ok-Invoke.ensures.0 in (rw (← k), omega arith)

pub returns-in-Ok-Error : goal.returns-in-Ok-Error
unfolding format_of coding_size element_size field_size
returns-in-Ok-Error c = let k : 0xEB ≡ c.args.kind = rw c.in-Ok-Error.field-0-is at c.in-Ok-Error.ensures.0 in (rw (← k), omega arith)

pub returns-in-Ok-Reject : goal.returns-in-Ok-Reject
unfolding format_of coding_size element_size field_size
returns-in-Ok-Reject c = let k : 0xEC ≡ c.args.kind = rw c.in-Ok-Reject.field-0-is at c.in-Ok-Reject.ensures.0 in (rw (← k), omega arith)

pub returns-in-Err : goal.returns-in-Err
unfolding coding_size
returns-in-Err c = (rw (untyped _ c.in-Err.ensures.1, coding_size), omega arith)
