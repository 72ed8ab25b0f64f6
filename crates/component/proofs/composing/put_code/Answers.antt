-- `component::put_code` meets its contract.
use mathlib.Core.Path.{◌≡◌}
use Rattle.component.specs.Types.{format_of}
use Rattle.component.specs.Composed.{code_element}
use Rattle.component.specs.inner.Emitting.{coded_octets}
use Rattle.component.proofs.Typing.{untyped}
use Rattle.component.proofs.Putting.{none}
use Rattle.component.proofs.composing.put_code.Goals as goal

pub returns-in-Err : goal.returns-in-Err
unfolding coded_octets code_element
returns-in-Err c = rw (untyped _ c.in-Err.ensures.1, code_element) none

pub returns-in-Ok-Result : goal.returns-in-Ok-Result
unfolding coded_octets code_element format_of
returns-in-Ok-Result c = let k : 0xEA ≡ c.args.kind = rw c.in-Ok-Result.field-0-is at c.in-Ok-Result.ensures.0 in rw (← k) none
