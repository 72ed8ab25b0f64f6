-- `component::put_parameters` meets its contract.
use mathlib.Core.Path.{◌≡◌}
use lib.ListN.{length}
use Rattle.component.specs.Composed.{set_of}
use Rattle.component.specs.Table.{parameters_from}
use Rattle.component.proofs.Emission.{rest}
use Rattle.component.proofs.Putting.{Left}
use Rattle.component.proofs.composing.put_parameters.Given as goal

abbrev pub invariant-loop-i : goal.invariant-loop-i
invariant-loop-i l =
    (length l.out ≡ length l.initial.out) × Left (set_of (parameters_from 0 l.count l.table l.source)) l.at l.initial.out (rest l.count l.table l.source l.i) l.next l.out
