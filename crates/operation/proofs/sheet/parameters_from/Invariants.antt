-- `operation::parameters_from` meets its contract. The invariant: the whole is what is shown in the sheet and what is left; each need is one of
-- the laws of `Walking`.
use Prim.Native.Nat.{◌-◌, ◌≤◌}
use mathlib.Core.Path.{◌≡◌}
use lib.ListN.{length}
use Rattle.operation.proofs.Walking.{Done}
use Rattle.operation.proofs.sheet.parameters_from.Given as goal

abbrev pub invariant-parameters : goal.invariant-parameters
invariant-parameters l =
    (l.at ≤ length l.octets) × (l.count ≤ 64) × (length l.sheet ≡ length l.initial.sheet) × Done l.octets l.from l.initial.sheet l.count l.at l.sheet

abbrev pub decreases-parameters : goal.decreases-parameters
decreases-parameters l = 64 - l.count
