-- `lines::package_lines::components_before` meets its contract.
use Rattle.std.proofs.Common.{◌≡◌, ◌+◌, ◌-◌, ◌*◌, ◌≤◌, length}
use Rattle.lines.specs.Line.{Front, longest}
use Rattle.lines.proofs.Parcels.{lines_from}
use Rattle.lines.proofs.package_lines.components_before.Given as goal

abbrev pub invariant-loop-i : goal.invariant-loop-i
invariant-loop-i l =
    (length l.text ≡ length l.initial.text) × (l.at ≤ l.start + (l.count - l.i) * (1 + longest))
    × Front (lines_from l.count l.places l.summaries l.i) l.at l.initial.text l.start l.text
