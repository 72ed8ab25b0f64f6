-- The invariant: no more octets are taken than are wanted.
use Rattle.std.proofs.Common.{◌≤◌}
use Rattle.fields.proofs.input.Input.take.Given as goal

abbrev pub invariant-loop : goal.invariant-loop
invariant-loop g l = l.count ≤ l.want
