-- `operation::packed` meets its contract: a detail has 32 bits, and an octet is below it.
use native.Mathlib.Omega.{arith}
use Rattle.operation.proofs.summary.packed.Goals as goal

pub overflow_mul-result : goal.overflow_mul-result
overflow_mul-result c = omega arith

pub overflow_add-result : goal.overflow_add-result
overflow_add-result c = omega arith

pub returns : goal.returns
returns c = omega arith
