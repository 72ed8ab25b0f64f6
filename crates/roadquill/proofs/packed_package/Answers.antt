-- `roadquill::packed_package` meets its contract.
use Prim.Native.Nat.{◌<◌}
use native.Mathlib.Omega.{arith}
use Rattle.operation.specs.Packed.{octets}
use Rattle.package.specs.Packed.{packed_package}
use Rattle.roadquill.proofs.packed_package.Goals as goal

pub returns-in-Ok : goal.returns-in-Ok
unfolding packed_package octets
returns-in-Ok c = rw c.in-Ok.is (omega (arith, rw c.in-Ok.is at c.requires))

pub returns-in-Err : goal.returns-in-Err
unfolding packed_package
returns-in-Err c = rw (c.in-Err.is, ← c.number.ensures.number) c.packed.ensures

pub overflow_mul-places : goal.overflow_mul-places
overflow_mul-places c = omega (arith, rw c.in-Ok.is at c.requires)

pub overflow_add-places : goal.overflow_add-places
overflow_add-places c = omega (arith, rw c.in-Ok.is at c.requires)

pub overflow_mul-result : goal.overflow_mul-result
overflow_mul-result c = omega (arith, rw c.in-Ok.is at c.requires)

pub overflow_add-result : goal.overflow_add-result
overflow_add-result c = omega (arith, rw c.in-Ok.is at c.requires)

pub overflow_mul-result-in-Ok : goal.overflow_mul-result-in-Ok
overflow_mul-result-in-Ok c = omega (arith, rw c.in-Ok.is at c.requires)

pub overflow_add-result-in-Ok : goal.overflow_add-result-in-Ok
overflow_add-result-in-Ok c = omega (arith, rw c.in-Ok.is at c.requires)

pub overflow_mul-result-in-Ok-2 : goal.overflow_mul-result-in-Ok-2
overflow_mul-result-in-Ok-2 c = omega (arith, rw c.in-Ok.is at c.requires)
