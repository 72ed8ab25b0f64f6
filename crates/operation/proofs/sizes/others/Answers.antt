-- `operation::others` meets its contract: each word is tested against the paper's sizes.
use mathlib.Core.Path.{refl}
use Rattle.operation.specs.Row.{key, some_of, among, allows}
use Rattle.operation.specs.Rows.{fixed, sizes_in, sizes}
use Rattle.operation.specs.inner.Coded.{bit}
use Rattle.operation.proofs.Missizing.{below, tested, larger}
use Rattle.operation.proofs.sizes.others.Goals as goal

pub returns-in-0 : goal.returns-in-0
unfolding below bit sizes sizes_in fixed key allows among some_of
returns-in-0 c = rw c.in-0.is (tested _ 0 refl)

pub returns-in-1 : goal.returns-in-1
unfolding below bit sizes sizes_in fixed key allows among some_of
returns-in-1 c = rw c.in-1.is (tested _ 1 refl)

pub returns-in-2 : goal.returns-in-2
unfolding below bit sizes sizes_in fixed key allows among some_of
returns-in-2 c = rw c.in-2.is (tested _ 2 refl)

pub returns-in-3 : goal.returns-in-3
unfolding below bit sizes sizes_in fixed key allows among some_of
returns-in-3 c = rw c.in-3.is (tested _ 3 refl)

pub returns-in-4 : goal.returns-in-4
unfolding below bit sizes sizes_in fixed key allows among some_of
returns-in-4 c = rw c.in-4.is (tested _ 4 refl)

pub returns-in-5 : goal.returns-in-5
unfolding below bit sizes sizes_in fixed key allows among some_of
returns-in-5 c = rw c.in-5.is (tested _ 5 refl)

pub returns-in_default : goal.returns-in_default
unfolding below bit sizes sizes_in fixed key allows among some_of
returns-in_default c = larger _ c.in_default.in_default-own.rest refl
