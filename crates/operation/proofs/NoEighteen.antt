-- 18 has no sense: no fault of octets, of a run against its row or of an order has it, so what satisfies the demands never refuses with it.
use Prim.Native.Nat.{ℕ}
use mathlib.Core.List.{List}
use native.Mathlib.Omega.{arith}
use Rattle.element.specs.Octets.{Octets}
use Rattle.operation.specs.Row.{Row, Item}
use Rattle.operation.specs.Faults.{RowFault}
use Rattle.operation.specs.Caller.{Order}
use Rattle.operation.specs.Demands.{WriterRefuses}
use Rattle.operation.specs.Model.{NoEighteen}
use Rattle.operation.proofs.Packing.{refusal_small}

in_row : {row : Row} {xs : List Item} {d : ℕ} → RowFault row xs 18 d → ⊥
in_row = elim [ ]

pub in_writing : {o : Order} {out : Octets} {d : ℕ} → WriterRefuses o out 18 d → ⊥
in_writing (WriterRefuses.misfit r e f) = in_row f

pub no_eighteen : NoEighteen
unfolding NoEighteen
no_eighteen r w d = (λ s given t e o p. omega (arith, refusal_small (d.first.reader s given t o p).0), λ o out e p. in_writing (d.first.writer o out p).0)
