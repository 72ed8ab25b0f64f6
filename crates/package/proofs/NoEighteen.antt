-- 18 has no sense in a package either: its own layout's faults have 22, and a component's are the component reader's and writer's.
use Prim.Native.Nat.{ℕ, ◌%◌}
use mathlib.Core.List.{List}
use lib.ListN.{replicate}
use native.Mathlib.Omega.{arith}
use Rattle.element.specs.Octets.{Octets}
use Rattle.operation.proofs.Model.{demand1_ours}
use Rattle.operation.proofs.NoEighteen.{in_writing as in-component}
use Rattle.package.specs.Caller.{Part, Order}
use Rattle.package.specs.Writing.{order_of}
use Rattle.package.specs.Demands.{OneUnwritten, WriterRefuses}
use Rattle.package.specs.Model.{NoEighteen}
use Rattle.package.proofs.Packing.{refusal_fits}

unwritten : {source : Octets} {cs : List Part} {specifiers : ℕ} {table : List ℕ} {d : ℕ} → OneUnwritten source cs specifiers table 18 d → ⊥
unwritten {source} (OneUnwritten.here {c} {specifiers = specifiers} {table = table} e) =
    in-component (demand1_ours.writer (order_of c (specifiers % 256) table source) (replicate 4096 0) e).0
unwritten (OneUnwritten.later e f) = unwritten f

in_writing : {o : Order} {out : Octets} {d : ℕ} → WriterRefuses o out 18 d → ⊥
in_writing (WriterRefuses.refused_inside r f) = unwritten f

pub no_eighteen : NoEighteen
unfolding NoEighteen
no_eighteen r w d = (λ s specifiers t e a p. omega (arith, refusal_fits s specifiers t a (d.first.reader s specifiers t a p).0), λ o out e p. in_writing (d.first.writer o out p).0)
