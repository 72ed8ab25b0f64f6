-- A component that can be composed: what the grammar asks of its parts, and at most 4,096 octets.
use Prim.Native.Nat.{◌≤◌}
use mathlib.Core.Path.{◌≡◌}
use mathlib.Core.List.{List, [], ◌∷◌}
use lib.ListN.{length}
use Rattle.component.specs.Types.{coding_of, code_size, Allowed}
use Rattle.component.specs.Grammar.{Parameter, Component}
use Rattle.component.specs.Composed.{composed}

-- each parameter has an identifier
abbrev pub Identified : List Parameter → Type 0
Identified [] = Unit
Identified (p ∷ ps) = (p.number ≤ 16383) × (p.form ≤ 1) × Identified ps

-- its ID octets fit the type, and so do those of its code
pub record Composable (c : Component) : Type 0 where
  pub allowed : Allowed c.kind (length c.id)
  pub code : length c.code ≡ code_size (coding_of c.kind)
  pub identified : Identified c.parameters
  pub size : length (composed c) ≤ 4096
