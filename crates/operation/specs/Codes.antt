-- What the code of a component is to its caller.
use Rattle.std.specs.Prelude.{ℕ, [], ◌∷◌, eqb}
use Rattle.element.specs.Octets.{Octets, if}
use Rattle.component.specs.declared.Code as E

-- the operation that its row is found by: an INVOKE's own code says it, else it is handed in
unfoldable pub operation_of : (kind code given : ℕ) → ℕ
operation_of kind code given = if (eqb kind 0xE9) code given

-- the code that is told: what stands in the octets, and in a RESULT the specifier that is handed in
unfoldable pub told_code : (kind : ℕ) (code : Octets) (given : ℕ) → Octets
told_code kind code given = if (eqb kind 0xEA) (given ∷ []) code

-- what a writer looks at of a code that is handed in: the second octet in a REJECT alone
unfoldable pub heeded : (kind : ℕ) → E.Code → E.Code
heeded kind code = record { first = code.first; second = if (eqb kind 0xEC) code.second 0 }
