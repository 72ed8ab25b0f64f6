-- Table 6 of 000 (6.3.2.3.1): the error codes that have a name. Every other code is reserved.
use Rattle.std.specs.Prelude.{ℕ, ◌+◌, ◌≤◌, ◌≡◌, List, [], ◌∷◌, ◌++◌, eqb, length, take, drop}
use Prim.Native.Char.{code as number}
use Prim.Native.String.{String, [] as none, ◌∷◌ as ◌then◌}
use Rattle.element.specs.Octets.{Octets, if}
use Rattle.errors.specs.declared.Part as P

unfoldable pub table6 : List (ℕ × String)
table6 =
    (129, "UnrecognizedMIN") ∷
    (130, "UnrecognizedESN") ∷
    (131, "MSID/HLRMismatch") ∷
    (132, "OperationSequenceProblem") ∷
    (133, "ResourceShortage") ∷
    (134, "OperationNotSupported") ∷
    (135, "TrunkUnavailable") ∷
    (136, "ParameterError") ∷
    (137, "SystemFailure") ∷
    (138, "UnrecognizedParameterValue") ∷
    (139, "FeatureInactive") ∷
    (140, "MissingParameter") ∷
    (141, "UnrecognizedTMSI") ∷
    (142, "TMSI/VLRMismatch") ∷
    []

-- a text in ASCII: an octet a character
unfoldable pub octets_of : String → Octets
octets_of none = []
octets_of (c then s) = number c ∷ octets_of s

unfoldable pub name_in : List (ℕ × String) → (code : ℕ) → Octets
name_in [] code = []
name_in (line ∷ lines) code = if (eqb line.0 code) (octets_of line.1) (name_in lines code)

-- the name of an error code; empty where it is reserved
unfoldable pub name_of : (code : ℕ) → Octets
name_of code = name_in table6 code

unfoldable pub names_in : List (ℕ × String) → Octets
names_in [] = []
names_in (line ∷ lines) = octets_of line.1 ++ names_in lines

-- all of the names, one behind another
unfoldable pub names : Octets
names = names_in table6

-- the part of the names, from `from` on, that is the name of a code; where no line has it, the empty part at 0
unfoldable pub part_from : (from : ℕ) → List (ℕ × String) → (code : ℕ) → P.Part
part_from from [] code = record { start = 0; size = 0 }
part_from from (line ∷ lines) code =
    let size = length (octets_of line.1) in
    if (eqb line.0 code) (record { start = from; size = size }) (part_from (from + size) lines code)

-- the part of all of the names that is the name of an error code; empty, at 0, where it is reserved
unfoldable pub part_of : (code : ℕ) → P.Part
part_of code = part_from 0 table6 code

-- what the part that is the name of a code has to be
pub record NamePart (code start size : ℕ) : Type 0 where
  pub within : start + size ≤ length names
  pub part : take size (drop start names) ≡ name_of code
