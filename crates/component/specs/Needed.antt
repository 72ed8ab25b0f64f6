-- How many octets a component takes; a length over 65,535 is counted as a field of four.
use Rattle.std.specs.Prelude.{ℕ, ◌+◌, List, [], ◌∷◌, length}
use Rattle.element.specs.Length.{field_size}
use Rattle.element.specs.Identifier.{identifier_size}
use Rattle.component.specs.Types.{Coding, uncoded, coded, coding_of, family_size}
use Rattle.component.specs.Grammar.{Parameter}

unfoldable pub element_size : (head body : ℕ) → ℕ
element_size head body = head + field_size body + body

unfoldable pub set_size : List Parameter → ℕ
set_size [] = 0
set_size (p ∷ ps) = element_size (identifier_size p.number) (length p.content) + set_size ps

-- the element of the code
unfoldable pub coding_size : Coding → ℕ
coding_size uncoded = 0
coding_size (coded octet number family size) = element_size 1 (family_size family + size)

-- the contents of the type's element
unfoldable pub body_size : (kind id set : ℕ) → ℕ
body_size kind id set = element_size 1 id + coding_size (coding_of kind) + element_size 1 set

unfoldable pub octets_needed : (kind id : ℕ) → List Parameter → ℕ
octets_needed kind id ps = element_size 1 (body_size kind id (set_size ps))
