-- The octets that a writer composes: the grammar with every length field at its shortest.
use Rattle.std.specs.Prelude.{List, [], ◌∷◌, ◌++◌, length}
use Rattle.element.specs.Octets.{Octets}
use Rattle.element.specs.Length.{shortest}
use Rattle.element.specs.Identifier.{identifier}
use Rattle.component.specs.Types.{Coding, uncoded, coded, coding_of, with_family}
use Rattle.component.specs.Grammar.{Parameter, Component}

unfoldable pub element : (head body : Octets) → Octets
element head body = head ++ shortest (length body) ++ body

unfoldable pub set_of : List Parameter → Octets
set_of [] = []
set_of (p ∷ ps) = element (identifier p.number p.form) p.content ++ set_of ps

unfoldable pub code_element : Coding → (code : Octets) → Octets
code_element uncoded code = []
code_element (coded octet number family size) code = element (octet ∷ []) (with_family family code)

unfoldable pub composed : Component → Octets
composed c =
    element (c.kind ∷ [])
    (element (0xCF ∷ []) c.id ++ code_element (coding_of c.kind) c.code
    ++ element (0xF2 ∷ []) (set_of c.parameters))
