-- A layout in which each length field is the shortest that says its length.
use Rattle.std.specs.Prelude.{◌≡◌, List, length}
use Rattle.element.specs.Octets.{Octets}
use Rattle.element.specs.Length.{shortest}
use Rattle.component.specs.Types.{Coding}
use Rattle.component.specs.Grammar.{
  Parameter,
  Element,
  laid,
  Parameters,
  none,
  more,
  Component,
  Coded,
  absent,
  present,
  Laid,
}

unfoldable pub ShortestLength : {head body s : Octets} → Element head body s → Type 0
ShortestLength {body = body} (laid field f) = field ≡ shortest (length body)

unfoldable pub ShortestLengths : {ps : List Parameter} {s : Octets} → Parameters ps s → Type 0
ShortestLengths none = Unit
ShortestLengths (more p n w r) = ShortestLength w × ShortestLengths r

unfoldable pub ShortestCode : {coding : Coding} {code s : Octets} → Coded coding code s → Type 0
ShortestCode absent = Unit
ShortestCode (present e w) = ShortestLength w

pub record Shortest {c : Component} {s : Octets} (x : Laid c s) : Type 0 where
  pub id : ShortestLength x.identified
  pub code : ShortestCode x.encoded
  pub parameters : ShortestLengths x.parameters
  pub set : ShortestLength x.collected
  pub whole : ShortestLength x.whole
