-- What an order's functions answer, and what they put down: `Weighed`, of what it holds.
use Rattle.std.specs.Prelude.{ℕ, Result, None, map, length}
use mathlib.Core.List.{List}
use Rattle.element.specs.Octets.{Octets}
use Rattle.element.specs.Answer.{Answer}
use Rattle.element.specs.declared.refusal.Refusal as F
use Rattle.package.specs.declared.writing.Order as D
use Rattle.package.specs.Caller.{order}
use Rattle.package.specs.Told.{part_in}
use Rattle.package.specs.Writing.{package_writing}
use Rattle.package.specs.inner.Weighed.{sequence, weighed, packaged, lodged, Noted, AllNoted}

module _ (o : D.Order) where
  -- the components one behind another
  abbrev pub sequence_of : Answer Octets
  sequence_of = sequence (map part_in o.components.now) o.specifiers o.table.now o.source.now

  -- how many octets they take
  abbrev pub weighed_of : Answer ℕ
  weighed_of = weighed (map part_in o.components.now) o.specifiers o.table.now o.source.now o.kind 0 None 0

  -- the whole package, whatever its length
  abbrev pub packaged_of : Answer Octets
  packaged_of = packaged (map part_in o.components.now) o.specifiers o.table.now o.source.now o.kind o.ids.now

  -- and where it is not too long and has room
  abbrev pub lodged_of : (room : ℕ) → Answer Octets
  lodged_of room = lodged (map part_in o.components.now) o.specifiers o.table.now o.source.now o.kind o.ids.now room

  -- the octets of the parameters are noted of each component, and where all were weighed
  abbrev pub NotedOf : (sets : List ℕ) → Type 0
  NotedOf sets = Noted o.components.now o.specifiers o.table.now o.source.now (length o.components.now) sets

  abbrev pub AllNotedOf : (sets : List ℕ) → Result ℕ F.Refusal → Type 0
  AllNotedOf sets count = AllNoted o.components.now o.specifiers o.table.now o.source.now sets count

  -- what is answered of it
  abbrev pub writing_of : (room : ℕ) → Answer Octets
  writing_of room =
      package_writing
      (order o.kind o.ids.now (map part_in o.components.now) o.specifiers o.table.now o.source.now) room
