-- A component inside other octets, as a package has it: read from its start, it is read as it is alone, and each
-- place counts from the
-- start of those octets.
use Rattle.std.specs.Prelude.{ℕ, ◌≡◌, ◌++◌, map, length}
use Rattle.element.specs.Octets.{Octets}
use Rattle.component.specs.Onward.{entry_on, answer_on}
use Rattle.operation.specs.Reading.{Shown, reading_from}

abbrev pub shown_on : ℕ → Shown → Shown
shown_on n x =
    record {
      kind = x.kind;
      id = x.id;
      code = x.code;
      entries = map (entry_on n) x.entries;
      named = x.named;
      other = x.other;
    }

unfoldable pub Shifts : Type 0
Shifts = (pre c : Octets) (given : ℕ) →
    reading_from (pre ++ c) (length pre) given ≡ answer_on (length pre) (shown_on (length pre)) (reading_from c 0 given)
