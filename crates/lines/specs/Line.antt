-- The line of an item, and what is left of a lent output where it is written.
use Rattle.std.specs.Prelude.{◌≡◌, ℕ, ◌+◌, [], ◌∷◌, ◌++◌, length, drop, nat_le}
use Rattle.std.specs.Prelude.{Result, Ok, Err}
use Rattle.element.specs.Octets.{Octets, if}
use Rattle.element.specs.Answer.{Answer, accepted, refused}
use Rattle.operation.specs.Caller.{Told}
use Rattle.lines.specs.declared.NoRoom as N
use Rattle.lines.specs.declared.component_lines.Figures as G
use Rattle.lines.specs.Decimal.{decimal}

abbrev pub blank : ℕ
blank = 32

abbrev pub feed : ℕ
feed = 10

-- a number, and the octet behind it
unfoldable pub cell : (number mark : ℕ) → Octets
cell number mark = decimal number ++ mark ∷ []

unfoldable pub row : (item answer detail named other : ℕ) → Octets
row item answer detail named other =
    cell item blank ++ cell answer blank ++ cell detail blank ++ cell named blank ++ cell other feed

-- five numbers of twenty digits, and the octet behind each
abbrev pub longest : ℕ
longest = 105

-- the line of an item, of whatever figures
abbrev pub line_said : (item : ℕ) → G.Figures → Octets
line_said item f = row item f.answer f.detail f.named f.other

-- the figures of an answer: accepted is 0, detail 0; the counts are 0 on refusal
abbrev pub figures_of : Answer Told → G.Figures
figures_of (accepted t) = record { answer = 0; detail = 0; named = t.named; other = t.other }
figures_of (refused number detail) = record { answer = number; detail = detail; named = 0; other = 0 }

-- accepted is 0, detail 0; the counts are 0 on refusal
unfoldable pub line_of : (item : ℕ) → Answer Told → Octets
line_of item (accepted t) = row item 0 0 t.named t.other
line_of item (refused number detail) = row item number detail 0 0

-- the one value of `NoRoom`
abbrev pub no_room : N.NoRoom
no_room = record {}

-- where a line ends, where there is room for it
unfoldable pub line_written : (line : Octets) (at : ℕ) (out : Octets) → Result ℕ N.NoRoom
line_written line at out = if (nat_le (at + length line) (length out)) (Ok (at + length line)) (Err no_room)

-- octets put down in front of what stands from `at` on; what stands before them is not said
pub record Front (octets : Octets) (at : ℕ) (text : Octets) (start : ℕ) (after : Octets) : Type 0 where
  pub place : start + length octets ≡ at
  pub tail : drop start after ≡ octets ++ drop at text
