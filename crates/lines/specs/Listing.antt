-- The listing: what a tagged field does to the run, the lines of a list of fields, and what is printed of an input.
use Rattle.std.specs.Prelude.{ℕ, ◌+◌, ◌/◌, ◌%◌, ◌^◌, Bool, false, ◌&&◌, List, [], ◌∷◌, ◌++◌, length, drop, ◌==◌}
use Rattle.std.specs.Prelude.{Option, Some, None, Result, Ok, Err, nat_le, nat_lt, slice_index}
use Rattle.element.specs.Octets.{Octets, if}
use Rattle.element.specs.Field.{put}
use Rattle.component.specs.Table.{table_size}
use Rattle.operation.specs.Reading.{reading, table_after}
use Rattle.operation.specs.Told.{told}
use Rattle.lines.specs.declared.Field as F
use Rattle.lines.specs.declared.Kept as K
use Rattle.lines.specs.declared.Listed as L
use Rattle.lines.specs.declared.NoRoom as N
use Rattle.lines.specs.Header.{field_at}
use Rattle.lines.specs.Line.{longest, line_of, no_room}

pub record Tagged : Type 0 where
  pub tag : ℕ
  pub contents : Octets

abbrev pub tagged : (tag : ℕ) → Octets → Tagged
tagged tag contents = record { tag = tag; contents = contents }

-- its octets: the tag, the length in two octets, high first, and the contents
unfoldable pub octets_of : Tagged → Octets
octets_of f = f.tag ∷ (length f.contents / 256) ∷ (length f.contents % 256) ∷ f.contents

-- ---- what is listed
-- a subject of listings, whose items are the fields of one tag: their lines go by their number, the kept specifier, the
-- count of numbers in the lent table, and their octets
pub record Subject : Type 0 where
  pub tag : ℕ
  pub header : Octets
  pub room : ℕ  -- the numbers of the table that its program lends
  pub longest : ℕ  -- an item has no more octets of lines
  pub lines : (item specifier room : ℕ) (contents : Octets) → Octets
  pub left : (specifier : ℕ) (contents : Octets) (table : List ℕ) → List ℕ  -- the table, once an item is read

-- `item answer detail named other`
abbrev pub header_line : Octets
header_line =
    0x69 ∷ 0x74 ∷ 0x65 ∷ 0x6D ∷ 0x20 ∷ 0x61 ∷ 0x6E ∷ 0x73 ∷ 0x77 ∷ 0x65 ∷ 0x72 ∷ 0x20
    ∷ 0x64 ∷ 0x65 ∷ 0x74 ∷ 0x61 ∷ 0x69 ∷ 0x6C ∷ 0x20 ∷ 0x6E ∷ 0x61 ∷ 0x6D ∷ 0x65 ∷ 0x64 ∷ 0x20
    ∷ 0x6F ∷ 0x74 ∷ 0x68 ∷ 0x65 ∷ 0x72 ∷ 0x0A ∷ []

-- components have tag 1, and a line each
abbrev pub components : Subject
components =
    record {
      tag = 1;
      header = header_line;
      room = table_size;
      longest = longest;
      lines = λ item specifier room s. line_of item (told (reading s specifier room));
      left = λ specifier s table. table_after table (reading s specifier (length table));
    }

-- ---- what a field does to the run
-- what is kept at the start: the specifier for later items, and how many items there were
abbrev pub start : K.Kept
start = record { specifier = 0; item = 0 }

-- the tag that is listed is one item more, counted in 64 bits; tag 2 with one octet sets the specifier; all else
-- changes nothing
unfoldable pub after : (tag : ℕ) → K.Kept → Tagged → K.Kept
after tag kept f =
    if (f.tag == tag) (record { specifier = kept.specifier; item = (kept.item + 1) % 2 ^ 64 })
    (if (f.tag == 2 && length f.contents == 1)
    (record { specifier = slice_index f.contents 0; item = kept.item })
    kept)

module _ (x : Subject) where
  -- the lines of an item, read with a table of `room` numbers; other tags have none
  unfoldable pub lines_for : (room : ℕ) → K.Kept → Tagged → Octets
  lines_for room kept f =
      if (f.tag == x.tag) (x.lines (after x.tag kept f).item kept.specifier room f.contents) []

  unfoldable pub listing : (room : ℕ) → K.Kept → List Tagged → Octets
  listing room kept [] = []
  listing room kept (f ∷ fs) = lines_for room kept f ++ listing room (after x.tag kept f) fs

-- ---- a field listed into a lent text: there has to be room for the longest lines, else nothing changes
module _ (x : Subject) (kept : K.Kept) (f : Tagged) (at : ℕ) (table : List ℕ) (text : Octets) where
  abbrev pub roomy : Bool
  roomy = nat_le (at + x.longest) (length text)

  abbrev pub lines_there : Octets
  lines_there = lines_for x (length table) kept f

  unfoldable pub listed : Result L.Listed N.NoRoom
  listed =
      if roomy (Ok (record { kept = after x.tag kept f; at = at + length lines_there })) (Err no_room)

  unfoldable pub text_left : Octets
  text_left = if roomy (put lines_there at text) text

  -- an item is read into the table, and other tags leave it
  unfoldable pub table_left : List ℕ
  table_left = if (roomy && f.tag == x.tag) (x.left kept.specifier f.contents table) table

-- ---- the fields of an input
-- a field is whole once it has as many octets as its header says
unfoldable pub fills : Octets → Option F.Field → Bool
fills s None = false
fills s (Some f) = nat_le (3 + f.size) (length s)

unfoldable pub whole : Octets → Bool
whole s = fills s (field_at s)

pub record Input : Type 0 where
  pub fields : List Tagged
  pub cut : Bool

abbrev pub before : Tagged → Input → Input
before f i = record { fields = f ∷ i.fields; cut = i.cut }

-- octet by octet; `held` are those of the field that is not whole yet, which is cut where the input ends in it
unfoldable pub input_from : (held : Octets) → Octets → Input
input_from held [] = record { fields = []; cut = nat_lt 0 (length held) }
input_from held (x ∷ xs) =
    if (whole (held ++ x ∷ []))
    (before (tagged (slice_index (held ++ x ∷ []) 0) (drop 3 (held ++ x ∷ []))) (input_from [] xs))
    (input_from (held ++ x ∷ []) xs)

unfoldable pub input_of : Octets → Input
input_of s = input_from [] s

-- ---- what is printed
-- `cut`
abbrev pub cut_line : Octets
cut_line = 0x63 ∷ 0x75 ∷ 0x74 ∷ 0x0A ∷ []

unfoldable pub printed : Subject → (input : Octets) → Octets
printed x s = x.header ++ listing x x.room start (input_of s).fields ++ if (input_of s).cut cut_line []
