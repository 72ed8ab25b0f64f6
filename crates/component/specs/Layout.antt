-- The layout of one component, as the reader decides it from left to right.
use Rattle.std.specs.Prelude.{ℕ, Option, Some, None, zero, suc, ◌+◌, ◌-◌, Bool, ◌||◌, not, List, [], ◌∷◌, length, get_or, take}
use Rattle.std.specs.Prelude.{drop, ltb, leb, eqb}
use Rattle.element.specs.declared.Length as L
use Rattle.element.specs.declared.Identifier as I
use Rattle.element.specs.Octets.{Octets, if, between}
use Rattle.element.specs.Answer.{Answer, accepted, refused, ◌>>=◌, ◌>>◌, check}
use Rattle.element.specs.Decoded.{length_at, identifier_at}
use Rattle.component.specs.Types.{Coding, uncoded, coded, coding_of, family_size, code_size, typed, id_fits}
use Rattle.component.specs.Faults.{component}
use Rattle.component.specs.Table.{Entry, next}

-- ---- one element
pub record Span : Type 0 where
  pub start : ℕ
  pub end : ℕ

abbrev pub span : (start end : ℕ) → Span
span start end = record { start = start; end = end }

abbrev pub size_of : Span → ℕ
size_of x = x.end - x.start

unfoldable pub span_of : (at from end : ℕ) → Option L.Length → Answer Span
span_of at from end (Some l) = do
  check (leb (from + l.size + l.value) end) component.extent at
  accepted (span (from + l.size) (from + l.size + l.value))
span_of at from end None = refused component.field from

-- the contents of the element at `at`, whose length field stands at `from`, in a parent that ends at `end`
unfoldable pub contents : Octets → (at from end : ℕ) → Answer Span
contents s at from end = span_of at from end (length_at (between from end s))

-- the element of one identifier octet that is wanted at `at`: another octet there is refused by `number`
unfoldable pub wanted : Octets → (octet number at end : ℕ) → Answer Span
wanted s octet number at end = do
  check (ltb at end) component.end end
  check (eqb (get_or s at 0) octet) number at
  contents s at (at + 1) end

-- the same steps where the parent ends with the octets: the element at `at`, whichever octet it begins with, and the
-- element of one identifier octet that is wanted there
unfoldable pub element_from : Octets → (at : ℕ) → Answer Span
element_from s at = do
  check (leb (length s) 4096) 2 0
  check (ltb at (length s)) component.end (length s)
  contents s at (at + 1) (length s)

unfoldable pub wanted_from : Octets → (octet number at : ℕ) → Answer Span
wanted_from s octet number at = do
  check (leb (length s) 4096) 2 0
  wanted s octet number at (length s)

-- the set of parameters that is wanted at `at`, and has to end where its parent ends
unfoldable pub set_at : Octets → (at end : ℕ) → Answer Span
set_at s at end = do
  f ← wanted s 0xF2 8 at end
  check (eqb f.end end) component.rest f.end
  accepted f

-- ---- all but the parameters
-- the component ID, and where the code and the parameters start; where there is no code, the set stands
pub record Head : Type 0 where
  pub kind : ℕ
  pub id : Span
  pub code : ℕ
  pub set : ℕ

-- the element of a code of `size` octets: the code in it
unfoldable pub coded_at : Octets → (octet number : ℕ) (family : Bool) (size at end : ℕ) → Answer Span
coded_at s octet number family size at end = do
  d ← wanted s octet number at end
  check (eqb (size_of d) (family_size family + size)) number at
  check (not family || eqb (get_or s d.start 0) 9) number at
  accepted (span (d.start + family_size family) d.end)

unfoldable pub code_at : Octets → Coding → (at end : ℕ) → Answer Span
code_at s uncoded at end = accepted (span at at)
code_at s (coded octet number family size) at end = coded_at s octet number family size at end

-- the code behind the component ID `i`, and the set behind it
unfoldable pub behind_id : Octets → (kind : ℕ) (i : Span) (end : ℕ) → Answer Head
behind_id s kind i end = do
  d ← code_at s (coding_of kind) i.end end
  f ← set_at s d.end end
  accepted (record { kind = kind; id = i; code = d.start; set = f.start })

unfoldable pub body_at : Octets → (kind : ℕ) → Span → Answer Head
body_at s kind x = do
  i ← wanted s 0xCF 6 x.start x.end
  check (id_fits kind (size_of i)) 6 x.start
  behind_id s kind i x.end

-- the component that stands from `from` to the end of the octets
unfoldable pub head_from : Octets → (from : ℕ) → Answer Head
head_from s from = do
  check (typed (get_or s from 0)) 3 0
  x ← contents s from (from + 1) (length s)
  check (eqb x.end (length s)) component.rest x.end
  body_at s (get_or s from 0) x

-- the same, with 2 asked first
unfoldable pub head_at : Octets → (from : ℕ) → Answer Head
head_at s from = do
  check (ltb from (length s)) 2 0
  check (leb (length s) 4096) 2 0
  head_from s from

abbrev pub head_of : Octets → Answer Head
head_of s = head_at s 0

-- ---- parameters
unfoldable pub parameter : Octets → (at end : ℕ) → Option I.Identifier → Answer Entry
parameter s at end (Some i) = do
  x ← contents s at (at + i.size) end
  accepted (record { number = i.number; form = i.form; place = at; start = x.start; size = size_of x })
parameter s at end None = refused 9 at

unfoldable pub parameter_at : Octets → (at end : ℕ) → Answer Entry
parameter_at s at end = parameter s at end (identifier_at (between at end s))

-- the parameter that stands at `at`, in a parent that ends where the octets end
unfoldable pub parameter_from : Octets → (at : ℕ) → Answer Entry
parameter_from s at = do
  check (leb (length s) 4096) 2 0
  check (ltb at (length s)) component.end (length s)
  parameter_at s at (length s)

-- the parameters from `at` to `end`, where `room` more are allowed
unfoldable pub parameters : (room : ℕ) → Octets → (at end : ℕ) → Answer (List Entry)
parameters zero s at end = do
  check (leb end at) 10 at
  accepted []
parameters (suc room) s at end =
    if (leb end at) (accepted []) do
      e ← parameter_at s at end
      es ← parameters room s (next e) end
      accepted (e ∷ es)

-- ---- the component
pub record Layout : Type 0 where
  pub head : Head
  pub entries : List Entry

-- a head, and the parameters from its set to the end of the octets
unfoldable pub layout_behind : Octets → Head → Answer Layout
layout_behind s h = do
  es ← parameters 64 s h.set (length s)
  accepted (record { head = h; entries = es })

unfoldable pub layout_from : Octets → (from : ℕ) → Answer Layout
layout_from s from = head_from s from >>= layout_behind s

unfoldable pub layout_at : Octets → (from : ℕ) → Answer Layout
layout_at s from = head_at s from >>= layout_behind s

abbrev pub layout_of : Octets → Answer Layout
layout_of s = layout_at s 0

-- ---- the code of a layout as it stands in the octets, and 11's place: that of an INVOKE's code, else 0
unfoldable pub code_octets : Octets → Head → Octets
code_octets s h = take (code_size (coding_of h.kind)) (drop h.code s)

unfoldable pub operation_place : Head → ℕ
operation_place h = if (eqb h.kind 0xE9) h.code 0
