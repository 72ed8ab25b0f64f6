-- A component that stands behind other octets: every place is as many further on.
use Rattle.std.specs.Prelude.{ℕ, ◌+◌, Bool, ◌&&◌, ◌||◌, map, eqb}
use Rattle.element.specs.Octets.{if}
use Rattle.element.specs.Answer.{Answer, accepted, refused}
use Rattle.component.specs.Table.{Entry}
use Rattle.component.specs.Layout.{Span, span, Head, Layout}

abbrev pub span_on : ℕ → Span → Span
span_on n x = span (n + x.start) (n + x.end)

abbrev pub entry_on : ℕ → Entry → Entry
entry_on n e = record { number = e.number; form = e.form; place = n + e.place; start = n + e.start; size = e.size }

abbrev pub head_on : ℕ → Head → Head
head_on n h =
    record {
      kind = h.kind;
      id = span_on n h.id;
      code = n + h.code;
      set = n + h.set;
    }

abbrev pub layout_on : ℕ → Layout → Layout
layout_on n l = record { head = head_on n l.head; entries = map (entry_on n) l.entries }

-- 3, 11 in a result and 13 keep their details: they point to no octet
abbrev pub keeps : (number detail : ℕ) → Bool
keeps k d = eqb k 3 || (eqb k 13 || (eqb k 11 && eqb d 0))

abbrev pub answer_on : {A : Type 0} → ℕ → (A → A) → Answer A → Answer A
answer_on n f (accepted x) = accepted (f x)
answer_on n f (refused k d) = refused k (if (keeps k d) d (n + d))
