-- What each answer says: its values, or the paper's number and detail.
use Rattle.std.specs.Prelude.{ℕ, Option, Some, None, Result, Ok, Err}
use Rattle.element.specs.declared.refusal.Refusal as F
use Rattle.element.specs.Answer.{Answer, accepted, refused}
use Rattle.element.specs.Told.{number_of, told}
use Rattle.component.specs.declared.Span as S
use Rattle.component.specs.declared.Entry as E
use Rattle.component.specs.declared.Head as H
use Rattle.component.specs.declared.Measured as M
use Rattle.component.specs.Kinds.{octet_of}
use Rattle.component.specs.Layout.{Span, span, Head}
use Rattle.component.specs.Table.{Entry}
use Rattle.component.specs.Composing.{Sizes}

abbrev pub span_said : S.Span → Span
span_said x = span x.start x.end

abbrev pub span_in : Result S.Span F.Refusal → Answer Span
span_in r = told span_said r

-- of an element that is wanted by its first octet: none where another octet stands at `at`, which `number` refuses
abbrev pub wanted_in : (number at : ℕ) → Result (Option S.Span) F.Refusal → Answer Span
wanted_in number at (Ok (Some x)) = accepted (span_said x)
wanted_in number at (Ok None) = refused number at
wanted_in number at (Err r) = refused (number_of r.reason) r.detail

abbrev pub entry_said : E.Entry → Entry
entry_said e = record { number = e.number; form = e.form; place = e.place; start = e.start; size = e.size }

abbrev pub entry_in : Result E.Entry F.Refusal → Answer Entry
entry_in r = told entry_said r

abbrev pub count_in : Result ℕ F.Refusal → Answer ℕ
count_in r = told (λ n. n) r

abbrev pub head_said : H.Head → Head
head_said h = record { kind = octet_of h.kind; id = span_said h.id; code = h.code; set = h.set }

abbrev pub head_in : Result H.Head F.Refusal → Answer Head
head_in r = told head_said r

abbrev pub sizes_said : M.Measured → Sizes
sizes_said z = record { whole = z.whole; body = z.body; set = z.set }

abbrev pub measure_in : Result M.Measured F.Refusal → Answer Sizes
measure_in r = told sizes_said r
