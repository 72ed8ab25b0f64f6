-- What each case of the reader's and the writer's answer says: its values, or the paper's number and detail.
use Rattle.std.specs.Prelude.{ℕ, Result, length}
use Rattle.element.specs.Answer.{Answer, accepted, ◌>>=◌}
use Rattle.element.specs.declared.refusal.Refusal as F
use Rattle.element.specs.Told.{told as told_by}
use Rattle.component.specs.Kinds.{octet_of}
use Rattle.component.specs.Table.{id_of, code_of}
use Rattle.operation.specs.declared.Reading as R
use Rattle.operation.specs.Reading.{Shown}
use Rattle.operation.specs.Caller.{Told}

-- what is told of what is shown: the entries stand in the table
abbrev pub told_of : Shown → Told
told_of x =
    record {
      kind = x.kind;
      id = id_of x.id;
      code = code_of x.code;
      all = length x.entries;
      named = x.named;
      other = x.other;
    }

unfoldable pub told : Answer Shown → Answer Told
told a = a >>= λ x. accepted (told_of x)

abbrev pub reading_said : R.Reading → Told
reading_said r =
    record { kind = octet_of r.kind; id = r.id; code = r.code; all = r.all; named = r.named; other = r.other }

abbrev pub answer_in : Result R.Reading F.Refusal → Answer Told
answer_in r = told_by reading_said r

abbrev pub written_in : Result ℕ F.Refusal → Answer ℕ
written_in r = told_by (λ n. n) r
