-- What a caller sees of a reader and of a writer.
use Rattle.std.specs.Prelude.{ℕ, List}
use Rattle.element.specs.Answer.{Answer}
use Rattle.component.specs.declared.Id as D
use Rattle.component.specs.declared.Code as E
use Rattle.element.specs.Octets.{Octets}

pub record Told : Type 0 where
  pub kind : ℕ
  pub id : D.Id
  pub code : E.Code
  pub all : ℕ
  pub named : ℕ
  pub other : ℕ

-- of a reader: octets, specifier and lent table go in, an answer and the table come back
pub record Read : Type 0 where
  pub answer : Answer Told
  pub table : List ℕ

abbrev pub read : Answer Told → (table : List ℕ) → Read
read answer table = record { answer = answer; table = table }

abbrev pub Reader : Type 0
Reader = (octets : Octets) (specifier : ℕ) (table : List ℕ) → Read

-- of a writer: what is ordered and a lent output go in, the octet count and the output come back
pub record Order : Type 0 where
  pub kind : ℕ
  pub id : D.Id
  pub code : E.Code
  pub count : ℕ
  pub table : List ℕ
  pub source : Octets

abbrev pub order : (kind : ℕ) (id : D.Id) (code : E.Code) (count : ℕ) (table : List ℕ) (source : Octets) → Order
order kind id code count table source =
    record { kind = kind; id = id; code = code; count = count; table = table; source = source }

pub record Wrote : Type 0 where
  pub answer : Answer ℕ
  pub output : Octets

abbrev pub wrote : Answer ℕ → (output : Octets) → Wrote
wrote answer output = record { answer = answer; output = output }

abbrev pub Writer : Type 0
Writer = (order : Order) (output : Octets) → Wrote
