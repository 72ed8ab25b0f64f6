-- What a caller sees of a package reader and of a package writer.
use Rattle.std.specs.Prelude.{ℕ, List}
use Rattle.element.specs.Octets.{Octets}
use Rattle.element.specs.Answer.{Answer}
use Rattle.component.specs.declared.Id as D
use Rattle.component.specs.declared.Code as E
use Rattle.operation.specs.Caller.{Told, Wrote}

-- of a component its place, and what the component reader tells of it
pub record Inside : Type 0 where
  pub place : ℕ
  pub told : Told

-- of a package its type, where its transaction ID octets start and how many they are, and its components
pub record Parcel : Type 0 where
  pub kind : ℕ
  pub ids : ℕ
  pub size : ℕ
  pub components : List Inside

-- of a reader: octets, eight specifiers as one number and a lent table go in, an answer and the table come back
pub record Read : Type 0 where
  pub answer : Answer Parcel
  pub table : List ℕ

abbrev pub read : Answer Parcel → (table : List ℕ) → Read
read answer table = record { answer = answer; table = table }

abbrev pub Reader : Type 0
Reader = (octets : Octets) (specifiers : ℕ) (table : List ℕ) → Read

-- what is ordered of a component; its entries stand in the table
pub record Part : Type 0 where
  pub kind : ℕ
  pub id : D.Id
  pub code : E.Code
  pub count : ℕ

-- of a writer: what is ordered and a lent output go in, the octet count and the output come back
pub record Order : Type 0 where
  pub kind : ℕ
  pub ids : Octets
  pub components : List Part
  pub specifiers : ℕ
  pub table : List ℕ
  pub source : Octets

abbrev pub order : (kind : ℕ) (ids : Octets) → List Part → (specifiers : ℕ) (table : List ℕ) (source : Octets) → Order
order kind ids components specifiers table source =
    record {
      kind = kind;
      ids = ids;
      components = components;
      specifiers = specifiers;
      table = table;
      source = source;
    }

abbrev pub Writer : Type 0
Writer = (order : Order) (output : Octets) → Wrote
