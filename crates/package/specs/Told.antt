-- What each case of the package reader's answer says, and what stands beside it: for each component its place, and what
-- is told of it as one number of eight octets.
use Rattle.std.specs.Prelude.{ℕ, Result, List, ◌++◌, map, length, drop}
use Rattle.element.specs.Answer.{Answer, accepted, refused, ◌>>=◌}
use Rattle.component.specs.Layout.{size_of}
use Rattle.operation.specs.Told.{told_of}
use Rattle.operation.specs.Packed.{packed_reading, told_in}
use Rattle.element.specs.declared.refusal.Refusal as F
use Rattle.element.specs.Told.{told as told_by}
use Rattle.package.specs.declared.Package as P
use Rattle.package.specs.Caller.{Inside, Parcel, Part}
use Rattle.package.specs.Reading.{Placed, Packet}

-- what is told of what is shown: the entries stand in the table
abbrev pub inside : Placed → Inside
inside y = record { place = y.place; told = told_of y.shown }

unfoldable pub told : Answer Packet → Answer Parcel
told a = a >>= λ p. accepted (record {
  kind = p.kind;
  ids = p.ids.start;
  size = size_of p.ids;
  components = map inside p.components;
})

-- ---- the answer as it is given: how many components there are, and beside it what is told of each
pub record Envelope : Type 0 where
  pub kind : ℕ
  pub ids : ℕ
  pub size : ℕ
  pub count : ℕ

unfoldable pub outlined : Answer Parcel → Answer Envelope
outlined a = a >>= λ p. accepted (record {
  kind = p.kind;
  ids = p.ids;
  size = p.size;
  count = length p.components;
})

abbrev pub package_said : P.Package → Envelope
package_said p = record { kind = p.kind; ids = p.ids; size = p.size; count = p.count }

abbrev pub answer_in : Result P.Package F.Refusal → Answer Envelope
answer_in r = told_by package_said r

-- each in front of a list, which a refusal leaves as it was
unfoldable pub places_with : List Inside → List ℕ → List ℕ
places_with cs t = map (λ c. c.place) cs ++ drop (length cs) t

abbrev pub summary_of : Inside → ℕ
summary_of c = packed_reading (accepted c.told)

unfoldable pub summaries_with : List Inside → List ℕ → List ℕ
summaries_with cs t = map summary_of cs ++ drop (length cs) t

unfoldable pub places_after : List ℕ → Answer Parcel → List ℕ
places_after t (accepted p) = places_with p.components t
places_after t (refused n d) = t

unfoldable pub summaries_after : List ℕ → Answer Parcel → List ℕ
summaries_after t (accepted p) = summaries_with p.components t
summaries_after t (refused n d) = t

-- ---- what a writer looks at of a summary
abbrev pub part_in : ℕ → Part
part_in r = record { kind = (told_in r).kind; id = (told_in r).id; code = (told_in r).code; count = (told_in r).all }
