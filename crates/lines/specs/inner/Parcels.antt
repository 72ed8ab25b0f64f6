-- What the package reader hands back by value, as what it tells.
use Rattle.std.specs.Prelude.{ℕ, zero, suc, List, [], ◌∷◌, ◌++◌, drop, slice_index}
use Rattle.element.specs.Octets.{Octets}
use Rattle.element.specs.Answer.{Answer, accepted, refused, ◌>>=◌}
use Rattle.operation.specs.Packed.{told_in}
use Rattle.package.specs.declared.Package as P
use Rattle.package.specs.declared.Packages as S
use Rattle.package.specs.Caller.{Inside, Parcel}
use Rattle.package.specs.Told.{Envelope, answer_in}
use Rattle.lines.specs.Line.{row}
use Rattle.lines.specs.Packages.{inside_lines}

-- how many components there are
abbrev pub count_in : Answer Envelope → ℕ
count_in (accepted x) = x.count
count_in (refused n d) = 0

abbrev pub inside_in : (place summary : ℕ) → Inside
inside_in place summary = record { place = place; told = told_in summary }

-- the first `count` components, of which each has its place and its summary
unfoldable pub insides : (count : ℕ) (places summaries : List ℕ) → List Inside
insides zero ps ss = []
insides (suc n) ps ss = inside_in (slice_index ps 0) (slice_index ss 0) ∷ insides n (drop 1 ps) (drop 1 ss)

abbrev pub parcel_of : Envelope → (places summaries : List ℕ) → Parcel
parcel_of x ps ss =
    record { kind = x.kind; ids = x.ids; size = x.size; components = insides x.count ps ss }

-- the line of a package, and behind it those of its components
abbrev pub accepted_lines : (item : ℕ) → P.Package → (places summaries : List ℕ) → Octets
accepted_lines item p places summaries =
    row item 0 0 p.kind p.count ++ inside_lines (insides p.count places summaries)

unfoldable pub parcel_in : S.Packages → Answer Parcel
parcel_in r = answer_in r.answer >>= λ x. accepted (parcel_of x r.places r.components)
