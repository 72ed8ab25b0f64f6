-- What the values that are handed in and out stand for: the entries of a table, five numbers for each parameter, and
-- the ID octets.
use Rattle.std.specs.Prelude.{ℕ, zero, suc, ◌+◌, ◌*◌, ◌≤◌, List, [], ◌∷◌, ◌++◌, map, length, get_or, take, drop}
use Rattle.element.specs.Octets.{Octets}
use Rattle.component.specs.declared.Id as D
use Rattle.component.specs.declared.Code as E
use Rattle.component.specs.Types.{coding_of, code_size}
use Rattle.component.specs.Grammar.{Parameter, Component}

-- ---- parameters
pub record Entry : Type 0 where
  pub number : ℕ
  pub form : ℕ
  pub place : ℕ
  pub start : ℕ
  pub size : ℕ

-- where the next one stands
abbrev pub next : Entry → ℕ
next e = e.start + e.size

-- ---- the table: five numbers for each parameter, and what stands behind them stays
abbrev pub width : ℕ
width = 5

-- the numbers of a table for as many parameters as a component may have
abbrev pub table_size : ℕ
table_size = 64 * width

abbrev pub numbers_of : Entry → List ℕ
numbers_of e = e.number ∷ e.form ∷ e.start ∷ e.size ∷ e.place ∷ []

unfoldable pub numbers : List Entry → List ℕ
numbers [] = []
numbers (e ∷ es) = numbers_of e ++ numbers es

unfoldable pub table_with : List Entry → List ℕ → List ℕ
table_with es t = numbers es ++ drop (length (numbers es)) t

-- ---- the entries that a table holds
abbrev pub held : (table : List ℕ) (i : ℕ) → Entry
held t i =
    record {
      number = get_or t (width * i) 0;
      form = get_or t (width * i + 1) 0;
      start = get_or t (width * i + 2) 0;
      size = get_or t (width * i + 3) 0;
      place = get_or t (width * i + 4) 0;
    }

-- `count` of them from `i` on
unfoldable pub held_from : (i count : ℕ) (table : List ℕ) → List Entry
held_from i zero t = []
held_from i (suc n) t = held t i ∷ held_from (i + 1) n t

-- ---- entries whose contents stand in the source, as a writer takes them: their places are not looked at
pub record EntryStands (source : Octets) (e : Entry) : Type 0 where
  pub number : e.number ≤ 16383
  pub form : e.form ≤ 1
  pub content : e.start + e.size ≤ length source

unfoldable pub parameter_of : (source : Octets) → Entry → Parameter
parameter_of source e =
    record { number = e.number; form = e.form; content = take e.size (drop e.start source) }

-- the parameters of `count` entries from `i` on
unfoldable pub parameters_from : (i count : ℕ) (table : List ℕ) (source : Octets) → List Parameter
parameters_from i count t source = map (parameter_of source) (held_from i count t)

-- ---- the outline
-- the octets of the component ID as a value, and those of a code: 0 where there is none
unfoldable pub id_of : Octets → D.Id
id_of octets = record { count = length octets; first = get_or octets 0 0; second = get_or octets 1 0 }

unfoldable pub id_octets : D.Id → Octets
id_octets id = take id.count (id.first ∷ id.second ∷ [])

unfoldable pub code_of : Octets → E.Code
code_of octets = record { first = get_or octets 0 0; second = get_or octets 1 0 }

-- what stands of a code in the octets: the second is looked at in a REJECT alone, and none in a RESULT
unfoldable pub written_code : (kind : ℕ) → E.Code → Octets
written_code kind code = take (code_size (coding_of kind)) (code.first ∷ code.second ∷ [])

unfoldable pub component_of : (kind : ℕ) (id : D.Id) (code : E.Code) → List Parameter → Component
component_of kind id code ps =
    record { kind = kind; id = id_octets id; code = written_code kind code; parameters = ps }
