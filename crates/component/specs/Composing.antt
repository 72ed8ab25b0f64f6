-- What a writer composes from a table of entries and the source they point into, up to the refusals that need no row.
use Rattle.std.specs.Prelude.{ℕ, ◌+◌, ◌*◌, Bool, ◌&&◌, List, [], ◌∷◌, length, leb}
use Rattle.element.specs.Octets.{Octets}
use Rattle.element.specs.Answer.{Answer, accepted, ◌>>=◌, ◌>>◌, check}
use Rattle.component.specs.declared.Id as D
use Rattle.component.specs.declared.Code as E
use Rattle.component.specs.Types.{typed, id_fits}
use Rattle.component.specs.Grammar.{Parameter}
use Rattle.component.specs.Composed.{composed}
use Rattle.component.specs.Part.{fits}
use Rattle.component.specs.Table.{Entry, width, held_from, parameter_of, component_of}
use Rattle.component.specs.Needed.{set_size, body_size, octets_needed}

unfoldable pub entry_stands : (source : Octets) → Entry → Bool
entry_stands source e = leb e.number 16383 && (leb e.form 1 && fits source e.start e.size)

-- the parameters of entries, the first of which is entry `i`: 16 at the first that can't be
unfoldable pub taken_from : (i : ℕ) (source : Octets) → List Entry → Answer (List Parameter)
taken_from i source [] = accepted []
taken_from i source (e ∷ es) = do
  check (entry_stands source e) 16 i
  ps ← taken_from (i + 1) source es
  accepted (parameter_of source e ∷ ps)

-- `count` of them from entry `i` on
abbrev pub entries_from : (i count : ℕ) (table : List ℕ) (source : Octets) → Answer (List Parameter)
entries_from i count t source = taken_from i source (held_from i count t)

-- ---- the component
-- the parameters that are to be written
unfoldable pub entries_of : (kind : ℕ) (id : D.Id) (count : ℕ) (table : List ℕ) (source : Octets) →
    Answer (List Parameter)
entries_of kind id count table source = do
  check (typed kind) 3 0
  check (id_fits kind id.count) 6 0
  check (leb count 64) 10 0
  check (leb (width * count) (length table)) 1 0
  ps ← entries_from 0 count table source
  check (leb (octets_needed kind id.count ps) 4096) 15 (octets_needed kind id.count ps)
  accepted ps

pub record Sizes : Type 0 where
  pub whole : ℕ
  pub body : ℕ
  pub set : ℕ

-- of those parameters
abbrev pub sizes_of : (kind id : ℕ) → List Parameter → Sizes
sizes_of kind id ps =
    record { whole = octets_needed kind id ps; body = body_size kind id (set_size ps); set = set_size ps }

unfoldable pub measured : (kind : ℕ) (id : D.Id) (count : ℕ) (table : List ℕ) (source : Octets) → Answer Sizes
measured kind id count table source = do
  ps ← entries_of kind id count table source
  accepted (record {
    whole = octets_needed kind id.count ps;
    body = body_size kind id.count (set_size ps);
    set = set_size ps;
  })

-- the octets of those parameters, where the output has room for them
unfoldable pub octets_of : (kind : ℕ) (id : D.Id) (code : E.Code) → List Parameter → (room : ℕ) → Answer Octets
octets_of kind id code ps room = do
  check (leb (octets_needed kind id.count ps) room) 17 (octets_needed kind id.count ps)
  accepted (composed (component_of kind id code ps))

unfoldable pub composing : (kind : ℕ) (id : D.Id) (code : E.Code) (count : ℕ) (table : List ℕ) (source : Octets)
    (room : ℕ) → Answer Octets
composing kind id code count table source room = do
  ps ← entries_of kind id count table source
  octets_of kind id code ps room
