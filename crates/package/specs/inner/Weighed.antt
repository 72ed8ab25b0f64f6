-- What the private functions of the writing part answer, and what they put down.
use Rattle.std.specs.Prelude.{ℕ, zero, suc, ◌+◌, ◌*◌, ◌/◌, ◌%◌, ◌<◌, ◌≤◌, ◌≡◌, length, get_or, drop}
use Rattle.std.specs.Prelude.{Option, Result, Ok, Err}
use mathlib.Core.List.{List, flatten}
use Rattle.element.specs.Octets.{Octets}
use Rattle.element.specs.Answer.{Answer, accepted, ◌>>=◌, ◌>>◌}
use Rattle.element.specs.Output.{written, output_after}
use Rattle.element.specs.declared.refusal.Refusal as F
use Rattle.component.specs.Table.{table_size}
use Rattle.component.specs.Composing.{Sizes}
use Rattle.operation.specs.declared.summary.Outline as O
use Rattle.operation.specs.Writing.{weighing_sizes}
use Rattle.package.specs.Caller.{Part}
use Rattle.package.specs.Told.{part_in}
use Rattle.package.specs.inner.Leftover.{closing}
use Rattle.package.specs.Writing.{code_for, write_each, carried_as, package_octets, laid_down}

-- what the component writer is handed of a component
abbrev pub outline_for : Part → (given : ℕ) → O.Outline
outline_for c given =
    record { kind = c.kind; id = c.id; code = code_for c.kind c.code given; all = c.count }

module _ (cs : List Part) (specifiers : ℕ) (table : List ℕ) (source : Octets) where
  -- the components one behind another
  unfoldable pub sequence : Answer Octets
  sequence = do
    os ← write_each cs specifiers table source
    accepted (flatten os)

  -- how many octets they take with those before them, which take `sum`: the first is component `i`, and `wrong` is the
  -- index of the first before them that the package does not carry
  unfoldable pub weighed : (packet i : ℕ) (wrong : Option ℕ) (sum : ℕ) → Answer ℕ
  weighed packet i wrong sum = do
    s ← sequence
    closing wrong
    carried_as packet i cs specifiers
    accepted (sum + length s)

  -- the whole package, whatever its length
  unfoldable pub packaged : (kind : ℕ) (ids : Octets) → Answer Octets
  packaged kind ids = do
    os ← write_each cs specifiers table source
    accepted (package_octets kind ids os)

  -- and where it is not too long and has room
  unfoldable pub lodged : (kind : ℕ) (ids : Octets) (room : ℕ) → Answer Octets
  lodged kind ids room = do
    os ← write_each cs specifiers table source
    laid_down kind ids os room

-- the specifiers from that of component `i` on
unfoldable pub left_at : (i specifiers : ℕ) → ℕ
left_at zero specifiers = specifiers
left_at (suc i) specifiers = left_at i specifiers / 256

module _ (xs : List ℕ) (specifiers : ℕ) (table : List ℕ) (source : Octets) where
  -- what is weighed of component `i`
  abbrev pub weighing_at : (i : ℕ) → Answer Sizes
  weighing_at i =
      let o = outline_for (part_in (get_or xs i 0)) (left_at i specifiers % 256) in
      weighing_sizes o.kind o.id o.code o.all (drop (table_size * i) table) source

  -- the octets of the parameters are noted of each of the first `n`
  abbrev pub Noted : (n : ℕ) (sets : List ℕ) → Type 0
  Noted n sets = (i : ℕ) → i < n → (z : Sizes) × (weighing_at i ≡ accepted z) × (get_or sets i 0 ≡ z.set)

  -- and of all, where all were weighed
  abbrev pub AllNoted : (sets : List ℕ) → Result ℕ F.Refusal → Type 0
  AllNoted sets (Ok octets) = Noted (length xs) sets
  AllNoted sets (Err r) = Unit {0}

-- what is told of octets that are to be written, and what the output is afterwards
abbrev pub Outcome : (out : Octets) → Answer Octets → (answer : Answer ℕ) (after : Octets) → Type 0
Outcome out a answer after = (answer ≡ written a) × (after ≡ output_after out a)

-- octets for which there is room
abbrev pub Fits : Answer Octets → (room : ℕ) → Type 0
Fits a room = (n : ℕ) × (written a ≡ accepted n) × (n ≤ room)
