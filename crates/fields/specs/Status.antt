-- The status of a program whose listing is not whole.
use Rattle.std.specs.Prelude.{ℕ}
use Rattle.fields.specs.declared.failure.Failure.{Failure}
use Rattle.fields.specs.declared.failure.Failure.TheVariants.{Unread, Unwritten}

abbrev pub status_of : Failure → ℕ
status_of (Unread _) = 1
status_of (Unwritten _) = 4

-- it is the writing that failed
abbrev pub IsUnwritten : Failure → Type 0
IsUnwritten (Unwritten _) = Unit {0}
IsUnwritten (Unread _) = ⊥
