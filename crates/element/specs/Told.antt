-- What an answer of the code tells: a value, or the paper's number and detail.
use Rattle.std.specs.Prelude.{ℕ, Result, Ok, Err}
use Rattle.element.specs.declared.refusal.Reason as R
use Rattle.element.specs.declared.refusal.Reason.TheVariants as RV
use Rattle.element.specs.declared.refusal.Refusal as F
use Rattle.element.specs.Answer.{Answer, accepted, refused}

abbrev pub number_of : R.Reason → ℕ
number_of RV.Table = 1
number_of RV.Size = 2
number_of RV.Type = 3
number_of RV.Length = 4
number_of RV.Overrun = 5
number_of RV.Id = 6
number_of RV.Operation = 7
number_of RV.Set = 8
number_of RV.Identifier = 9
number_of RV.Many = 10
number_of RV.NoRow = 11
number_of RV.Again = 12
number_of RV.Missing = 13
number_of RV.Both = 14
number_of RV.TooLong = 15
number_of RV.Entry = 16
number_of RV.Output = 17
number_of RV.LeftOver = 20
number_of RV.Problem = 21
number_of RV.Layout = 22
number_of RV.Count = 23
number_of RV.Package = 24
number_of RV.Ended = 25
number_of RV.WrongSize = 26

abbrev pub told : {A B : Type 0} → (A → B) → Result A F.Refusal → Answer B
told f (Ok a) = accepted (f a)
told f (Err r) = refused (number_of r.reason) r.detail
