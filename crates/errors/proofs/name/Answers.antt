-- `errors::name` meets its contract: each way out is one law of `Parts`.
use borrow.Author.Rules.{rules}
use Rattle.errors.proofs.Parts.{starts, low, high, lined}
use Rattle.errors.proofs.name.Goals as goal
use Rattle.errors.proofs.name.Goals.{then-code-lt129-via-then-code-lt129, then-code-lt129-via-else-code-lt129+then-code-gt142}

pub returns-then-code-lt129 : goal.returns-then-code-lt129
returns-then-code-lt129 c =
    elim c.then-code-lt129.branch [ then-code-lt129-via-then-code-lt129 w ↦ low _ (search rules) w.if-code-lt129.true | then-code-lt129-via-else-code-lt129+then-code-gt142 w ↦ high _ (search rules) w.if-code-gt142.true ]

pub overflow_sub-result : goal.overflow_sub-result
unfolding starts
overflow_sub-result c =
    rw (c.from-start.ensures, c.from-end.ensures, c.from-line.ensures)
    (lined _ (search rules) c.if-code-lt129.false c.if-code-gt142.false).0

pub returns : goal.returns
unfolding starts
returns c =
    rw (c.from-start.ensures, c.from-end.ensures, c.from-line.ensures)
    (lined _ (search rules) c.if-code-lt129.false c.if-code-gt142.false).1
