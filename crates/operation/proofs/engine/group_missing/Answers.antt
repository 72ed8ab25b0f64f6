-- `operation::group_missing` meets its contract: whether one of the group was noted is what the definition asks of all its members.
use mathlib.Core.Path.{sym, ◌∙◌}
use Rattle.std.proofs.Common.{rules, tests}
use Rattle.std.proofs.lemmas.Iterator.{YieldsList-from_slice}
use Rattle.std.proofs.lemmas.Iterator.Search.{any_from_yields_List}
use Rattle.operation.specs.inner.Coded.{holds}
use Rattle.operation.proofs.Musts.{one_noted, none_noted}
use Rattle.operation.proofs.engine.group_missing.Goals as goal

pub returns-then-any : goal.returns-then-any
returns-then-any c =
    one_noted _ _ (sym (any_from_yields_List (holds c.args.seen.now) _ _ c.any.result c.any.ensures.ran (YieldsList-from_slice c.args.group.now cc) (λ x b q k. search (rules, tests))) ∙ c.if-any.true)

pub returns : goal.returns
returns c =
    let e = none_noted _ _ (sym (any_from_yields_List (holds c.args.seen.now) _ _ c.any.result c.any.ensures.ran (YieldsList-from_slice c.args.group.now cc) (λ x b q k. search (rules, tests))) ∙ c.if-any.false) in
    (search rules ∙ sym e)
