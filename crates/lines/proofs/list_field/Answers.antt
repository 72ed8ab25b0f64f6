-- `lines::list_field` meets its contract.
use Rattle.std.proofs.Common.{sym, ◌∙◌, arith}
use Rattle.lines.proofs.Stepping.{cramped, skipped, item, never}
use Rattle.lines.proofs.list_field.Goals as goal

pub returns-then-not-has_room : goal.returns-then-not-has_room
returns-then-not-has_room g c =
    let laws = g.met.S.Subject in
    let said =
    cramped g.S.Subject.subject c.args.kept _ _ _ _ (c.LONGEST.ensures ∙ laws.longest_is) c.has_room.ensures
    c.if-not-has_room.true in
    record { answer = said.0; table = said.1; text = said.2; within = tt }

pub returns-then-tag-TAG : goal.returns-then-tag-TAG
returns-then-tag-TAG g c =
    let laws = g.met.S.Subject in
    let said =
    skipped g.S.Subject.subject c.args.kept _ _ _ _ (c.LONGEST.ensures ∙ laws.longest_is) c.has_room.ensures
    c.if-not-has_room.false (c.TAG.ensures ∙ laws.tag_is) c.after-behind.ensures (c.TAG-2.ensures ∙ laws.tag_is)
    c.if-tag-TAG.true in
    record { answer = said.0.0; table = said.0.1; text = said.0.2; within = said.1 }

pub returns-in_err-next : goal.returns-in_err-next
returns-in_err-next g c =
    let laws = g.met.S.Subject in
    absurd (never g.S.Subject.subject c.args.kept _ _ _ _ (c.LONGEST.ensures ∙ laws.longest_is) c.has_room.ensures
    c.if-not-has_room.false (c.TAG.ensures ∙ laws.tag_is) c.after-behind.ensures (c.TAG-2.ensures ∙ laws.tag_is)
    c.if-tag-TAG.false c.write_item.ensures.short (sym c.in_err-next.was ∙ c.write_item.ensures.lines))

pub returns : goal.returns
returns g c =
    let laws = g.met.S.Subject in
    let said =
    item g.S.Subject.subject c.args.kept _ _ _ _ (c.LONGEST.ensures ∙ laws.longest_is) c.has_room.ensures
    c.if-not-has_room.false (c.TAG.ensures ∙ laws.tag_is) c.after-behind.ensures (c.TAG-2.ensures ∙ laws.tag_is)
    c.if-tag-TAG.false c.write_item.ensures.short (sym c.in_ok-next.was ∙ c.write_item.ensures.lines) c.write_item.ensures.table
    c.write_item.ensures.out in
    record { answer = said.0.0; table = said.0.1; text = said.0.2; within = omega (arith, said.1, c.write_item.auto.out) }
