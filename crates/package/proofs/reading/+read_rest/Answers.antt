-- `package::read_rest` meets its contract.
use Prim.Native.Nat.{◌-◌, ◌/◌, ◌%◌}
use mathlib.Core.Path.{refl, sym, ap, ◌∙◌}
use lib.ListN.{length, length-drop}
use Rattle.element.specs.Octets.{AreOctets}
use Rattle.operation.specs.Reading.{table_after}
use Rattle.package.specs.Reading.{Placed}
use Rattle.package.specs.inner.Leftover.{leftover, done, tables_rest, places_rest, summaries_rest}
use Rattle.package.proofs.Left.{leads_on, stops, refusing, continues, none_left, all_done, not_done}
use Rattle.package.proofs.Filling.{table_shown, place_shown, summary_shown, unchanged}
use native.Mathlib.Omega.{arith}
use borrow.Author.Rules.{part_to_end}
use borrow.Rule.Slice.PartMut.{same_len_mid}
use Rattle.package.proofs.reading.+read_rest.Goals as goal

pub returns-then-left-eq0 : goal.returns-then-left-eq0
returns-then-left-eq0 t c = rw c.if-left-eq0.true (none_left _ _ _ _ _ c.close.ensures _ _ _)

pub end_of-end-requires : goal.end_of-end-requires
end_of-end-requires t c =
    let s = c.args.octets.now in
    let o : AreOctets s = λ i. (c.shared_slice_known-1.given i).fits in
    let first = leads_on s o c.args.left c.if-left-eq0.false c.requires.0 in
    (first.inside, c.requires.1)

pub slice_bounds-summarize-end : goal.slice_bounds-summarize-end
slice_bounds-summarize-end t c =
    let s = c.args.octets.now in
    let o : AreOctets s = λ i. (c.shared_slice_known-1.given i).fits in
    let first = leads_on s o c.args.left c.if-left-eq0.false c.requires.0 in
    omega (arith, c.end_of-end.ensures _ first.found, first.held.inside)

pub returns-in-Err : goal.returns-in-Err
unfolding done tables_rest places_rest summaries_rest
returns-in-Err t c =
    let a = c.args in
    let s = a.octets.now in
    let o : AreOctets s = λ i. (c.shared_slice_known-1.given i).fits in
    let first = leads_on s o a.left c.if-left-eq0.false c.requires.0 in
    rw
    (stops a.packet s c.if-left-eq0.false c.requires.0.some first a.specifiers a.wrong
    (refusing s o c.requires.1 first (a.specifiers % 256) (omega arith) (c.end_of-end.ensures _ first.found)
    c.in-Err.ensures.refused))
    (refl, refl, refl, refl)

pub first_wrong-wrong-requires : goal.first_wrong-wrong-requires
first_wrong-wrong-requires t c =
    let s = c.args.octets.now in
    let o : AreOctets s = λ i. (c.shared_slice_known-1.given i).fits in
    let first = leads_on s o c.args.left c.if-left-eq0.false c.requires.0 in
    omega (arith, first.inside, c.requires.1)

pub read_rest-requires : goal.read_rest-requires
read_rest-requires t c =
    let a = c.args in
    let s = a.octets.now in
    let o : AreOctets s = λ i. (c.shared_slice_known-1.given i).fits in
    let first = leads_on s o a.left c.if-left-eq0.false c.requires.0 in (
      omega (arith, c.if-left-eq0.false),
      (
        rw (c.end_of-end.ensures _ first.found) first.rest,
        c.requires.1,
        rw (part_to_end a.table.now 320) (omega (arith, length-drop 320 a.table.now, c.requires.2, c.if-left-eq0.false)),
        rw (part_to_end a.places.now 1) (omega (arith, length-drop 1 a.places.now, c.requires.3, c.if-left-eq0.false)),
        rw (part_to_end a.summaries.now 1) (omega (arith, length-drop 1 a.summaries.now, c.requires.4, c.if-left-eq0.false)),
      ),
    )

pub show-requires : goal.show-requires
show-requires t c =
    let a = c.args in
    let s = a.octets.now in
    let o : AreOctets s = λ i. (c.shared_slice_known-1.given i).fits in
    let first = leads_on s o a.left c.if-left-eq0.false c.requires.0 in
    let r = c.read_rest in (
      omega (arith, first.inside, c.requires.1),
      omega (arith, same_len_mid 1 (length a.places.now - 1) a.places.now r.new.places r.auto.places, c.requires.3, c.if-left-eq0.false),
      omega (arith, same_len_mid 1 (length a.summaries.now - 1) a.summaries.now r.new.summaries r.auto.summaries, c.requires.4, c.if-left-eq0.false),
    )

-- the entries of the component that was read are shown in front of those behind it
pub returns-in-Ok-read_rest : goal.returns-in-Ok-read_rest
unfolding done tables_rest places_rest summaries_rest table_after
returns-in-Ok-read_rest t c =
    let a = c.args in
    let s = a.octets.now in
    let o : AreOctets s = λ i. (c.shared_slice_known-1.given i).fits in
    let more = c.if-left-eq0.false in
    let first = leads_on s o a.left more c.requires.0 in
    let k = continues a.packet s o c.requires.1 more c.requires.0.some first a.specifiers a.wrong
    (c.end_of-end.ensures _ first.found) c.in-Ok.ensures.accepted (rw (c.outline_of-outline.ensures.0, ap (λ x. x.first) c.outline_of-outline.ensures.2) at c.first_wrong-wrong.ensures) in
    let r = c.in-Ok-read_rest.ensures in
    let (ys, e) = all_done (leftover a.packet s c.end_of-end.result (a.left - 1) (a.specifiers / 256) c.first_wrong-wrong.result) (sym r.0) in
    let y : Placed = record { place = a.at; shown = k.shown } in
    rw (k.is, e) (
      refl,
      table_shown e y _ a.table.now r.1 c.show.ensures.0 (sym (ap (λ x. x.all) k.told_so)) k.few (omega (arith, c.requires.2, more)) (c.in-Ok.ensures.table ∙ ap (table_after _) k.read) c.summarize.auto.table,
      place_shown e y a.places.now (omega (arith, c.requires.3, more)) r.2 c.show.ensures.1,
      summary_shown e y a.summaries.now (omega (arith, c.requires.4, more)) k.packed r.3 c.show.ensures.2,
    )

pub returns-in-Err-read_rest : goal.returns-in-Err-read_rest
unfolding done tables_rest places_rest summaries_rest
returns-in-Err-read_rest t c =
    let a = c.args in
    let s = a.octets.now in
    let o : AreOctets s = λ i. (c.shared_slice_known-1.given i).fits in
    let more = c.if-left-eq0.false in
    let first = leads_on s o a.left more c.requires.0 in
    let k = continues a.packet s o c.requires.1 more c.requires.0.some first a.specifiers a.wrong
    (c.end_of-end.ensures _ first.found) c.in-Ok.ensures.accepted (rw (c.outline_of-outline.ensures.0, ap (λ x. x.first) c.outline_of-outline.ensures.2) at c.first_wrong-wrong.ensures) in
    let r = c.in-Err-read_rest.ensures in
    let e = not_done (leftover a.packet s c.end_of-end.result (a.left - 1) (a.specifiers / 256) c.first_wrong-wrong.result) (sym r.0) in
    rw (k.is, e) (
      refl,
      unchanged 320 a.table.now (omega (arith, c.requires.2, more)) (r.1 ∙ rw e refl),
      unchanged 1 a.places.now (omega (arith, c.requires.3, more)) (r.2 ∙ rw e refl),
      unchanged 1 a.summaries.now (omega (arith, c.requires.4, more)) (r.3 ∙ rw e refl),
    )
