-- A package written with each length at its shortest is never longer than what lays it out; it is as long only where each
-- length of the layout is the shortest, and there it is the same.
use mathlib.Core.List.{List, [], map, flatten}
use Rattle.element.specs.Octets.{Octets}
use Rattle.component.specs.Grammar.{Component}
use Rattle.component.specs.Composed.{composed}
use Rattle.component.proofs.Shortening.{Shorter, itself, beside, element_shorter, put_so, shorter}
use Rattle.package.specs.Grammar.{Package, Sequence, Packaged}
use Rattle.package.specs.Writing.{package_octets}
use Rattle.package.specs.Demands.{LaidAll, ShortestAll, ShortestPackage}

sequence_shorter : {os : List Octets} {s : Octets} {cs : List Component} → Sequence os s → (l : LaidAll os cs) → Shorter (flatten (map composed cs)) s (ShortestAll l)
unfolding flatten ShortestAll
sequence_shorter Sequence.none LaidAll.none = itself []
sequence_shorter (Sequence.more w q) (LaidAll.more h l) = beside (shorter h) (sequence_shorter q l)

pub package_shorter : {p : Package} {s : Octets} (h : Packaged p s) {cs : List Component} (l : LaidAll p.components cs) →
    Shorter (package_octets p.kind p.ids (map composed cs)) s (ShortestPackage h l)
unfolding package_octets
package_shorter {p} h l =
    put_so
    (λ (w, ((i, _), (q, c))). record { ids = i; components = c; sequence = q; whole = w })
    (λ k. (k.whole, ((k.ids, tt), (k.sequence, k.components))))
    (element_shorter h.whole
    (beside (element_shorter h.identified (itself p.ids))
    (element_shorter h.sequenced (sequence_shorter h.components l))))
