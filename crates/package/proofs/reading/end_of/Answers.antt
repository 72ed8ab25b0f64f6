-- `package::end_of` meets its contract.
use Prim.Native.Nat.{ℕ}
use mathlib.Core.Path.{◌≡◌, ◌∙◌}
use native.Mathlib.Omega.{arith}
use Rattle.component.proofs.Laying.{element_within}
use Rattle.package.proofs.reading.end_of.Goals as goal

pub returns-in-Ok : goal.returns-in-Ok
returns-in-Ok c x e = let f = c.in-Ok.ensures.answer ∙ element_within _ _ c.requires.1 c.requires.0 ∙ e in cc

pub returns-in-Err : goal.returns-in-Err
returns-in-Err c x e =
    let f = c.in-Err.ensures.answer ∙ element_within _ _ c.requires.1 c.requires.0 ∙ e in
    let z : ◌≡◌ {A = ℕ} 0 1 = cc in
    absurd (omega arith)
