-- `lines::rows::put` meets its contract.
use Rattle.lines.proofs.Putting.{fits, spills}
use Rattle.lines.proofs.rows.put.Goals as goal

pub returns-then-not-has_room : goal.returns-then-not-has_room
returns-then-not-has_room c = spills _ _ _ c.has_room.ensures c.if-not-has_room.true

pub returns : goal.returns
returns c = fits _ _ _ c.has_room.ensures c.if-not-has_room.false c.copy_from_slice.ensures.after
