-- The laws of octets written where there is room.
use Rattle.std.proofs.Common.{◌≡◌, ℕ, ◌+◌, ◌-◌, Bool, true, false, nat_le, Result, Ok, Err, length, take, drop, sym, ◌∙◌, append_assoc, arith, drop-drop}
use borrow.Rule.Slice.PartMut.{put_mid}
use Rattle.element.specs.Octets.{Octets}
use Rattle.element.specs.Field.{put, output_after}
use Rattle.lines.specs.declared.NoRoom as N
use Rattle.lines.specs.Line.{no_room, line_written}

module _ (line : Octets) (at : ℕ) (out : Octets) where
  -- a part of the output that is overwritten with the line
  part : {k : ℕ} → k ≡ length line → {now : Octets} → now ≡ line → put_mid at k out now ≡ put line at out
  unfolding put
  part e f = rw (e, f, drop-drop (length line) at out) (sym (append_assoc (take at out) line (drop (at + length line) out)))

  module _ {room : Bool} (is : room ≡ nat_le (at + length line) (length out)) where
    pub fits : room ≡ true → {now : Octets} → now ≡ line →
        (Ok (at + length line) ≡ line_written line at out) × (put_mid at (at + length line - at) out now ≡ output_after line at out)
    unfolding line_written output_after
    fits e f = let there = sym is ∙ e in (simp there, part (omega arith) f ∙ simp there)

    pub spills : room ≡ false → (Err no_room ≡ line_written line at out) × (out ≡ output_after line at out)
    unfolding line_written output_after
    spills e = let there = sym is ∙ e in (simp there, simp there)

-- the same octets, by another name
pub named : (at : ℕ) (out : Octets) {x line : Octets} → x ≡ line → {w : Result ℕ N.NoRoom} {after : Octets} →
    (w ≡ line_written x at out) × (after ≡ output_after x at out) → (w ≡ line_written line at out) × (after ≡ output_after line at out)
named at out e p = rw e at p
