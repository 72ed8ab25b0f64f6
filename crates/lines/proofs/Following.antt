-- Fields listed one behind another are the listing of their list.
use Rattle.std.proofs.Common.{◌≡◌, ℕ, ◌+◌, ◌≤◌, List, [], ◌∷◌, ◌++◌, length, take, sym, append_assoc, append-nil, arith, length-append, length-take-le, take_at, le-leb}
use Rattle.element.specs.Octets.{Octets}
use Rattle.element.specs.Field.{put}
use Rattle.lines.specs.declared.Kept as K
use Rattle.lines.specs.Listing.{Subject, Tagged, after, lines_for, listing, text_left}

module _ (x : Subject) where
  unfoldable pub after_all : K.Kept → List Tagged → K.Kept
  after_all kept [] = kept
  after_all kept (f ∷ fs) = after_all (after x.tag kept f) fs

  pub one_more : (room : ℕ) (kept : K.Kept) (fs : List Tagged) (f : Tagged) →
      listing x room kept (fs ++ f ∷ []) ≡ listing x room kept fs ++ lines_for x room (after_all kept fs) f
  unfolding listing after_all
  one_more room kept [] f = append-nil _
  one_more room kept (g ∷ fs) f =
      rw (one_more room (after x.tag kept g) fs f) (sym (append_assoc (lines_for x room kept g) _ _))

  -- lines that wait in a text, and those of one item more behind them
  pub waits : (kept : K.Kept) (fs : List Tagged) (f : Tagged) (at : ℕ) (table : List ℕ) (text : Octets) → at + x.longest ≤ length text →
      take at text ≡ listing x (length table) kept fs →
      take (at + length (lines_for x (length table) (after_all kept fs) f)) (text_left x (after_all kept fs) f at table text)
      ≡ listing x (length table) kept (fs ++ f ∷ [])
  unfolding text_left put
  waits kept fs f at table text h e =
      let lines = lines_for x (length table) (after_all kept fs) f in
      rw (one_more (length table) kept fs f, ← e)
      (simp (le-leb (at + x.longest) (length text) h)
      (take_at (take at text ++ lines) _ (at + length lines) (simp (length-append, length-take-le at text (omega arith)))))
