-- The laws of a field listed into a lent text: no room; a field that is skipped; an item.
use Rattle.std.proofs.Common.{◌≡◌, ℕ, zero, suc, ◌+◌, ◌/◌, ◌%◌, ◌≤◌, Bool, true, false, eqb, ltb, List, [], ◌∷◌, ◌++◌, length, nat_le, Result, Ok, Err, sym, refl, ◌∙◌, add-zero, arith, length-append, eq-eqb, ne_eqb, le-leb, leb-true}
use Rattle.element.specs.Octets.{Octets, if}
use Rattle.element.specs.Answer.{Answer, accepted, refused}
use Rattle.element.specs.Field.{output_after}
use Rattle.element.proofs.FieldLaws.{put_none, roomy}
use Rattle.operation.specs.Caller.{Told}
use Rattle.lines.specs.declared.Kept as K
use Rattle.lines.specs.declared.Listed as S
use Rattle.lines.specs.declared.NoRoom as N
use Rattle.lines.specs.Decimal.{digits, decimal}
use Rattle.lines.specs.Line.{cell, row, longest, line_of, no_room, line_written}
use Rattle.lines.specs.Listing.{Subject, Tagged, after, lines_for, listed, table_left, text_left}

-- ---- no line is longer than the longest
few : (most n : ℕ) → length (digits most n) ≤ most
unfolding digits
few zero n = omega arith
few (suc k) n = either (ltb n 10) (few k (n / 10))
  where
    either : (b : Bool) → length (digits k (n / 10)) ≤ k → length (if b ((48 + n) ∷ []) (digits k (n / 10) ++ (48 + n % 10) ∷ [])) ≤ suc k
    either true h = omega arith
    either false h = simp length-append (omega arith)

short : (number mark : ℕ) → length (cell number mark) ≤ 21
unfolding cell decimal
short number mark = simp length-append (omega (arith, few 20 number))

pub row_short : (item answer detail named other : ℕ) → length (row item answer detail named other) ≤ longest
unfolding row
row_short item answer detail named other =
    simp length-append (omega (arith, short item 32, short answer 32, short detail 32, short named 32, short other 10))

pub line_short : (item : ℕ) (a : Answer Told) → length (line_of item a) ≤ longest
unfolding line_of
line_short item (accepted t) = row_short item 0 0 t.named t.other
line_short item (refused n d) = row_short item n d 0 0

-- ---- a step, whose code has the subject's longest text and its tag as numbers
module _ (x : Subject) (kept : K.Kept) (f : Tagged) (at : ℕ) (table : List ℕ) (text : Octets) where
  abbrev Outcome : Result S.Listed N.NoRoom → List ℕ → Octets → Type 0
  Outcome answer table' text' =
      (answer ≡ listed x kept f at table text) × (table' ≡ table_left x kept f at table text) × (text' ≡ text_left x kept f at table text)

  module _ {longest : ℕ} (l : longest ≡ x.longest) {room : Bool} (is : room ≡ nat_le (at + longest) (length text)) where
    said : {b : Bool} → room ≡ b → nat_le (at + x.longest) (length text) ≡ b
    said e = rw (← l) (sym is ∙ e)

    pub cramped : room ≡ false → Outcome (Err no_room) table text
    unfolding listed table_left text_left
    cramped e = simp (said e) (refl, refl, refl)

    module _ (there : room ≡ true) where
      fits : nat_le (at + x.longest) (length text) ≡ true
      fits = said there

      some : at + x.longest ≤ length text
      some = leb-true _ _ fits

      module _ {tag : ℕ} (t : tag ≡ x.tag) {behind : K.Kept} (b : behind ≡ after tag kept f) where
        e : behind ≡ after x.tag kept f
        e = rw (← t) b

        pub skipped : {listed : ℕ} → listed ≡ x.tag → (f.tag ≡ listed → ⊥) → Outcome (Ok (record { kept = behind; at = at })) table text × (at ≤ length text)
        unfolding listed table_left text_left lines_for
        skipped same not_one =
            let other = ne_eqb f.tag x.tag (rw same at not_one) in
            ((simp (fits, other, e, add-zero), simp (fits, other), simp (fits, other, put_none)), omega (arith, some))

        module _ {listed_tag : ℕ} (same : listed_tag ≡ x.tag) (one : f.tag ≡ listed_tag)
            (short : length (x.lines behind.item kept.specifier (length table) f.contents) ≤ x.longest) where
          abbrev lines : Octets
          lines = x.lines behind.item kept.specifier (length table) f.contents

          listed_one : eqb f.tag x.tag ≡ true
          listed_one = eq-eqb f.tag x.tag (one ∙ same)

          are : lines ≡ lines_for x (length table) kept f
          unfolding lines_for
          are = simp (listed_one, e)

          roomy_lines : at + length lines ≤ length text
          roomy_lines = omega (arith, some, short)

          written : line_written lines at text ≡ Ok (at + length lines)
          unfolding line_written
          written = simp (le-leb (at + length lines) (length text) roomy_lines)

          pub never : Err no_room ≡ line_written lines at text → ⊥
          never p = let z : ◌≡◌ {A = ℕ} 0 1 = cc (p ∙ written) in omega arith

          pub item : {next : ℕ} {table' : List ℕ} {text' : Octets} → Ok next ≡ line_written lines at text →
              table' ≡ x.left kept.specifier f.contents table → text' ≡ output_after lines at text →
              Outcome (Ok (record { kept = behind; at = next })) table' text' × (next ≤ length text)
          unfolding listed table_left text_left
          item {next} w p q =
              let where_to : next ≡ at + length lines = cc (w ∙ written) in
              let so : next ≡ at + length (lines_for x (length table) kept f) = rw (← are) where_to in
              ((simp (fits, e, so), p ∙ simp (fits, listed_one), q ∙ roomy _ _ _ roomy_lines ∙ simp (fits, are)), omega (arith, roomy_lines, where_to))
