-- An answer as one number of eight octets, the least significant first: put together for C, and taken apart as the
-- functions of include/roadquill.h do it.
use Rattle.std.specs.Prelude.{ℕ, zero, suc, ◌+◌, ◌*◌, ◌-◌, ◌/◌, ◌%◌, ◌<◌, ◌≤◌, ◌≡◌, List, [], ◌∷◌, get_or, eqb}
use Rattle.element.specs.Octets.{Octets, AreOctets, if}
use Rattle.element.specs.Answer.{Answer, accepted, refused}
use Rattle.operation.specs.Caller.{Told, Order}
use Rattle.operation.specs.Model.{reader, writer}

-- ---- put together: the answer's number, then what goes with it
unfoldable pub octets : Octets → ℕ
octets [] = 0
octets (x ∷ xs) = x + 256 * octets xs

-- the number of an answer, and its detail or the count of octets written
abbrev pub number_with : (number detail : ℕ) → ℕ
number_with number detail = number + 256 * detail

-- the counts, of ID octets and of all and of named parameters, in octets 6 and 7
abbrev pub counts_of : (id all named : ℕ) → ℕ
counts_of id all named = 16384 * id + 128 * all + named

abbrev pub told_octets : Told → Octets
told_octets x = 0 ∷ x.kind ∷ x.id.first ∷ x.id.second ∷ x.code.first ∷ x.code.second ∷ []

unfoldable pub packed_reading : Answer Told → ℕ
packed_reading (accepted x) = octets (told_octets x) + 281474976710656 * counts_of x.id.count x.all x.named
packed_reading (refused n d) = number_with n d

unfoldable pub packed_writing : Answer ℕ → ℕ
packed_writing (accepted count) = number_with 0 count
packed_writing (refused n d) = number_with n d

-- ---- taken apart: octet `i`, 0 the least significant
unfoldable pub octet_at : (result i : ℕ) → ℕ
octet_at r zero = r % 256
octet_at r (suc i) = octet_at (r / 256) i

-- octets 1 to 4
abbrev pub detail_in : ℕ → ℕ
detail_in r = r / 256 % 4294967296

-- octets 6 and 7
abbrev pub counts_in : ℕ → ℕ
counts_in r = r / 281474976710656

abbrev pub told_in : ℕ → Told
told_in r =
    record {
      kind = octet_at r 1;
      id = record { count = counts_in r / 16384; first = octet_at r 2; second = octet_at r 3 };
      code = record { first = octet_at r 4; second = octet_at r 5 };
      all = counts_in r / 128 % 128;
      named = counts_in r % 128;
      other = counts_in r / 128 % 128 - counts_in r % 128;
    }

unfoldable pub unpacked_reading : ℕ → Answer Told
unpacked_reading r = if (eqb (octet_at r 0) 0) (accepted (told_in r)) (refused (octet_at r 0) (detail_in r))

unfoldable pub unpacked_writing : ℕ → Answer ℕ
unpacked_writing r = if (eqb (octet_at r 0) 0) (accepted (detail_in r)) (refused (octet_at r 0) (detail_in r))

-- ---- what fits: an octet for each number, two for the counts, and four for a detail or a count of octets; a refusal's
-- number is not 0
pub record RefusalFits (number detail : ℕ) : Type 0 where
  pub some : 0 < number
  pub octet : number < 256
  pub four : detail < 4294967296

abbrev pub ReadingFits : Answer Told → Type 0
ReadingFits (accepted x) =
    AreOctets (told_octets x) × (x.id.count ≤ 2) × (x.all ≤ 64) × (x.named + x.other ≡ x.all)
ReadingFits (refused n d) = RefusalFits n d

abbrev pub WritingFits : Answer ℕ → Type 0
WritingFits (accepted count) = count < 4294967296
WritingFits (refused n d) = RefusalFits n d

-- what a slice of 16-bit numbers gives
abbrev pub AreNumbers : List ℕ → Type 0
AreNumbers t = (i : ℕ) → get_or t i 0 < 65536

-- ---- every answer of ours can be taken apart: what C gets out of the number is what was said
pub record Apart : Type 0 where
  pub reading : (s : Octets) (given : ℕ) (t : List ℕ) → AreOctets s → given < 256 →
      unpacked_reading (packed_reading (reader s given t).answer) ≡ (reader s given t).answer
  pub writing : (o : Order) (out : Octets) → AreNumbers o.table →
      unpacked_writing (packed_writing (writer o out).answer) ≡ (writer o out).answer
