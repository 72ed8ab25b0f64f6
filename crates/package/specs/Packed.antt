-- A package reader's answer as one number of eight octets, the least significant first: put together for C, and taken
-- apart as the functions of include/roadquill.h do it.
use Rattle.std.specs.Prelude.{ℕ, ◌+◌, ◌*◌, ◌%◌, ◌/◌, ◌<◌, ◌≡◌, List, [], ◌∷◌, eqb}
use Rattle.element.specs.Octets.{Octets, AreOctets, if}
use Rattle.element.specs.Answer.{Answer, accepted, refused}
use Rattle.operation.specs.Packed.{octets, number_with, octet_at, detail_in, RefusalFits}
use Rattle.package.specs.Told.{Envelope, outlined}
use Rattle.package.specs.Model.{reader}

-- 0, the type, the count of transaction ID octets, their place in two octets, the count of components
abbrev pub envelope_octets : Envelope → Octets
envelope_octets x = 0 ∷ x.kind ∷ x.size ∷ x.ids % 256 ∷ x.ids / 256 ∷ x.count ∷ []

unfoldable pub packed_package : Answer Envelope → ℕ
packed_package (accepted x) = octets (envelope_octets x)
packed_package (refused n d) = number_with n d

abbrev pub envelope_in : ℕ → Envelope
envelope_in r =
    record {
      kind = octet_at r 1;
      ids = octet_at r 3 + 256 * octet_at r 4;
      size = octet_at r 2;
      count = octet_at r 5;
    }

unfoldable pub unpacked_package : ℕ → Answer Envelope
unpacked_package r = if (eqb (octet_at r 0) 0) (accepted (envelope_in r)) (refused (octet_at r 0) (detail_in r))

-- what fits
abbrev pub PackageFits : Answer Envelope → Type 0
PackageFits (accepted x) = (x.kind < 256) × (x.size < 256) × (x.ids < 65536) × (x.count < 256)
PackageFits (refused n d) = RefusalFits n d

-- every answer of ours can be taken apart
unfoldable pub Apart : Type 0
Apart = (s : Octets) (specifiers : ℕ) (t : List ℕ) → AreOctets s →
    unpacked_package (packed_package (outlined (reader s specifiers t).answer)) ≡
    outlined (reader s specifiers t).answer
