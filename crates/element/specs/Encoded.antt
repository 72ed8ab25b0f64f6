-- A field handed over by value: how many octets it has, and each of them.
use Rattle.std.specs.Prelude.{◌%◌, [], ◌∷◌, length, get_or, take}
use Rattle.element.specs.declared.Field as F
use Rattle.element.specs.Octets.{Octets}

-- the value of a field of at most three; 0 where there is none
unfoldable pub field_of : Octets → F.Field
field_of s =
    record { size = length s; first = get_or s 0 0 % 256; second = get_or s 1 0 % 256; third = get_or s 2 0 % 256 }

-- and back
unfoldable pub octets_in : F.Field → Octets
octets_in f = take f.size (f.first ∷ f.second ∷ f.third ∷ [])
