-- Octets are numbers below 256, in a list; a part of them; a choice by a test.
use Rattle.std.specs.Prelude.{ℕ, ◌-◌, ◌<◌, Bool, true, false, List, take, drop, get_or}

abbrev pub Octets : Type 0
Octets = List ℕ

-- what a slice of octets gives
abbrev pub AreOctets : Octets → Type 0
AreOctets s = (i : ℕ) → get_or s i 0 < 256

abbrev pub if : {A : Type 0} → Bool → A → A → A
if true a b = a
if false a b = b

-- the octets from `from` up to `to`
abbrev pub between : (from to : ℕ) → Octets → Octets
between from to s = take (to - from) (drop from s)
