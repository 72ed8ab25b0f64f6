-- Where the parts of a head stand.
use Rattle.std.specs.Prelude.{ℕ, ◌+◌, ◌<◌, ◌≤◌}

-- in so many octets: at most two ID octets, the code with an octet behind it, and the set
abbrev pub Bounds : (start end code set size : ℕ) → Type 0
Bounds start end code set size =
    (start ≤ end) × (end ≤ start + 2) × (end ≤ size) × (code + 1 < size) × (set ≤ size)
