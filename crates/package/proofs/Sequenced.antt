-- The component sequence of a package: its components are counted, and then read as what is left of it.
use Prim.Native.Nat.{ℕ, zero, suc, ◌+◌, ◌/◌, ◌%◌, ◌<◌}
use mathlib.Core.Path.{◌≡◌, refl, sym, ap, subst, ◌∙◌}
use mathlib.Core.Bool.{Bool, true, false}
use mathlib.Core.List.{List, [], ◌∷◌}
use lib.ListN.{length, get_or, take}
use lib.Dec.{leb}
use native.Mathlib.Omega.{arith}
use Rattle.std.specs.Prelude.{None}
use Rattle.element.specs.Octets.{Octets}
use Rattle.element.specs.Answer.{Answer, accepted, refused, ◌>>=◌, ◌>>◌}
use Rattle.component.specs.Layout.{Span, span, contents}
use Rattle.component.proofs.Taken.{taken, stopped}
use Rattle.operation.specs.Reading.{reading_from}
use Rattle.operation.proofs.Again.{inner}
use Rattle.package.specs.Layout.{Opening, layout_fault, components_from, all_from}
use Rattle.package.specs.Reading.{Placed, read_each, carried_in, Packet, few, sequence_reading}
use Rattle.package.specs.inner.Opened.{counted}
use Rattle.package.specs.inner.Leftover.{Stand, closing, leftover}

-- as many as there are, and no more are asked for
one_more : (s : Octets) (at : ℕ) {x : Span} {xs : List Span} → leb (length s) at ≡ false → layout_fault (contents s at (at + 1) (length s)) ≡ accepted x →
    components_from (length xs) s x.end ≡ accepted xs → components_from (length (span at x.end ∷ xs)) s at ≡ accepted (span at x.end ∷ xs)
unfolding components_from
one_more s at f p u = rw (f, p, u)

no_more : (s : Octets) (most at : ℕ) {xs : List Span} → components_from most s at ≡ accepted xs → components_from (length xs) s at ≡ accepted xs
unfolding components_from
no_more s zero at e = rw (← inner e) refl
no_more s (suc most) at {xs} e = go (leb (length s) at) refl λ x ys. no_more s most x {xs = ys}
  where
    go : (t : Bool) → leb (length s) at ≡ t → ((x : ℕ) (ys : List Span) → components_from most s x ≡ accepted ys → components_from (length ys) s x ≡ accepted ys) →
        components_from (length xs) s at ≡ accepted xs
    go true f more = let p = inner (rw f at e) in rw (← p) refl
    go false f more =
        let (x, p, q) = taken (layout_fault (contents s at (at + 1) (length s))) (rw f at e) in
        let (ys, u, v) = taken (components_from most s x.end) q in
        subst (λ xs. components_from (length xs) s at ≡ accepted xs) (inner v) (one_more s at f p (more x.end ys u))

as_many : (s : Octets) (xs : List Span) (specifiers : ℕ) {ys : List Placed} → read_each s xs specifiers ≡ accepted ys → length ys ≡ length xs
unfolding read_each
as_many s [] specifiers e = sym (ap length (inner e))
as_many s (x ∷ xs) specifiers e =
    let (y, p, q) = taken (reading_from (take x.end s) x.start (specifiers % 256)) e in
    let (ys, u, v) = taken (read_each s xs (specifiers / 256)) q in
    omega (arith, ap length (inner v), as_many s xs (specifiers / 256) u)

module _ (s : Octets) (specifiers : ℕ) (o : Opening) where
  abbrev packet : List Placed → Packet
  packet ys = record { kind = get_or s 0 0; ids = o.ids; components = ys }

  pub faulty : {n d : ℕ} → counted s o.first ≡ refused n d → sequence_reading s specifiers o ≡ refused n d
  unfolding counted sequence_reading
  faulty e = stopped (all_from s o.first) length _ e

  module _ {n : ℕ} (e : counted s o.first ≡ accepted n) where
    -- the spans that were counted
    walked : (xs : List Span) × (all_from s o.first ≡ accepted xs) × (length xs ≡ n)
    unfolding counted
    walked = let (xs, p, q) = taken (all_from s o.first) e in (xs, p, inner q)

    pub stands : 0 < o.first → Stand s o.first n
    unfolding all_from
    stands h = let (xs, p, q) = walked in record { some = h; spans = xs; walked = rw q at (no_more s (length s) o.first p); all = q }

    pub miscounted : few n ≡ false → sequence_reading s specifiers o ≡ refused 23 o.sequence
    unfolding sequence_reading
    miscounted h = let (xs, p, q) = walked in rw (p, q, h)

    pub read_whole : few n ≡ true → sequence_reading s specifiers o ≡ (leftover (get_or s 0 0) s o.first n specifiers None >>= λ ys. accepted (packet ys))
    unfolding sequence_reading leftover closing all_from
    read_whole h =
        let (xs, p, q) = walked in
        let w = rw q at (no_more s (length s) o.first p) in
        rw (p, q, h, w) (go (read_each s xs specifiers))
      where
        go : (a : Answer (List Placed)) → (a >>= λ ys. carried_in (get_or s 0 0) ys specifiers >> accepted (packet ys)) ≡
            ((a >>= λ ys. carried_in (get_or s 0 0) ys specifiers >> accepted ys) >>= λ ys. accepted (packet ys))
        go (accepted ys) = each (carried_in (get_or s 0 0) ys specifiers)
          where
            each : (b : Answer Unit) → (b >> accepted (packet ys)) ≡ ((b >> accepted ys) >>= λ ys. accepted (packet ys))
            each (accepted u) = refl
            each (refused m d) = refl
        go (refused m d) = refl

    -- as many are answered as were counted
    pub all_read : {ys : List Placed} → leftover (get_or s 0 0) s o.first n specifiers None ≡ accepted ys → length ys ≡ n
    unfolding leftover all_from
    all_read f =
        let (xs, p, q) = walked in
        let (zs, u, v) = taken (components_from n s o.first) f in
        let (ys, r, c) = taken (read_each s zs specifiers) v in
        let (_, _, d) = taken (closing None) c in
        let (_, _, same) = taken (carried_in (get_or s 0 0) ys specifiers) d in
        let again = inner (sym (rw q at (no_more s (length s) o.first p)) ∙ u) in
        omega (arith, as_many s zs specifiers r, ap length (inner same), ap length again)
