-- What orders 5 and 6 shut out: any package reader that satisfies the demands reads the charts as ours does, so each
-- program that reads one of these otherwise satisfies them not.
use Prim.Native.Nat.{ℕ, zero, suc}
use mathlib.Core.Path.{◌≡◌, refl, ap, ◌∙◌}
use mathlib.Core.Bool.{true}
use mathlib.Core.List.{List, [], ◌∷◌}
use Rattle.element.specs.Answer.{refused}
use Rattle.operation.proofs.Excluded.{below, are_octets}
use Rattle.package.specs.Caller.{Read, read, Reader, Writer}
use Rattle.package.specs.Demands.{Demands}
use Rattle.package.specs.Model.{OnlyOne}
use Rattle.package.specs.Charts.{Chart, zeros, reads, worked}
use Rattle.package.proofs.OnlyOne.{only_one}
use Rattle.package.proofs.Charts.{charts}

abbrev nth : {A : Type 0} → A → ℕ → List A → A
nth none i [] = none
nth none zero (x ∷ xs) = x
nth none (suc i) (x ∷ xs) = nth none i xs

abbrev nothing : Read
nothing = read (refused 0 0) []

abbrev chart : ℕ → Chart
chart i = nth (record { octets = []; specifiers = 0; read = nothing }) i worked

module _ (r : Reader) (w : Writer) (d : Demands r w) where
  -- chart `i` is read as it says
  abbrev pub Reads : ℕ → Type 0
  Reads i = r (chart i).octets (chart i).specifiers zeros ≡ (chart i).read

  as_charted : (i : ℕ) → below (chart i).octets ≡ true → reads (chart i) ≡ (chart i).read → Reads i
  unfolding OnlyOne
  as_charted i o e = (only_one r w d).0 (chart i).octets (chart i).specifiers zeros (are_octets (chart i).octets o) ∙ e

  -- a dialogue portion is not skipped
  pub dialogue_refused : Reads 6
  dialogue_refused = as_charted 6 refl (ap (nth nothing 6) charts)

  -- the second component's numbers do not stand at 256
  pub second_at_320 : Reads 7
  second_at_320 = as_charted 7 refl (ap (nth nothing 7) charts)

  -- the second component goes by the second specifier
  pub each_by_its_own : Reads 9
  each_by_its_own = as_charted 9 refl (ap (nth nothing 9) charts)

  -- 24 does not come before the second component's own refusal
  pub carriage_behind_the_components : Reads 10
  carriage_behind_the_components = as_charted 10 refl (ap (nth nothing 10) charts)

  -- a place does not count from the component's start
  pub places_of_the_package : Reads 11
  places_of_the_package = as_charted 11 refl (ap (nth nothing 11) charts)

  -- nine components are not taken
  pub nine_refused : Reads 13
  nine_refused = as_charted 13 refl (ap (nth nothing 13) charts)

  -- 23 does not come before 22: the walk goes past the eighth
  pub layout_before_the_count : Reads 14
  layout_before_the_count = as_charted 14 refl (ap (nth nothing 14) charts)

  -- a transaction ID of four octets is not enough in a CONVERSATION
  pub eight_in_a_conversation : Reads 15
  eight_in_a_conversation = as_charted 15 refl (ap (nth nothing 15) charts)

  -- a length is held against its parent's end, and not against the package's
  pub parent_ends_the_set : Reads 16
  parent_ends_the_set = as_charted 16 refl (ap (nth nothing 16) charts)

  -- its own elements keep 22, a component's have 20 and 25
  pub ended_is_22 : Reads 22
  ended_is_22 = as_charted 22 refl (ap (nth nothing 22) charts)

  pub left_over_is_22 : Reads 23
  left_over_is_22 = as_charted 23 refl (ap (nth nothing 23) charts)

  pub left_over_inside_is_20 : Reads 25
  left_over_inside_is_20 = as_charted 25 refl (ap (nth nothing 25) charts)

  pub ended_inside_is_25 : Reads 26
  ended_inside_is_25 = as_charted 26 refl (ap (nth nothing 26) charts)

  -- 26 of a component is at its place in the package
  pub wrong_size_at_its_place : Reads 27
  wrong_size_at_its_place = as_charted 27 refl (ap (nth nothing 27) charts)
