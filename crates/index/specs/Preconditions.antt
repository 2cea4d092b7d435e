-- What the inner functions ask of their callers.
use Rattle.std.specs.Prelude.{ℕ, ◌+◌, ◌*◌, ◌^◌, ◌<◌, ◌≤◌}
use Rattle.reference.specs.Viscosity.{least100, greatest100, greatest40, in_units}
use Rattle.reference.specs.Limits.{least_difference, most_l, most_h}
use Rattle.logarithm.specs.Scale.{scale_number, width, bound, log1000}
use Rattle.index.specs.declared.procedure_b.Oil.{Oil}

-- a pair that passes questions 1 to 4
pub record Passes (u y : ℕ) : Type 0 where
  pub least : least100 ≤ y
  pub most : y ≤ greatest100
  pub thickest : u ≤ greatest40
  pub thicker : y < u

-- procedure A: U is at or above H and at most the greatest u; L and H are as `bounds` of crate reference has them
pub record FractionFits (l h u : ℕ) : Type 0 where
  pub at_or_above : h ≤ u
  pub apart : h + least_difference ≤ l
  pub l_at_most : l ≤ most_l
  pub most_u : u ≤ in_units greatest40

-- procedure B: an oil below H, whose H is at most 128 times U and (H/U)^6 at most Y^11. So is every pair that passes the questions and is below the H at its y
pub record OilBelowH (oil : Oil) : Type 0 where
  pub least : least100 ≤ oil.y
  pub most : oil.y ≤ greatest100
  pub some : 0 < oil.u
  pub below : in_units oil.u < oil.h
  pub h_at_most : oil.h ≤ most_h
  pub close : oil.h ≤ 128 * in_units oil.u
  pub range : oil.h ^ 6 * 1000 ^ 11 ≤ in_units oil.u ^ 6 * oil.y ^ 11

-- what the logarithms of an oil below H keep to: Y is at least 2, U is not above H, and H is at most 128 times U
pub record InBounds (ly lU lH : ℕ) : Type 0 where
  pub least : log1000 + scale_number ≤ ly + width
  pub most : ly < bound
  pub order : lU ≤ lH
  pub close : lH ≤ lU + width + 7 * scale_number
  pub small : lH < bound
