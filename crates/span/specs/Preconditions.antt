-- What the inner functions ask of their callers.
use Rattle.std.specs.Prelude.{ℕ, ◌+◌, ◌-◌, ◌<◌, ◌≤◌, ◌⊎◌}
use Rattle.reference.specs.Viscosity.{least100, greatest100, greatest40}
use Rattle.reference.specs.Basis.{last_row}
use Rattle.index.specs.Preconditions.{Passes}
use Rattle.span.specs.Questions.{widest}

-- limits that pass the questions
pub record InLimits (u1 u2 y1 y2 : ℕ) : Type 0 where
  pub u_order : u1 ≤ u2
  pub y_order : y1 ≤ y2
  pub narrow : y2 - y1 ≤ widest
  pub least : least100 ≤ y1
  pub most : y2 ≤ greatest100
  pub thickest : u2 ≤ greatest40
  pub thicker : y2 < u1

-- a stretch of y at one u, no wider than limits may be: every pair in it passes the pair's questions
pub record Stretch (u from to : ℕ) : Type 0 where
  pub order : from ≤ to
  pub narrow : to ≤ from + widest
  pub least : least100 ≤ from
  pub most : to ≤ greatest100
  pub thickest : u ≤ greatest40
  pub thicker : to < u

-- it lies in the table, or above it
abbrev pub InOnePart : ℕ → ℕ → Type 0
InOnePart from to = (to ≤ last_row) ⊎ (last_row < from)

-- the pair of u and `at` passes the questions, and y is within its limits, and below `at` by no more than limits may be apart
pub record Between (u at y : ℕ) : Type 0 where
  pub passes : Passes u at
  pub least : least100 ≤ y
  pub most : y ≤ greatest100
  pub close : at ≤ y + widest
