-- What the logarithm asks of its callers.
use Rattle.std.specs.Prelude.{ℕ, ◌*◌, ◌≤◌, ◌<◌}
use Rattle.logarithm.specs.Scale.{unit}

-- the numbers that the function answers for
pub record InRange (x : ℕ) : Type 0 where
  pub least : 1 ≤ x
  pub most : x < 2 * unit
