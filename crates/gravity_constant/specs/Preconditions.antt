-- What the inner functions ask of their callers.
use Rattle.std.specs.Prelude.{ℕ, ◌≤◌}
use Rattle.gravity_constant.specs.declared.questions.Temperature.{Temperature}
use Rattle.gravity_constant.specs.Questions.{least_viscosity, greatest_viscosity, least_density, greatest_density}

-- between which numbers the limits keep what is computed, in units of Q: start + 3·slope of a line at most, and the divisor at least
abbrev pub most_top : ℕ
most_top = 32768

abbrev pub least_divisor : ℕ
least_divisor = 2800

-- an oil that questions 21 and 22 pass
pub record Passes (t : Temperature) (v d : ℕ) : Type 0 where
  pub least : least_viscosity t ≤ v
  pub most : v ≤ greatest_viscosity t
  pub lightest : least_density ≤ d
  pub heaviest : d ≤ greatest_density
