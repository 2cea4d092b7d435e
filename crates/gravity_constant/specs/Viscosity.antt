-- A kinematic viscosity as contracts see it.
use Rattle.std.specs.Prelude.{ℕ}
use Rattle.gravity_constant.specs.declared.questions.Temperature.{Temperature}

-- at a temperature, in thousandths of a mm²/s
pub record KinematicViscosity : Type 0 where
  pub temperature : Temperature
  pub thousandths : ℕ
