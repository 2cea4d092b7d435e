-- Formulas 1 and 2 of source document 001, G the density in g/ml, V and V′ the viscosities in mm²/s, log to the base 10:
--   formula 1, at 40 °C    (G − 0.0664 − 0.1154·log(V − 5.5)) / (0.94 − 0.109·log(V − 5.5))
--   formula 2, at 100 °C   (G − 0.108 − 0.1255·log(V′ − 0.8)) / (0.90 − 0.097·log(V′ − 0.8))
-- The logarithm is taken as f / Q. The viscosity is in thousandths, all else in 0.0001, and the dividend and the divisor are both taken times Q.
use Rattle.std.specs.Prelude.{ℕ, ◌-◌, ℤ, pos, ◌-ℤ◌, ◌*ℤ◌}
use Rattle.logarithm.specs.Fractions.{Q}
use Rattle.gravity_constant.specs.declared.questions.Temperature.{Temperature}
use Rattle.gravity_constant.specs.declared.questions.Temperature.TheVariants.{At40, At100}

-- 5.5 and 0.8, taken off the viscosity
abbrev pub viscosity_taken : Temperature → ℕ
viscosity_taken At40 = 5500
viscosity_taken At100 = 800

-- 0.0664 and 0.108, taken off the density
abbrev pub density_taken : Temperature → ℕ
density_taken At40 = 664
density_taken At100 = 1080

-- 0.1154 and 0.1255, of the logarithm, in the dividend
abbrev pub dividend_slope : Temperature → ℕ
dividend_slope At40 = 1154
dividend_slope At100 = 1255

-- 0.94 and 0.90, the divisor where the logarithm is 0
abbrev pub divisor_start : Temperature → ℕ
divisor_start At40 = 9400
divisor_start At100 = 9000

-- 0.109 and 0.097, of the logarithm, in the divisor
abbrev pub divisor_slope : Temperature → ℕ
divisor_slope At40 = 1090
divisor_slope At100 = 970

-- V − 5.5 or V′ − 0.8, in thousandths; the limits keep v above what is taken off
abbrev pub argument : Temperature → ℕ → ℕ
argument t v = v - viscosity_taken t

-- the dividend, times Q
abbrev pub dividend : Temperature → ℕ → ℤ → ℤ
dividend t d f = (pos d -ℤ pos (density_taken t)) *ℤ pos Q -ℤ pos (dividend_slope t) *ℤ f

-- the divisor, times Q
abbrev pub divisor : Temperature → ℤ → ℤ
divisor t f = pos (divisor_start t) *ℤ pos Q -ℤ pos (divisor_slope t) *ℤ f
