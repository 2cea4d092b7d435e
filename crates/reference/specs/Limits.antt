-- Between which numbers the rows of Table 1, and L and H at every viscosity from 2.0 to 500 mm²/s, lie. proofs/Bounds.antt shows it; the
-- crates above reckon with it where a product has to fit 64 bits or a divisor must not be 0.
use Rattle.std.specs.Prelude.{ℕ}
use Rattle.reference.specs.Viscosity.{in_units}

-- ---- at the rows, in thousandths of a mm²/s

-- L − H is the least in the first row: 7.994 − 6.394 = 1.6 mm²/s
abbrev pub least_row_difference : ℕ
least_row_difference = 1600

-- H is the least in the first row: 6.394 mm²/s
abbrev pub least_row_h : ℕ
least_row_h = 6394

-- L is the greatest in the last row: 4905 mm²/s
abbrev pub most_row_l : ℕ
most_row_l = 4905000

-- ---- at every viscosity, in units

-- 1.6 and 6.394 mm²/s, the rows': above the table the quadratics are far from them
abbrev pub least_difference : ℕ
least_difference = in_units least_row_difference

abbrev pub least_h : ℕ
least_h = in_units least_row_h

-- 220,000 and 48,000 mm²/s: at 500 mm²/s the quadratics are 215,944 and 47,928
abbrev pub most_l : ℕ
most_l = in_units 220000000

abbrev pub most_h : ℕ
most_h = in_units 48000000
