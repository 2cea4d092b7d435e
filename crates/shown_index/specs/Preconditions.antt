-- What the inner functions ask of their callers.
use Rattle.std.specs.Prelude.{ℕ, ◌+◌, ◌*◌, ◌≤◌}
use Rattle.logarithm.specs.Scale.{scale_number, log10000000}

-- between which r, in hundredths, the laws about c(r) hold: from one index below the least to one above the greatest, 99 and 10,001
abbrev pub least_r : ℕ
least_r = 9900

abbrev pub most_r : ℕ
most_r = 1000100

-- what the logarithm of c keeps to wherever the code looks at it: c is above 10^7 and at most 128 times that
pub record LogOfC (lc : ℕ) : Type 0 where
  pub more : log10000000 + 1 ≤ lc
  pub most : lc ≤ log10000000 + 1 + 7 * scale_number
