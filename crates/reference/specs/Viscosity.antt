-- Document 01, 'The two viscosities' and the questions of 'Questions to a pair' that concern one viscosity.
-- A viscosity is a whole number of thousandths of a mm²/s: y at 100 °C, u at 40 °C.
use Rattle.std.specs.Prelude.{ℕ, ◌*◌, cond, ltb, Result, Ok, Err}
use Rattle.reference.specs.declared.refusal.Refusal.{Refusal}
use Rattle.reference.specs.declared.refusal.Refusal.TheVariants.{ThinAt100, ThickAt100, ThickAt40}

-- "y from 2,000 to 500,000, u from 0 to 1,000,000,000"
abbrev pub least100 : ℕ
least100 = 2000

abbrev pub greatest100 : ℕ
greatest100 = 500000

abbrev pub least40 : ℕ
least40 = 0

abbrev pub greatest40 : ℕ
greatest40 = 1000000000

-- "Is y at least 2,000? No: 1. Is y at most 500,000? No: 2." A Kv100 is read as its number of thousandths, and so is a Kv40
abbrev pub asked100 : ℕ → Result ℕ Refusal
asked100 y =
    cond (ltb y least100) (Err ThinAt100)
    (cond (ltb greatest100 y) (Err ThickAt100)
    (Ok y))

-- "Is u at most 1,000,000,000? No: 3." No u is below the least, which is 0.
abbrev pub asked40 : ℕ → Result ℕ Refusal
asked40 u = cond (ltb greatest40 u) (Err ThickAt40) (Ok u)

-- "One unit here is 10^-10 mm²/s": thousandths of a mm²/s in units, of which a thousandth has 10^7
abbrev pub units_per_thousandth : ℕ
units_per_thousandth = 10000000

abbrev pub in_units : ℕ → ℕ
in_units thousandths = thousandths * units_per_thousandth
