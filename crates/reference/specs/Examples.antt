-- Document 01, 'Pairs and sheets to try': the starred examples about L and H, in units of 10^-10 mm²/s, as one statement.
-- And what else can be held against the papers without a program: the limits, the quadratics at three viscosities, and the rows where the sources
-- differ. proofs/Examples.antt shows all from the definitions by computation.
use Rattle.std.specs.Prelude.{◌<◌, ◌≡◌, Ok, Err}
use Rattle.reference.specs.declared.refusal.Refusal.TheVariants.{ThinAt100, ThickAt100, ThickAt40}
use Rattle.reference.specs.Viscosity.{asked40, in_units}
use Rattle.reference.specs.Basis.{row_l, row_h, last_row_at, viscosity_of, l_at, h_at, basis_of, basis_answer_of}

pub record StarredBasis : Type 0 where
  -- "y 8860: L 119.94, H 69.48 mm²/s"
  pub l_8860 : l_at 8860 ≡ 1199400000000
  pub h_8860 : h_at 8860 ≡ 694800000000
  -- "y 5050: H 28.975"
  pub h_5050 : h_at 5050 ≡ 289750000000
  -- "y 70000: L 4905, H 1556"
  pub l_70000 : l_at 70000 ≡ 49050000000000
  pub h_70000 : h_at 70000 ≡ 15560000000000
  -- "y 70001: L is 49,040,016,128,353 units, below the row at 70", which is the last one
  pub l_70001 : l_at 70001 ≡ 49040016128353
  pub below_70 : l_at 70001 < in_units (row_l last_row_at)

-- Questions 1 to 3 at their limits: "y 1999: 1. y 500001: 2. (1000000001, 2000): 3.", and the numbers beside them, which are taken
pub record Limits : Type 0 where
  pub below_least : basis_answer_of 1999 ≡ Err ThinAt100
  pub least : basis_answer_of 2000 ≡ Ok (basis_of 2000)
  pub greatest : basis_answer_of 500000 ≡ Ok (basis_of 500000)
  pub above_greatest : basis_answer_of 500001 ≡ Err ThickAt100
  pub thickest : asked40 1000000000 ≡ Ok 1000000000
  pub too_thick : asked40 1000000001 ≡ Err ThickAt40

-- The standard's formulas, L = 0.8353·Y² + 14.67·Y − 216 and H = 0.1684·Y² + 11.85·Y − 97, worked by hand at 100, 200 and 500 mm²/s: L and H in
-- thousandths. Two quadratics that agree at three viscosities are one
pub record QuadraticsByHand : Type 0 where
  pub l_100 : l_at 100000 ≡ in_units 9604000
  pub h_100 : h_at 100000 ≡ in_units 2772000
  pub l_200 : l_at 200000 ≡ in_units 36130000
  pub h_200 : h_at 200000 ≡ in_units 9009000
  pub l_500 : l_at 500000 ≡ in_units 215944000
  pub h_500 : h_at 500000 ≡ in_units 47928000

-- "Known differences: at 39.0 L is 1651 (003 prints 1661); at 21.8 H is 261.5 (003 prints 261.6); the row that 003 labels 46,5 with 2197 and
-- 794,5 is 45.5." Each row by its viscosity, in thousandths. The sources differ at three more, which docs/DECISIONS.md decides: at 7.50 H is 53.99
-- (003 prints 53.98), at 24.2 L is 694.5 (003 prints 694.6), at 70.0 H is 1556 (000 prints 1558)
pub record KnownDifferences : Type 0 where
  pub row_39 : (viscosity_of 248 ≡ 39000) × (row_l 248 ≡ 1651000)
  pub row_21_8 : (viscosity_of 189 ≡ 21800) × (row_h 189 ≡ 261500)
  pub row_45_5 : (viscosity_of 261 ≡ 45500) × (row_l 261 ≡ 2197000) × (row_h 261 ≡ 794500)
  pub row_7_5 : (viscosity_of 55 ≡ 7500) × (row_h 55 ≡ 53990)
  pub row_24_2 : (viscosity_of 201 ≡ 24200) × (row_l 201 ≡ 694500)
  pub row_70 : (viscosity_of 310 ≡ 70000) × (row_h 310 ≡ 1556000)
