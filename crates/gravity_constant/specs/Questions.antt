-- Change request #101, limits and questions: viscosities v in thousandths of a mm²/s, densities d at 15 °C in 0.0001 g/ml.
use Rattle.std.specs.Prelude.{ℕ, cond, ltb, leb, eqb, Result, Ok, Err}
use Rattle.laws.specs.Questions.{ask}
use Rattle.gravity_constant.specs.declared.questions.Temperature.{Temperature}
use Rattle.gravity_constant.specs.declared.questions.Temperature.TheVariants.{At40, At100}
use Rattle.gravity_constant.specs.declared.questions.Refusal.{Refusal}
use Rattle.gravity_constant.specs.declared.questions.Refusal.TheVariants.{ViscosityOutside, DensityOutside, DivisorNotAboveZero}
use Rattle.gravity_constant.specs.declared.questions.Viscosity.{Viscosity}
use Rattle.gravity_constant.specs.declared.questions.Density.{Density}
use Rattle.gravity_constant.specs.declared.questions.Oil.{Oil}

-- "Refused: 21 viscosity outside its temperature's range, 22 density outside, 23 the divisor not above zero at one of the fractions"
abbrev pub number_of_refusal : Refusal → ℕ
number_of_refusal ViscosityOutside = 21
number_of_refusal DensityOutside = 22
number_of_refusal DivisorNotAboveZero = 23

-- "at 40 °C (5,501 to 1,000,000,000) or at 100 °C (801 to 500,000)"
abbrev pub least_viscosity : Temperature → ℕ
least_viscosity At40 = 5501
least_viscosity At100 = 801

abbrev pub greatest_viscosity : Temperature → ℕ
greatest_viscosity At40 = 1000000000
greatest_viscosity At100 = 500000

-- "the density at 15 °C in 0.0001 g/ml, 5,000 to 15,000"
abbrev pub least_density : ℕ
least_density = 5000

abbrev pub greatest_density : ℕ
greatest_density = 15000

-- the number of the first question about the limits that is answered no; 0 where all are answered yes: "Refused: 21 viscosity outside its
-- temperature's range, 22 density outside", "asked in that order". (Question 23 is put to the two fractions: Answer.antt.)
abbrev pub refusal : Temperature → ℕ → ℕ → ℕ
refusal t v d =
    ask (leb (least_viscosity t) v) 21
    (ask (leb v (greatest_viscosity t)) 21
    (ask (leb least_density d) 22
    (ask (leb d greatest_density) 22 0)))

-- ---- what the code that asks them answers

abbrev pub asked_viscosity : Temperature → ℕ → Result Viscosity Refusal
asked_viscosity t v =
    cond (ltb v (least_viscosity t)) (Err ViscosityOutside)
    (cond (ltb (greatest_viscosity t) v) (Err ViscosityOutside)
    (Ok (record { temperature = t; thousandths = v })))

abbrev pub asked_density : ℕ → Result Density Refusal
asked_density d =
    cond (ltb d least_density) (Err DensityOutside)
    (cond (ltb greatest_density d) (Err DensityOutside)
    (Ok d))

-- the refusal of a number, or the oil
abbrev pub refusal_of : ℕ → Refusal
refusal_of number = cond (eqb number 21) ViscosityOutside (cond (eqb number 22) DensityOutside DivisorNotAboveZero)

abbrev pub oil_of : Temperature → ℕ → ℕ → Oil
oil_of t v d = record { viscosity = record { temperature = t; thousandths = v }; density = d }

unfoldable pub asked_of : Temperature → ℕ → ℕ → Result Oil Refusal
asked_of t v d = cond (eqb (refusal t v d) 0) (Ok (oil_of t v d)) (Err (refusal_of (refusal t v d)))
