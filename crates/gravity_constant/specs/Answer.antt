-- Change request #101: "The answer is k thousandths, with two fractions over 16,777,216 that enclose the logarithm by whole powers; all three may be
-- negative. The two numerators are at most 64 apart; which two they are, and k where more than one fits, is left free here. At both fractions the
-- formula lies from k − 0.51 to k + 0.51 thousandths. Refused: 21 viscosity outside its temperature's range, 22 density outside, 23 the divisor not
-- above zero at one of the fractions; asked in that order, with the number alone as the answer." When an answer is right.
use Rattle.std.specs.Prelude.{Result, Ok, Err, ◌≡◌, ◌⊎◌, ℕ, ◌<◌, ℤ, pos, ◌+ℤ◌, ◌-ℤ◌, ◌*ℤ◌, ◌≤ℤ◌, ◌<ℤ◌}
use Rattle.logarithm.specs.Fractions.{AtOrBelowLog, AtOrAboveLog}
use Rattle.gravity_constant.specs.declared.questions.Refusal.{Refusal}
use Rattle.gravity_constant.specs.declared.questions.Temperature.{Temperature}
use Rattle.gravity_constant.specs.declared.answer.Constant.{Constant}
use Rattle.gravity_constant.specs.Questions.{refusal, number_of_refusal}
use Rattle.gravity_constant.specs.Formula.{argument, dividend, divisor}

-- the number of the question that refused, 0 where a constant is answered
abbrev pub number_of : Result Constant Refusal → ℕ
number_of (Err r) = number_of_refusal r
number_of (Ok c) = 0

-- two numerators over Q that serve for v: with x the thousandths of a mm²/s that the logarithm is taken of, they enclose that of x / 1000 by whole powers,
-- and are at most 64 apart. (`order` is no word of the request; it follows from `below` and `above`)
pub record Encloses (t : Temperature) (v : ℕ) (lower upper : ℤ) : Type 0 where
  pub below : AtOrBelowLog (argument t v) 1000 lower
  pub above : AtOrAboveLog (argument t v) 1000 upper
  pub order : lower ≤ℤ upper
  pub close : (upper -ℤ lower) ≤ℤ pos 64

-- at the fraction f / Q the formula lies from k − 0.51 to k + 0.51 thousandths: k − 0.51 ≤ 1000 · dividend / divisor ≤ k + 0.51, times 100 and
-- times the divisor, which is above zero
pub record Fits (t : Temperature) (d : ℕ) (k f : ℤ) : Type 0 where
  pub divides : pos 0 <ℤ divisor t f
  pub least : ((pos 100 *ℤ k -ℤ pos 51) *ℤ divisor t f) ≤ℤ (pos 100000 *ℤ dividend t d f)
  pub most : (pos 100000 *ℤ dividend t d f) ≤ℤ ((pos 100 *ℤ k +ℤ pos 51) *ℤ divisor t f)

-- "23 the divisor not above zero at one of the fractions": of two that serve. Since the number alone is the answer, it does not say which two
pub record NoDivisor (t : Temperature) (v : ℕ) : Type 0 where
  pub lower : ℤ
  pub upper : ℤ
  pub encloses : Encloses t v lower upper
  pub fails : (divisor t lower ≤ℤ pos 0) ⊎ (divisor t upper ≤ℤ pos 0)

-- the number of a refusal: 21 or 22 by the limits; or 23, where the limits do not refuse
abbrev pub RightNumber : Temperature → ℕ → ℕ → ℕ → Type 0
RightNumber t v d number =
    ((0 < number) × (number ≡ refusal t v d)) ⊎ ((number ≡ 23) × (refusal t v d ≡ 0) × NoDivisor t v)

-- a constant: the limits do not refuse, the fractions enclose the logarithm, and k fits the formula at both
pub record RightFound (t : Temperature) (v d : ℕ) (c : Constant) : Type 0 where
  pub passes : refusal t v d ≡ 0
  pub encloses : Encloses t v c.lower c.upper
  pub at_lower : Fits t d c.thousandths c.lower
  pub at_upper : Fits t d c.thousandths c.upper

abbrev pub RightConstant : Temperature → ℕ → ℕ → Result Constant Refusal → Type 0
RightConstant t v d (Err r) = RightNumber t v d (number_of_refusal r)
RightConstant t v d (Ok c) = RightFound t v d c
