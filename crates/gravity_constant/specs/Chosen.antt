-- What this program chooses where #101 leaves a choice ("which two they are, and k where more than one fits, is left free here"): the definitions
-- follow the code. What #101 says of an answer stands in Answer.antt and is shown of every input (proofs/Right.antt), so that nobody has to believe
-- this file.
--
-- All is whole numbers from 0 up: n = f + 3·Q stands in the place of the numerator f, so that n / Q is at or below the logarithm of the number x of
-- thousandths, which is not below 0; and the constant is counted from −1000 thousandths, below its least value −905, so that the dividend and the
-- divisor together stand in the place of the dividend.
use Rattle.std.specs.Prelude.{Result, Ok, Err, ℕ, ◌+◌, ◌*◌, ◌-◌, ◌/◌, Bool, cond, ◌&&◌, ltb, eqb}
use Rattle.std.proofs.Math.IntN.{sub_ℕ}
use Rattle.logarithm.specs.Scale.{log10}
use Rattle.logarithm.specs.Log2.{log2_of}
use Rattle.logarithm.specs.Fractions.{Q_number}
use Rattle.gravity_constant.specs.declared.questions.Refusal.{Refusal}
use Rattle.gravity_constant.specs.declared.questions.Refusal.TheVariants.{DivisorNotAboveZero}
use Rattle.gravity_constant.specs.declared.questions.Temperature.{Temperature}
use Rattle.gravity_constant.specs.declared.questions.Temperature.TheVariants.{At40, At100}
use Rattle.gravity_constant.specs.declared.formula.Formula.{Formula}
use Rattle.gravity_constant.specs.declared.answer.Constant.{Constant}
use Rattle.gravity_constant.specs.Questions.{refusal, refusal_of}
use Rattle.gravity_constant.specs.Formula.{viscosity_taken, density_taken, dividend_slope, divisor_start, divisor_slope, argument}

-- ---- the formula

-- the five numbers of a temperature, as the code holds them
abbrev pub formula_of : Temperature → Formula
formula_of t =
    record {
      viscosity_taken = viscosity_taken t;
      density_taken = density_taken t;
      dividend_slope = dividend_slope t;
      divisor_start = divisor_start t;
      divisor_slope = divisor_slope t;
    }

-- ---- the fractions

-- a quarter of Q, and of the logarithm of 10 rounded up, both whole: so the product of the first and a logarithm fits 64 bits
abbrev pub quarter_q : ℕ
quarter_q = Q_number / 4

abbrev pub quarter_log10 : ℕ
quarter_log10 = (log10 + 1) / 4

-- the lower n, from the logarithm to the base 2
unfoldable pub lower_from : ℕ → ℕ
lower_from l = quarter_q * l / quarter_log10

unfoldable pub lower_of : Temperature → ℕ → ℕ
lower_of t v = lower_from (log2_of (argument t v))

-- how far the upper n is above the lower one
abbrev pub apart : ℕ
apart = 2

-- x is at most 10^9 at 40 °C and 10^6 at 100 °C, so the greatest n are these
abbrev pub most_digits : ℕ
most_digits = 9

abbrev pub digits : Temperature → ℕ
digits At40 = most_digits
digits At100 = 6

abbrev pub most_upper : Temperature → ℕ
most_upper t = digits t * Q_number + apart

-- ---- the constant

-- the logarithm of 1000, by which n / Q is above the logarithm of the formula
abbrev pub shift : ℕ
shift = 3

-- start − slope times the logarithm n / Q − 3, times Q
abbrev pub less_logarithm : ℕ → ℕ → ℕ → ℕ
less_logarithm start slope n = (start + shift * slope) * Q_number - slope * n

-- the divisor
abbrev pub divisor_at : Temperature → ℕ → ℕ
divisor_at t n = less_logarithm (divisor_start t) (divisor_slope t) n

-- the dividend and the divisor together
abbrev pub sum_at : Temperature → ℕ → ℕ → ℕ
sum_at t d n = less_logarithm (d + divisor_start t - density_taken t) (dividend_slope t + divisor_slope t) n

-- how many thousandths 1 has
abbrev pub thousandths : ℕ
thousandths = 1000

-- sum / divisor in thousandths, to the nearest, a half to the greater
abbrev pub nearest_thousandth : ℕ → ℕ → ℕ
nearest_thousandth sum divisor = (2 * thousandths * sum + divisor) / (2 * divisor)

-- the constant at the lower fraction, counted from −1000 thousandths, and a bound of it
unfoldable pub count_at : Temperature → ℕ → ℕ → ℕ
count_at t d n = nearest_thousandth (sum_at t d n) (divisor_at t n)

abbrev pub most_count : ℕ
most_count = 20000

-- with signs
unfoldable pub constant_at : Temperature → ℕ → ℕ → Constant
constant_at t d n =
    record {
      thousandths = sub_ℕ (count_at t d n) thousandths;
      lower = sub_ℕ n (shift * Q_number);
      upper = sub_ℕ (n + apart) (shift * Q_number);
    }

-- ---- question 23, and the answer

-- from where on the divisor is not above zero, as slope times n
abbrev pub no_divisor_from : Temperature → ℕ
no_divisor_from t = (divisor_start t + shift * divisor_slope t) * Q_number

-- is the divisor above zero?
abbrev pub divides_at : Temperature → ℕ → Bool
divides_at t n = ltb (divisor_slope t * n) (no_divisor_from t)

-- the answer from the lower n, of an oil that the limits do not refuse
unfoldable pub answer_at : Temperature → ℕ → ℕ → Result Constant Refusal
answer_at t d n = cond (divides_at t n && divides_at t (n + apart)) (Ok (constant_at t d n)) (Err DivisorNotAboveZero)

-- the answer
unfoldable pub answer_of : Temperature → ℕ → ℕ → Result Constant Refusal
answer_of t v d = cond (eqb (refusal t v d) 0) (answer_at t d (lower_of t v)) (Err (refusal_of (refusal t v d)))
