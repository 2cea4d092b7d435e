-- k, which the program finds counted from −1000 thousandths, fits the formula at both fractions. N is the dividend and the divisor together, D the
-- divisor.
use Prim.Native.Nat.{ℕ, ◌+◌, ◌*◌, ◌-◌, ◌≤◌, ◌<◌}
use mathlib.Core.Path.{◌≡◌, subst₂}
use native.Mathlib.Omega.{arith}
use native.Mathlib.Nat.{div-mul-le_self, lt-div-mul-add, div-lt_iff_lt-mul, mul-add, mul-le-mul_right}
use lib.IntN.{sub_ℕ}
use Rattle.laws.specs.Bits.{half32}
use Rattle.laws.proofs.Powers.{ring}
use Rattle.logarithm.specs.Fractions.{Q_number}
use Rattle.gravity_constant.specs.declared.questions.Temperature.{Temperature}
use Rattle.gravity_constant.specs.declared.questions.Temperature.TheVariants.{At40, At100}
use Rattle.gravity_constant.specs.Questions.{least_density, greatest_density}
use Rattle.gravity_constant.specs.Formula.{density_taken, dividend_slope, divisor_start, divisor_slope}
use Rattle.gravity_constant.specs.Answer.{Fits}
use Rattle.gravity_constant.specs.Chosen.{apart, most_upper, shift, less_logarithm, divisor_at, sum_at, thousandths, nearest_thousandth, count_at, most_count}
use Rattle.gravity_constant.specs.Preconditions.{most_top, least_divisor}
use Rattle.gravity_constant.proofs.WholeNumbers.{divisor_top, A, B, Plain, divisor_is, dividend_is, fits}

-- ---- the inequalities, with N and D as plain numbers

-- what rounding to the nearest says of K, N and D
record Rounded (K N D : ℕ) : Type 0 where
  pub least : 100 * (K * D) ≤ 100000 * N + 50 * D
  pub most : 100000 * N ≤ 100 * (K * D) + 50 * D

rounded : (N D : ℕ) → 0 < D → Rounded (nearest_thousandth N D) N D
rounded N D p =
    let a = div-mul-le_self (2 * thousandths * N + D) (2 * D) in
    let b = lt-div-mul-add {a = 2 * thousandths * N + D} {b = 2 * D} (omega arith) in
    record { least = omega (arith, simp ring at a); most = omega (arith, simp ring at b) }

-- what #101 says of them
record Close (K N D : ℕ) : Type 0 where
  pub least : 100 * (K * D) ≤ 100000 * N + 51 * D
  pub most : 100000 * N ≤ 100 * (K * D) + 51 * D

close_here : (K N D : ℕ) → Rounded K N D → Close K N D
close_here K N D h = record { least = omega (arith, h.least); most = omega (arith, h.most) }

-- a little further on, where N is less by s and D by r
close_there : (K N D s r : ℕ) → Rounded K (N + s) (D + r) → 100000 * s + 50 * r ≤ D → 100 * (K * r) + 50 * r ≤ D → Close K N D
close_there K N D s r h a b = record { least = omega (arith, simp ring at h.least); most = omega (arith, simp ring at h.most) }

-- fewer than 20,000 counts
pub few_counts : (N D : ℕ) → N ≤ most_top * Q_number → least_divisor * Q_number ≤ D → nearest_thousandth N D < most_count
few_counts N D small large = (div-lt_iff_lt-mul {k = 2 * D} (omega arith)).1 (omega arith)

-- ---- at each temperature

abbrev most_slopes : ℕ
most_slopes = 2500

-- what the limits of n and of the density say of the formula
pub record InFormula (t : Temperature) (d n : ℕ) : Type 0 where
  pub divisor_above : least_divisor * Q_number + divisor_slope t * n ≤ divisor_top t shift
  pub density_above : density_taken t ≤ d + divisor_start t
  pub sum_fits : d + divisor_start t - density_taken t + shift * (dividend_slope t + divisor_slope t) ≤ most_top
  pub slopes_few : dividend_slope t + divisor_slope t ≤ most_slopes
  pub sum_above : (dividend_slope t + divisor_slope t) * n ≤ (d + divisor_start t - density_taken t + shift * (dividend_slope t + divisor_slope t)) * Q_number

pub in_formula : (t : Temperature) (d n : ℕ) → least_density ≤ d → d ≤ greatest_density → n ≤ most_upper t → InFormula t d n
in_formula At40 d n light heavy h =
    record { divisor_above = omega arith; density_above = omega arith; sum_fits = omega arith; slopes_few = omega arith; sum_above = omega arith }
in_formula At100 d n light heavy h =
    record { divisor_above = omega arith; density_above = omega arith; sum_fits = omega arith; slopes_few = omega arith; sum_above = omega arith }

-- N is A − B + D
plain_from : (K N D A B : ℕ) → N + B ≡ A + D → Close K N D → Plain K thousandths D A B
plain_from K N D A B sum c = record { least = omega (arith, c.least); most = omega (arith, c.most) }

module _ (t : Temperature) (d n : ℕ) (o : InFormula t d n) where
  fits_at : (K : ℕ) → Close K (sum_at t d n) (divisor_at t n) → Fits t d (sub_ℕ K thousandths) (sub_ℕ n (shift * Q_number))
  fits_at K c =
      fits t d K thousandths (divisor_at t n) (A t shift d) (B t n) _ (divisor_is t shift n (omega (arith, o.divisor_above))) (dividend_is t shift n d)
      (omega (arith, o.divisor_above))
      (plain_from K (sum_at t d n) (divisor_at t n) (A t shift d) (B t n)
      (simp ring (omega (arith, simp ring at o.sum_above, o.divisor_above, o.density_above))) c)

  pub divisor_least : least_divisor * Q_number ≤ divisor_at t n
  divisor_least = omega (arith, o.divisor_above)

  pub few : count_at t d n < most_count
  unfolding count_at
  few = few_counts (sum_at t d n) (divisor_at t n) (omega (arith, o.sum_fits)) divisor_least

  here : Rounded (count_at t d n) (sum_at t d n) (divisor_at t n)
  unfolding count_at
  here = rounded (sum_at t d n) (divisor_at t n) (omega (arith, divisor_least))

  pub fits_lower : Fits t d (sub_ℕ (count_at t d n) thousandths) (sub_ℕ n (shift * Q_number))
  fits_lower = fits_at (count_at t d n) (close_here _ _ _ here)

-- by how much the line is less at the upper n
further : (start slope n : ℕ) → slope * (n + apart) ≤ (start + shift * slope) * Q_number
    → less_logarithm start slope n ≡ less_logarithm start slope (n + apart) + apart * slope
further start slope n h = omega (arith, h, mul-add slope n apart)

-- what that makes in K times the divisor is little
few_times : (K r : ℕ) → K < most_count → r ≤ apart * most_slopes → 100 * (K * r) + 50 * r ≤ least_divisor * Q_number
few_times K r h l = let m : K * r ≤ most_count * r = mul-le-mul_right r (omega arith) in omega arith

pub fits_upper : (t : Temperature) (d n : ℕ) → InFormula t d n → InFormula t d (n + apart)
    → Fits t d (sub_ℕ (count_at t d n) thousandths) (sub_ℕ (n + apart) (shift * Q_number))
fits_upper t d n o p =
    let s = apart * (dividend_slope t + divisor_slope t) in
    let r = apart * divisor_slope t in
    fits_at t d (n + apart) p (count_at t d n)
    (close_there (count_at t d n) (sum_at t d (n + apart)) (divisor_at t (n + apart)) s r
    (subst₂ (Rounded (count_at t d n)) (further _ _ n p.sum_above) (further _ _ n (omega (arith, p.divisor_above))) (here t d n o))
    (omega (arith, o.slopes_few, divisor_least t d (n + apart) p))
    (omega (arith, few_times (count_at t d n) r (few t d n o) (omega (arith, o.slopes_few)), divisor_least t d (n + apart) p)))

-- ---- for the code

pub small_n : (t : Temperature) (n : ℕ) → n ≤ most_upper t → n < half32
small_n At40 n h = omega arith
small_n At100 n h = omega arith
