-- From the enclosed logarithm to the base 2 of x to the two n, and from n to the numerator f = n − 3·Q with its sign.
use Prim.Native.Nat.{ℕ, ◌+◌, ◌*◌, ◌^◌, ◌≤◌, ◌<◌}
use mathlib.Core.Path.{◌≡◌, sym, ap, ◌∙◌, subst}
use native.Mathlib.Omega.{arith}
use native.Mathlib.Nat.{le_trans, le_of_eq, mul-le-mul_right, le_of_mul-le-mul_right, div-mul-le_self, lt-div-mul-add, mul-one, mul_comm}
use lib.IntN.{ℤ, pos, sub_ℕ, ◌-ℤ◌}
use lib.Signed.{◌≤ℤ◌}
use Rattle.laws.proofs.Difference.{sub_sub, sub_le}
use Rattle.laws.proofs.Powers.{one_pow, pow_one, pow_mul}
use Rattle.logarithm.specs.Scale.{scale, width, log10}
use Rattle.logarithm.specs.Log2.{log2_of, Enclosed}
use Rattle.logarithm.specs.Preconditions.{InRange}
use Rattle.logarithm.specs.Fractions.{Q, Q_is, Q_number, AtOrBelowLog, AtOrAboveLog}
use Rattle.logarithm.proofs.Log2.{log2_enclosed}
use Rattle.logarithm.proofs.Constants.{ten}
use Rattle.logarithm.proofs.FromLogarithms.{logs_le, one_above, one_below}
use Rattle.logarithm.proofs.Fractions.{power_below, power_above, signed_below, signed_above}
use Rattle.gravity_constant.specs.declared.questions.Temperature.{Temperature}
use Rattle.gravity_constant.specs.declared.questions.Temperature.TheVariants.{At40, At100}
use Rattle.gravity_constant.specs.Questions.{least_viscosity, greatest_viscosity}
use Rattle.gravity_constant.specs.Formula.{argument}
use Rattle.gravity_constant.specs.Answer.{Encloses}
use Rattle.gravity_constant.specs.Chosen.{quarter_q, quarter_log10, apart, most_digits, digits, most_upper, shift, lower_from, lower_of}

-- ---- the lower n from the logarithm l: n · (log10 + 1) ≤ Q · l, and n + apart is above Q · (l + width) / log10

floor : (l : ℕ) → (log10 + 1) * lower_from l ≤ l * Q_number
unfolding lower_from
floor l = omega (arith, div-mul-le_self (quarter_q * l) quarter_log10)

not_floor : (l : ℕ) → l * Q_number < (log10 + 1) * lower_from l + (log10 + 1)
unfolding lower_from
not_floor l = omega (arith, lt-div-mul-add {a = quarter_q * l} {b = quarter_log10} (omega arith))

-- what is known of the logarithm l of an x of at most m digits
module _ (x l m : ℕ) (digits : x ≤ 10 ^ m) (few : m ≤ most_digits) (e : Enclosed x l) where
  small : l ≤ (log10 + 1) * m
  small =
      let h = logs_le scale 1 m x 1 1 10 l 0 0 (log10 + 1) e.below (one_below scale) (one_above scale) ten.above
      (rw (pow_one x, one_pow m) (omega arith)) in
      omega arith

  most_lower : lower_from l ≤ m * Q_number
  most_lower = le_of_mul-le-mul_right {k = log10 + 1} (omega (arith, floor l, mul-le-mul_right Q_number small)) (omega arith)

  lower_shows : 10 ^ lower_from l * 1 ^ Q ≤ x ^ Q
  lower_shows = power_below (lower_from l) Q x 1 l 0 e.below (one_above scale) (rw Q_is (omega (arith, floor l)))

  upper_shows : x ^ Q ≤ 10 ^ (lower_from l + apart) * 1 ^ Q
  upper_shows =
      power_above (lower_from l + apart) Q x 1 (l + width) 0 e.above (one_below scale)
      (rw Q_is (omega (arith, not_floor l, most_lower)))

-- ---- the sign

-- 10^(3·Q) is 1000^Q
thousands : 10 ^ (shift * Q) ≡ 1000 ^ Q
thousands = pow_mul 10 shift Q

three_q : shift * Q ≡ shift * Q_number
three_q = omega (arith, Q_is)

signed_lower : (n x : ℕ) → 10 ^ n * 1 ^ Q ≤ x ^ Q → AtOrBelowLog x 1000 (sub_ℕ n (shift * Q_number))
signed_lower n x h =
    subst (λ (s : ℕ). AtOrBelowLog x 1000 (sub_ℕ n s)) three_q
    (signed_below n (shift * Q) x 1000
    (le_trans (mul-le-mul_right (1000 ^ Q) (subst (λ (k : ℕ). k ≤ x ^ Q) (ap (λ (k : ℕ). 10 ^ n * k) (one_pow Q) ∙ mul-one (10 ^ n)) h))
    (le_of_eq (mul_comm (x ^ Q) (1000 ^ Q) ∙ ap (λ (k : ℕ). k * x ^ Q) (sym thousands)))))

signed_upper : (n x : ℕ) → x ^ Q ≤ 10 ^ n * 1 ^ Q → AtOrAboveLog x 1000 (sub_ℕ n (shift * Q_number))
signed_upper n x h =
    subst (λ (s : ℕ). AtOrAboveLog x 1000 (sub_ℕ n s)) three_q
    (signed_above n (shift * Q) x 1000
    (le_trans (le_of_eq (ap (λ (k : ℕ). k * x ^ Q) thousands ∙ mul_comm (1000 ^ Q) (x ^ Q)))
    (mul-le-mul_right (1000 ^ Q) (subst (λ (k : ℕ). x ^ Q ≤ k) (ap (λ (k : ℕ). 10 ^ n * k) (one_pow Q) ∙ mul-one (10 ^ n)) h))))

-- ---- at each temperature

pub in_range : (t : Temperature) (x : ℕ) → 1 ≤ x → x ≤ 10 ^ digits t → InRange x
in_range At40 x h k = record { least = h; most = omega arith }
in_range At100 x h k = record { least = h; most = omega arith }

few_digits : (t : Temperature) → digits t ≤ most_digits
few_digits At40 = omega arith
few_digits At100 = omega arith

-- what the code needs of the logarithm and of the lower n
pub limits : (t : Temperature) (x l : ℕ) → x ≤ 10 ^ digits t → Enclosed x l → (l ≤ most_digits * (log10 + 1)) × (lower_from l + apart ≤ most_upper t)
limits t x l h e =
    (omega (arith, small x l (digits t) h (few_digits t) e, few_digits t), omega (arith, most_lower x l (digits t) h (few_digits t) e))

pub argument_least : (t : Temperature) (v : ℕ) → least_viscosity t ≤ v → 1 ≤ argument t v
argument_least At40 v h = omega arith
argument_least At100 v h = omega arith

pub argument_most : (t : Temperature) (v : ℕ) → v ≤ greatest_viscosity t → argument t v ≤ 10 ^ digits t
argument_most At40 v h = omega arith
argument_most At100 v h = omega arith

-- ---- the numerators of a viscosity within its range

few_apart : (n : ℕ) → (sub_ℕ (n + apart) (shift * Q_number) -ℤ sub_ℕ n (shift * Q_number)) ≤ℤ pos 64
few_apart n =
    subst (λ (z : ℤ). z ≤ℤ pos 64) (sym (sub_sub (n + apart) (shift * Q_number) n (shift * Q_number)))
    (sub_le (n + apart + shift * Q_number) (shift * Q_number + n) 64 0 (omega arith))

module _ (t : Temperature) (v : ℕ) (low : least_viscosity t ≤ v) (high : v ≤ greatest_viscosity t) where
  log_is : Enclosed (argument t v) (log2_of (argument t v))
  log_is = log2_enclosed (argument t v) (in_range t (argument t v) (argument_least t v low) (argument_most t v high))

  pub encloses : Encloses t v (sub_ℕ (lower_of t v) (shift * Q_number)) (sub_ℕ (lower_of t v + apart) (shift * Q_number))
  unfolding lower_of
  encloses =
      let x = argument t v in
      let l = log2_of x in
      record {
        below = signed_lower (lower_from l) x (lower_shows x l (digits t) (argument_most t v high) (few_digits t) log_is);
        above = signed_upper (lower_from l + apart) x (upper_shows x l (digits t) (argument_most t v high) (few_digits t) log_is);
        order = sub_le (lower_from l) (shift * Q_number) (lower_from l + apart) (shift * Q_number) (omega arith);
        close = few_apart (lower_from l);
      }

  pub lower_few : lower_of t v + apart ≤ most_upper t
  unfolding lower_of
  lower_few = (limits t (argument t v) (log2_of (argument t v)) (argument_most t v high) log_is).1
