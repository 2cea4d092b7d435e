-- An oil below H whose Q·N lies between p and p + 1: a numerator that is shown to be at most Q·N is at most p, and one that is shown to be at least Q·N is at
-- least p + 1. So the numbers that p and p + 1 stand for bound what any p and P show of the index.
use Prim.Native.Nat.{ℕ, suc, ◌+◌, ◌*◌, ◌-◌, ◌^◌, ◌≤◌, ◌<◌}
use mathlib.Core.Path.{◌≡◌, sym, ◌∙◌, ap}
use native.Mathlib.Omega.{arith}
use native.Mathlib.Nat.{le_trans, le_of_eq, mul_left_comm, mul-le-mul_left, mul-le-mul_right, pow-le-pow_right, pow-lt-pow_left}
use Rattle.laws.proofs.Powers.{mul_pow, pow_mul, root, exponents_apart}
use Rattle.reference.specs.Viscosity.{in_units}
use Rattle.reference.specs.Basis.{h_at}
use Rattle.logarithm.specs.Scale.{scale, width, log10, log1000}
use Rattle.logarithm.specs.Log2.{log2_of, Enclosed}
use Rattle.logarithm.proofs.Log2.{enclosed}
use Rattle.logarithm.proofs.FromLogarithms.{powers_le, scale_positive}
use Rattle.logarithm.proofs.Fractions.{power_below, power_above}
use Rattle.logarithm.proofs.Constants.{thousand}
use Rattle.logarithm.specs.Fractions.{Q, Q_is, Q_number}
use Rattle.shown_index.specs.Terms.{c}
use Rattle.index.specs.ProcedureB.{AtLeast, AtMost}

-- c(r) is compared in thousandths, so that 10^7 becomes this
abbrev pub ten_to_ten : ℕ
ten_to_ten = 10000000000

thousandfold : (i : ℕ) → 1000 ^ Q * (10 ^ i * 10 ^ (7 * Q)) ≡ 10 ^ i * ten_to_ten ^ Q
thousandfold i =
    mul_left_comm (1000 ^ Q) (10 ^ i) (10 ^ (7 * Q))
    ∙ ap (λ (k : ℕ). 10 ^ i * k) (ap (λ (k : ℕ). 1000 ^ Q * k) (pow_mul 10 7 Q) ∙ sym (mul_pow 1000 10000000 Q))

-- The numbers of an oil, compared by logarithms. For the viscosities p is tried with an oil that is thicker by a unit, and p + 1 with one that is thinner by
-- a unit: so Q·N is neither of the two. `most` and `least` bound 10^(7 + 3) times 10^N at p and at p + 1.
pub record Numbers (u y h p most least : ℕ) : Type 0 where
  pub h_is : h_at y ≡ h
  pub y_log : Enclosed y (log2_of y)
  pub h_log : Enclosed h (log2_of h)
  pub thicker_log : Enclosed (in_units u + 1) (log2_of (in_units u + 1))
  pub thinner_log : Enclosed (in_units u - 1) (log2_of (in_units u - 1))
  pub most_log : Enclosed most (log2_of most)
  pub least_log : Enclosed least (log2_of least)
  pub lower : (log2_of y + width) * p + (log2_of (in_units u + 1) + width) * Q_number ≤ log1000 * p + log2_of h * Q_number
  pub upper : (log1000 + 1) * suc p + (log2_of h + width) * Q_number ≤ log2_of y * suc p + log2_of (in_units u - 1) * Q_number
  pub index_most : (log10 + 1) * p + (log2_of ten_to_ten + width) * Q_number ≤ log2_of most * Q_number
  pub index_least : (log2_of least + width) * Q_number ≤ log10 * suc p + log2_of ten_to_ten * Q_number

module _ (u y h p most least : ℕ) (some : 0 < u) (base : 1000 < y) (o : Numbers u y h p most least) where
  -- ---- the viscosities

  thicker : y ^ p * (in_units u + 1) ^ Q ≤ 1000 ^ p * h_at y ^ Q
  thicker =
      rw o.h_is
      (powers_le scale p Q y (in_units u + 1) 1000 h (log2_of y + width) (log2_of (in_units u + 1) + width) log1000 (log2_of h) scale_positive
      o.y_log.above o.thicker_log.above thousand.below o.h_log.below (rw Q_is o.lower))

  thinner : 1000 ^ suc p * h_at y ^ Q ≤ y ^ suc p * (in_units u - 1) ^ Q
  thinner =
      rw o.h_is
      (powers_le scale (suc p) Q 1000 h y (in_units u - 1) (log1000 + 1) (log2_of h + width) (log2_of y) (log2_of (in_units u - 1)) scale_positive
      thousand.above o.h_log.above o.y_log.below o.thinner_log.below (rw Q_is o.upper))

  -- a numerator that is at most Q·N of the thicker of two oils is below one that is at least that of the thinner
  apart : (v w i j : ℕ) → v < w → y ^ i * w ^ Q ≤ 1000 ^ i * h_at y ^ Q → 1000 ^ j * h_at y ^ Q ≤ y ^ j * v ^ Q → i < j
  apart v w i j l low high =
      exponents_apart 1000 y (v ^ Q) (w ^ Q) (h_at y ^ Q) i j (omega arith) base (pow-lt-pow_left l (λ z. omega (arith, Q_is))) low high

  pub lower_most : (r p' : ℕ) → AtLeast u y r p' → p' ≤ p
  lower_most r p' a = omega (arith, apart (in_units u - 1) (in_units u) p' (suc p) (omega arith) a.viscosity thinner)

  pub upper_least : (r P' : ℕ) → AtMost u y r P' → p < P'
  upper_least r P' a = apart (in_units u) (in_units u + 1) p P' (omega arith) thicker a.viscosity

  -- ---- the index

  at_most : 10 ^ p * ten_to_ten ^ Q ≤ most ^ Q
  at_most =
      power_below p Q most ten_to_ten (log2_of most) (log2_of ten_to_ten + width) o.most_log.below (enclosed ten_to_ten tt tt).above
      (rw Q_is o.index_most)

  at_least : least ^ Q ≤ 10 ^ suc p * ten_to_ten ^ Q
  at_least =
      power_above (suc p) Q least ten_to_ten (log2_of least + width) (log2_of ten_to_ten) o.least_log.above (enclosed ten_to_ten tt tt).below
      (rw Q_is o.index_least)

  least_bound : (r p' : ℕ) → AtLeast u y r p' → 1000 * c r ≤ most
  least_bound r p' a =
      root Q (omega (arith, Q_is))
      (le_trans (le_of_eq (mul_pow 1000 (c r) Q))
      (le_trans (mul-le-mul_left (1000 ^ Q) (le_trans a.index (mul-le-mul_right (10 ^ (7 * Q)) (pow-le-pow_right (omega arith) (lower_most r p' a)))))
      (le_trans (le_of_eq (thousandfold p)) at_most)))

  most_bound : (r P' : ℕ) → AtMost u y r P' → least ≤ 1000 * c r
  most_bound r P' a =
      root Q (omega (arith, Q_is))
      (le_trans at_least
      (le_trans (le_of_eq (sym (thousandfold (suc p))))
      (le_trans (mul-le-mul_left (1000 ^ Q) (le_trans (mul-le-mul_right (10 ^ (7 * Q)) (pow-le-pow_right (omega arith) (upper_least r P' a))) a.index))
      (le_of_eq (sym (mul_pow 1000 (c r) Q))))))

  -- both at once: what one p shows to be at least r and one P to be at most s
  pub bounds : (r s p' P' : ℕ) → AtLeast u y r p' → AtMost u y s P' → (1000 * c r ≤ most) × (least ≤ 1000 * c s)
  bounds r s p' P' a b = (least_bound r p' a, most_bound s P' b)
