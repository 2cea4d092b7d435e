-- From enclosed logarithms to powers of ten at or below, or at or above, those of x / u; and from whole exponents n and s to the fraction
-- (n − s) / Q with its sign, and back.
use Prim.Native.Nat.{ℕ, zero, suc, ◌+◌, ◌*◌, ◌-◌, ◌^◌, ◌≤◌}
use mathlib.Core.Path.{◌≡◌, sym, ◌∙◌, ap, subst}
use native.Mathlib.Omega.{arith}
use native.Mathlib.Nat.{le_trans, le_of_eq, mul-le-mul_left, mul_assoc, one-mul}
use lib.Pow.{pow-add}
use lib.IntN.{pos, sub_ℕ}
use Rattle.laws.proofs.Difference.{sub_pos, sub_neg}
use Rattle.laws.proofs.Order.{by_order}
use Rattle.laws.proofs.Powers.{one_pow, cancel_power}
use Rattle.logarithm.specs.Scale.{scale, log10}
use Rattle.logarithm.specs.Fractions.{Q, AtOrBelowLog, AtOrAboveLog}
use Rattle.logarithm.proofs.Constants.{ten}
use Rattle.logarithm.proofs.FromLogarithms.{powers_le, one_above, one_below, scale_positive}

-- ---- from logarithms to powers of ten: the exponent p is not below zero, and q may be any number

no_factor : (p x : ℕ) → 1 ^ p * x ≡ x
no_factor p x = ap (λ (k : ℕ). k * x) (one_pow p) ∙ one-mul x

-- l is a lower logarithm of x, m an upper one of u
pub power_below : (p q x u l m : ℕ) → 2 ^ l ≤ x ^ scale → u ^ scale ≤ 2 ^ m → (log10 + 1) * p + m * q ≤ l * q → 10 ^ p * u ^ q ≤ x ^ q
power_below p q x u l m below above h =
    le_trans (powers_le scale p q 10 u 1 x (log10 + 1) m 0 l scale_positive ten.above above (one_below scale) below (omega (arith, h)))
    (le_of_eq (no_factor p (x ^ q)))

-- l is an upper logarithm of x, m a lower one of u
pub power_above : (p q x u l m : ℕ) → x ^ scale ≤ 2 ^ l → 2 ^ m ≤ u ^ scale → l * q ≤ log10 * p + m * q → x ^ q ≤ 10 ^ p * u ^ q
power_above p q x u l m above below h =
    le_trans (le_of_eq (sym (no_factor p (x ^ q))))
    (powers_le scale p q 1 x 10 u 0 l log10 m scale_positive (one_above scale) above ten.below below (omega (arith, h)))

-- ---- the sign: f = n − s, with every exponent a variable. Where a power of ten stands on both sides, it is cancelled

below_pos : (k x u : ℕ) → 10 ^ k * u ^ Q ≤ x ^ Q → AtOrBelowLog x u (pos k)
below_pos zero x u h = le_trans (le_of_eq (sym (one-mul (u ^ Q)))) h
below_pos (suc k) x u h = h

above_pos : (k x u : ℕ) → x ^ Q ≤ 10 ^ k * u ^ Q → AtOrAboveLog x u (pos k)
above_pos zero x u h = le_trans h (le_of_eq (one-mul (u ^ Q)))
above_pos (suc k) x u h = h

pos_below : (k x u : ℕ) → AtOrBelowLog x u (pos k) → 10 ^ k * u ^ Q ≤ x ^ Q
pos_below zero x u h = le_trans (le_of_eq (one-mul (u ^ Q))) h
pos_below (suc k) x u h = h

pos_above : (k x u : ℕ) → AtOrAboveLog x u (pos k) → x ^ Q ≤ 10 ^ k * u ^ Q
pos_above zero x u h = le_trans h (le_of_eq (sym (one-mul (u ^ Q))))
pos_above (suc k) x u h = h

-- 10^a · v is 10^b · (10^c · v), where a = b + c
split : (a b c v : ℕ) → a ≡ b + c → 10 ^ a * v ≡ 10 ^ b * (10 ^ c * v)
split a b c v e = ap (λ (k : ℕ). 10 ^ k * v) e ∙ ap (λ (k : ℕ). k * v) (pow-add 10 b c) ∙ mul_assoc (10 ^ b) (10 ^ c) v

module _ (n s x u : ℕ) where
  pub signed_below : 10 ^ n * u ^ Q ≤ 10 ^ s * x ^ Q → AtOrBelowLog x u (sub_ℕ n s)
  signed_below h =
      by_order n s
      (λ l. subst (AtOrBelowLog x u) (sym (sub_neg n s l))
      (cancel_power 10 n (omega arith) (le_trans h (le_of_eq (split s n (suc (s - suc n)) (x ^ Q) (omega arith))))))
      (λ l. subst (AtOrBelowLog x u) (sym (sub_pos n s l))
      (below_pos (n - s) x u (cancel_power 10 s (omega arith) (le_trans (le_of_eq (sym (split n s (n - s) (u ^ Q) (omega arith)))) h))))

  pub signed_above : 10 ^ s * x ^ Q ≤ 10 ^ n * u ^ Q → AtOrAboveLog x u (sub_ℕ n s)
  signed_above h =
      by_order n s
      (λ l. subst (AtOrAboveLog x u) (sym (sub_neg n s l))
      (cancel_power 10 n (omega arith) (le_trans (le_of_eq (sym (split s n (suc (s - suc n)) (x ^ Q) (omega arith)))) h)))
      (λ l. subst (AtOrAboveLog x u) (sym (sub_pos n s l))
      (above_pos (n - s) x u (cancel_power 10 s (omega arith) (le_trans h (le_of_eq (split n s (n - s) (u ^ Q) (omega arith)))))))

  pub unsigned_below : AtOrBelowLog x u (sub_ℕ n s) → 10 ^ n * u ^ Q ≤ 10 ^ s * x ^ Q
  unsigned_below h =
      by_order n s
      (λ l. le_trans (mul-le-mul_left (10 ^ n) (subst (AtOrBelowLog x u) (sub_neg n s l) h))
      (le_of_eq (sym (split s n (suc (s - suc n)) (x ^ Q) (omega arith)))))
      (λ l. le_trans (le_of_eq (split n s (n - s) (u ^ Q) (omega arith)))
      (mul-le-mul_left (10 ^ s) (pos_below (n - s) x u (subst (AtOrBelowLog x u) (sub_pos n s l) h))))

  pub unsigned_above : AtOrAboveLog x u (sub_ℕ n s) → 10 ^ s * x ^ Q ≤ 10 ^ n * u ^ Q
  unsigned_above h =
      by_order n s
      (λ l. le_trans (le_of_eq (split s n (suc (s - suc n)) (x ^ Q) (omega arith)))
      (mul-le-mul_left (10 ^ n) (subst (AtOrAboveLog x u) (sub_neg n s l) h)))
      (λ l. le_trans (mul-le-mul_left (10 ^ s) (pos_above (n - s) x u (subst (AtOrAboveLog x u) (sub_pos n s l) h)))
      (le_of_eq (sym (split n s (n - s) (u ^ Q) (omega arith)))))
