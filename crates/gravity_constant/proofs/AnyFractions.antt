-- What holds of any two fractions that enclose the logarithm at most 64 apart, whoever found them: counted from −4, as n / Q − 4, no n is below zero,
-- and powers of ten bound both.
use Prim.Native.Nat.{ℕ, zero, suc, ◌+◌, ◌*◌, ◌^◌, ◌≤◌}
use mathlib.Core.Path.{◌≡◌, sym, ap, ◌∙◌, subst, subst₂}
use native.Mathlib.Omega.{arith}
use native.Mathlib.Nat.{le_trans, le_of_eq, mul_assoc, mul_comm, mul-le-mul_left, pow-le-pow_left, one-le-pow, mul-one}
use lib.Pow.{pow-add}
use lib.IntN.{ℤ, pos, negsuc, sub_ℕ, ◌-ℤ◌}
use lib.Signed.{◌≤ℤ◌}
use Rattle.laws.proofs.Difference.{CountedFrom, counted_from, pos_is, neg_is, sub_sub, sub_le, le_sub, pos_le, order_joins}
use Rattle.laws.proofs.Powers.{pow_one, mul_pow, pow_mul, cancel_power, exponents_le}
use Rattle.logarithm.specs.Fractions.{Q, Q_is, Q_number, AtOrBelowLog, AtOrAboveLog}
use Rattle.logarithm.proofs.Fractions.{unsigned_below, unsigned_above}

-- from where n counts, and the n of a logarithm of 0
abbrev pub decades : ℕ
decades = 4

abbrev pub from : ℕ
from = decades * Q_number

-- ---- by powers of ten. The exponents are kept as multiples of Q, which is shut

from_is : 4 * Q ≡ from
from_is = omega (arith, Q_is)

-- 10^(4·Q) · x^Q is 1000^Q · (10·x)^Q
tenfold : (x : ℕ) → 10 ^ (4 * Q) * x ^ Q ≡ 1000 ^ Q * (10 * x) ^ Q
tenfold x =
    ap (λ (k : ℕ). k * x ^ Q) (pow_mul 10 4 Q ∙ mul_pow 1000 10 Q)
    ∙ mul_assoc (1000 ^ Q) (10 ^ Q) (x ^ Q) ∙ ap (λ (k : ℕ). 1000 ^ Q * k) (sym (mul_pow 10 x Q))

module _ (n x : ℕ) where
  pub power_of_lower : AtOrBelowLog x 1000 (sub_ℕ n from) → 10 ^ n ≤ (10 * x) ^ Q
  power_of_lower h =
      cancel_power 1000 Q (omega arith)
      (le_trans (le_of_eq (mul_comm (1000 ^ Q) (10 ^ n)))
      (le_trans (unsigned_below n (4 * Q) x 1000 (subst (λ (s : ℕ). AtOrBelowLog x 1000 (sub_ℕ n s)) (sym from_is) h)) (le_of_eq (tenfold x))))

  pub power_of_upper : AtOrAboveLog x 1000 (sub_ℕ n from) → (10 * x) ^ Q ≤ 10 ^ n
  power_of_upper h =
      cancel_power 1000 Q (omega arith)
      (le_trans (le_of_eq (sym (tenfold x)))
      (le_trans (unsigned_above n (4 * Q) x 1000 (subst (λ (s : ℕ). AtOrAboveLog x 1000 (sub_ℕ n s)) (sym from_is) h))
      (le_of_eq (mul_comm (10 ^ n) (1000 ^ Q)))))

-- an upper fraction is not below −3, since x is at least 1
upper_not_low : (x : ℕ) (z : ℤ) → 1 ≤ x → AtOrAboveLog x 1000 z → sub_ℕ 0 (3 * Q_number) ≤ℤ z
upper_not_low x (pos n) some h = subst (λ (z : ℤ). sub_ℕ 0 (3 * Q_number) ≤ℤ z) (sym (pos_is n)) (sub_le 0 (3 * Q_number) n 0 (omega arith))
upper_not_low x (negsuc n) some h =
    let p : 10 ^ suc n * 1 ≤ 10 ^ suc n * x ^ Q = mul-le-mul_left (10 ^ suc n) (one-le-pow Q x some) in
    let e = exponents_le 10 (suc n) (3 * Q) (omega arith) (le_trans (le_trans (le_of_eq (sym (mul-one (10 ^ suc n)))) p) (le_trans h (le_of_eq (sym (pow_mul 10 3 Q))))) in
    subst (λ (z : ℤ). sub_ℕ 0 (3 * Q_number) ≤ℤ z) (sym (neg_is (suc n))) (sub_le 0 (3 * Q_number) 0 (suc n) (omega (arith, e, Q_is)))

-- ---- any two that enclose

pub record Between (x : ℕ) (lower upper : ℤ) : Type 0 where
  pub n : ℕ
  pub m : ℕ
  pub lower_is : lower ≡ sub_ℕ n from
  pub upper_is : upper ≡ sub_ℕ m from
  pub below : 10 ^ n ≤ (10 * x) ^ Q
  pub above : (10 * x) ^ Q ≤ 10 ^ m
  pub close : m ≤ n + 64

-- the two with sign, from the same two counted: their order and how far they are apart
apart_is : (u a l b : ℕ) → (sub_ℕ u a -ℤ sub_ℕ l b) ≤ℤ pos 64 → u + b ≤ a + l + 64
apart_is u a l b h =
    omega (arith, le_sub (u + b) (a + l) 64 0 (subst (λ (z : ℤ). z ≤ℤ pos 64) (sub_sub u a l b) h))

-- a lower one is not below −4: it is at most 64 below its upper one
lower_not_low : (lower upper : ℤ) → CountedFrom (3 * Q_number) upper → (upper -ℤ lower) ≤ℤ pos 64 → sub_ℕ 0 from ≤ℤ lower
lower_not_low (pos n) upper c h = subst (λ (z : ℤ). sub_ℕ 0 from ≤ℤ z) (sym (pos_is n)) (sub_le 0 from n 0 (omega arith))
lower_not_low (negsuc n) upper c h =
    let a = apart_is c.n (3 * Q_number) 0 (suc n) (subst₂ (λ (y z : ℤ). (y -ℤ z) ≤ℤ pos 64) c.is (neg_is (suc n)) h) in
    subst (λ (z : ℤ). sub_ℕ 0 from ≤ℤ z) (sym (neg_is (suc n))) (sub_le 0 from 0 (suc n) (omega arith))

pub between : (x : ℕ) (lower upper : ℤ) → 1 ≤ x → AtOrBelowLog x 1000 lower → AtOrAboveLog x 1000 upper → (upper -ℤ lower) ≤ℤ pos 64
    → Between x lower upper
between x lower upper some below above close =
    let not_low = upper_not_low x upper some above in
    let l = counted_from from lower (lower_not_low lower upper (counted_from (3 * Q_number) upper not_low) close) in
    let u = counted_from from upper (order_joins (sub_le 0 from 0 (3 * Q_number) (omega arith)) not_low) in
    record {
      n = l.n;
      m = u.n;
      lower_is = l.is;
      upper_is = u.is;
      below = power_of_lower l.n x (subst (AtOrBelowLog x 1000) l.is below);
      above = power_of_upper u.n x (subst (AtOrAboveLog x 1000) u.is above);
      close = omega (arith, apart_is u.n from l.n from (subst₂ (λ (y z : ℤ). (y -ℤ z) ≤ℤ pos 64) u.is l.is close));
    }

-- where x is at most 10^k, the logarithm is at most k − 3, and so are both fractions, but for the 64
pub most : (x k : ℕ) (lower upper : ℤ) → x ≤ 10 ^ k → (b : Between x lower upper) → (b.n ≤ (k + 1) * Q_number) × (b.m ≤ (k + 1) * Q_number + 64)
most x k lower upper few b =
    let e : b.n ≤ (k + 1) * Q = exponents_le 10 b.n ((k + 1) * Q) (omega arith) (le_trans b.below (le_trans (pow-le-pow_left more Q) (le_of_eq (sym (pow_mul 10 (k + 1) Q))))) in
    let f : b.n ≤ (k + 1) * Q_number = subst (λ (q : ℕ). b.n ≤ (k + 1) * q) Q_is e in
    (f, omega (arith, f, b.close))
  where
    more : 10 * x ≤ 10 ^ (k + 1)
    more = le_trans (mul-le-mul_left 10 few) (le_of_eq (mul_comm 10 (10 ^ k) ∙ ap (λ (j : ℕ). 10 ^ k * j) (sym (pow_one 10)) ∙ sym (pow-add 10 k 1)))

-- ---- where the logarithm is 0

-- a power of ten that is at most 1 has the exponent 0
none : (n : ℕ) → 10 ^ suc n * 1000 ^ Q ≤ 1000 ^ Q → ⊥
none n h =
    let p : 10 ^ suc n ≤ 10 ^ 0 =
    cancel_power 1000 Q (omega arith)
    (le_trans (le_of_eq (mul_comm (1000 ^ Q) (10 ^ suc n))) (le_trans h (le_of_eq (sym (mul-one (1000 ^ Q)))))) in
    omega (arith, exponents_le 10 (suc n) 0 (omega arith) p)

pub not_above_zero : (f : ℤ) → AtOrBelowLog 1000 1000 f → f ≤ℤ pos 0
not_above_zero (pos zero) h = record { le = tt }
not_above_zero (pos (suc n)) h = absurd (none n h)
not_above_zero (negsuc n) h = record { le = tt }

pub not_below_zero : (f : ℤ) → AtOrAboveLog 1000 1000 f → pos 0 ≤ℤ f
not_below_zero (pos n) h = pos_le 0 n (omega arith)
not_below_zero (negsuc n) h = absurd (none n h)
