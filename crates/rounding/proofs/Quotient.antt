-- A quotient to the nearest whole number as the code computes it: the quotient rounded down and one more or not, and a difference over d as an even number less
-- a rounded quotient; that the latter fits 32 bits, never rises with what is subtracted, and is at most k where the quotient is.
use Prim.Native.Nat.{ℕ, ◌+◌, ◌*◌, ◌%◌, ◌<◌, ◌≤◌}
use mathlib.Core.Path.{◌≡◌, sym}
use borrow.Author.Tests.{lt-ltb, le-ltb}
use lib.Dec.{ltb}
use Rattle.std.specs.Int.{from_bool}
use lib.IntN.{pos, sub_ℕ}
use lib.Signed.{◌≤ℤ◌, mag}
use native.Mathlib.Nat.{add-mul, mul-le-mul_right, lt_of_mul-lt-mul_right}
use native.Mathlib.Omega.{arith}
use Rattle.laws.specs.Bits.{half32}
use Rattle.laws.proofs.Difference.{sub_le, sub_falls, sub_times, pos_is, difference_fits}
use Rattle.laws.proofs.Order.{by_order}
use Rattle.rounding.specs.Nearest.{nearer, nearest_whole, nearest}
use Rattle.rounding.specs.HalfToEven.{HalfToEven}
use Rattle.rounding.specs.Preconditions.{QuotientFits}
use Rattle.rounding.proofs.HalfToEven.{WithinHalf, from_within_half, whole_within_half, nearest_is, nearest_only, half_to_even_rises, every_quotient}

-- q and r / d more: one more where r, twice, and 1 beside an odd q come to more than d
pub one_more : (q r d : ℕ) → q + from_bool (ltb d (2 * r + q % 2)) ≡ nearer q r d
one_more q r d =
    by_order (2 * r) d
    (λ l. rw (lt-ltb (2 * r) d l, le-ltb d (2 * r + q % 2) (omega arith)) (omega arith))
    (λ l. rw (le-ltb (2 * r) d l)
    (by_order d (2 * r)
    (λ m. rw (lt-ltb d (2 * r) m, lt-ltb d (2 * r + q % 2) (omega arith)) (omega arith))
    (λ m. rw (le-ltb d (2 * r) m)
    (by_order (q % 2) 1
    (λ n. rw (le-ltb d (2 * r + q % 2) (omega arith)) (omega arith))
    (λ n. rw (lt-ltb d (2 * r + q % 2) (omega arith)) (omega arith))))))

-- w is even, and so is w less the number that a half goes to
less_within_half : (w x q d : ℕ) → w % 2 ≡ 0 → WithinHalf x 0 q 0 d → WithinHalf (w * d) x w q d
less_within_half w x q d even n =
    record {
      low = omega (arith, n.high);
      high = omega (arith, n.low);
      low_even = λ e. omega (arith, even, n.high_even (omega (arith, e)));
      high_even = λ e. omega (arith, even, n.low_even (omega (arith, e)));
    }

-- w − x / d to the nearest is w less x / d to the nearest
pub nearest_less : (w x d : ℕ) → 0 < d → w % 2 ≡ 0 → nearest (sub_ℕ (w * d) x) d ≡ sub_ℕ w (nearest_whole x d)
nearest_less w x d some even =
    let q = nearest_whole x d in
    sym (nearest_only (sub_ℕ (w * d) x) d (sub_ℕ w q) some (from_within_half (w * d) x w q d (less_within_half w x q d even (whole_within_half x d some))))

-- what is subtracted fits
pub subtrahend_fits : (w x d : ℕ) → QuotientFits w x d → nearest_whole x d < half32
subtrahend_fits w x d f =
    lt_of_mul-lt-mul_right d (omega (arith, (whole_within_half x d f.some).low, f.fits, f.some))

pub nearest_fits : (w x d : ℕ) → QuotientFits w x d → mag (nearest (sub_ℕ (w * d) x) d) < half32
nearest_fits w x d f = rw (nearest_less w x d f.some f.even_w) (difference_fits w _ f.small_w (subtrahend_fits w x d f))

pub nearest_falls : (a b c d : ℕ) → 0 < d → b ≤ c → nearest (sub_ℕ a c) d ≤ℤ nearest (sub_ℕ a b) d
nearest_falls a b c d some h =
    every_quotient.rises (sub_ℕ a c) (sub_ℕ a b) d d some some
    (rw (sub_times d a c, sub_times d a b) (sub_falls (a * d) (b * d) (c * d) (mul-le-mul_right d h)))

-- k itself is the nearest to k·d / d
exact : (k d : ℕ) → 0 < d → HalfToEven (sub_ℕ (k * d) 0) d (sub_ℕ k 0)
exact k d some =
    from_within_half (k * d) 0 k 0 d
    (record { low = omega arith; high = omega arith; low_even = λ e. absurd (omega arith); high_even = λ e. absurd (omega arith) })

pub nearest_most : (a b d k : ℕ) → 0 < d → a ≤ b + k * d → nearest (sub_ℕ a b) d ≤ℤ pos k
nearest_most a b d k some h =
    rw (pos_is k)
    (half_to_even_rises (sub_ℕ a b) (sub_ℕ (k * d) 0) d d (nearest (sub_ℕ a b) d) (sub_ℕ k 0) (nearest_is (sub_ℕ a b) d some) (exact k d some) some some
    (rw (sub_times d a b, sub_times d (k * d) 0) (sub_le (a * d) (b * d) (k * d * d) (0 * d) (omega (arith, mul-le-mul_right d h, add-mul b (k * d) d)))))
