-- The numbers of a summary fit their fields: what a sum with sign may come to, and what holds of a summary with one answer more.
use Prim.Native.Nat.{ℕ, suc, ◌+◌, ◌≤◌, ◌<◌}
use native.Mathlib.Omega.{arith}
use lib.IntN.{ℤ, pos, negsuc, ◌+ℤ◌}
use lib.Signed.{mag}
use Rattle.std.specs.Int.{int_min, int_max}
use Rattle.laws.specs.Bits.{span32}
use Rattle.index.specs.declared.answer.Index.{Index}
use Rattle.index.specs.Answer.{index_of, method_of}
use Rattle.std.specs.Prelude.{Result}
use Rattle.index_summary.specs.declared.Summary.{Summary}
use Rattle.index_summary.specs.Summary.{one, method_a, method_settled, method_near, joined_of, nothing}
use Rattle.index_summary.specs.Preconditions.{Within}

-- ---- a sum

sum_mag : (a b : ℤ) → mag (a +ℤ b) ≤ mag a + mag b + 1
sum_mag (pos a) (pos b) = omega arith
sum_mag (pos a) (negsuc b) = grind arith
sum_mag (negsuc a) (pos b) = grind arith
sum_mag (negsuc a) (negsuc b) = omega arith

-- ---- one answer more

at_most_one : (method same : ℕ) → one method same ≤ 1
at_most_one method same = grind arith

min_mag : (a b : ℤ) (m : ℕ) → mag a ≤ m → mag b ≤ m → mag (int_min a b) ≤ m
min_mag a b m p q = grind arith

max_mag : (a b : ℤ) (m : ℕ) → mag a ≤ m → mag b ≤ m → mag (int_max a b) ≤ m
max_mag a b m p q = grind arith

module _ {R : Type 0} (n : ℕ) (x : Result Index R) (small : mag (index_of x) < span32) where
  pub joined_within : (t : Summary) → Within n t → Within (suc n) (joined_of t x)
  unfolding joined_of
  joined_within t w = record {
    lowest = min_mag t.lowest (index_of x) span32 w.lowest (omega arith);
    highest = max_mag t.highest (index_of x) span32 w.highest (omega arith);
    sum = omega (arith, sum_mag t.sum (index_of x), w.sum);
    a = omega (arith, at_most_one (method_of x) method_a, w.a);
    settled = omega (arith, at_most_one (method_of x) method_settled, w.settled);
    near = omega (arith, at_most_one (method_of x) method_near, w.near);
  }

pub nothing_within : Within 0 nothing
nothing_within = record { lowest = omega arith; highest = omega arith; sum = omega arith; a = omega arith; settled = omega arith; near = omega arith }

pub within_more : (n m : ℕ) (t : Summary) → n ≤ m → Within n t → Within m t
within_more n m t l w = record {
  lowest = w.lowest;
  highest = w.highest;
  sum = omega (arith, w.sum);
  a = omega (arith, w.a);
  settled = omega (arith, w.settled);
  near = omega (arith, w.near);
}
