-- The logarithm of c grows from one hundredth of an index to the next by more than every enclosure and both fractions can be off: this is why a test
-- that fails on both sides of a half leaves the index beside that half.
use Prim.Native.Nat.{ℕ, ◌+◌, ◌*◌, ◌-◌, ◌^◌, ◌≤◌, ◌<◌}
use mathlib.Core.Path.{◌≡◌, refl, sym, ◌∙◌, ap, subst}
use native.Mathlib.Omega.{arith}
use native.Mathlib.Nat.{le_trans, le_of_eq, mul-le-mul_left}
use lib.Pow.{pow-add}
use Rattle.laws.proofs.Powers.{exponents_le, power_growth}
use Rattle.logarithm.specs.Scale.{scale, scale_is, width}
use Rattle.logarithm.specs.Log2.{log2_of}
use Rattle.logarithm.specs.Preconditions.{InRange}
use Rattle.logarithm.proofs.Certificate.{least, at_least, least_power}
use Rattle.logarithm.proofs.Log2.{log2_enclosed}
use Rattle.shown_index.specs.Terms.{c}
use Rattle.shown_index.specs.Preconditions.{least_r, most_r}

-- what 715 more in c add to its scaled logarithm at least: with E = 2^18 · 2^18 and c at most 4 · 2^18 · 715, the power 2^18 of c grows
-- by 5/4 at least, and (5/4)^(2^18) is at least 2^84391. `power` is a shut name for 2^18
abbrev pub growth : ℕ
growth = 84391

abbrev pub greatest_c : ℕ
greatest_c = 749731840

power : ℕ
power = 2 ^ 18

power_is : power ≡ 2 ^ 18
unfolding power
power_is = refl

scale_split : 262144 * power ≡ scale
scale_split = ap (λ (n : ℕ). 262144 * n) power_is ∙ sym scale_is

five_fourths : 2 ^ growth * 4 ^ power ≤ 5 ^ power
unfolding at_least least
five_fourths = least_power 18 0 5 4 growth power power_is tt

grows : (x d : ℕ) → 0 < x → x ≤ greatest_c → 715 ≤ d → 2 ^ growth * x ^ scale ≤ (x + d) ^ scale
grows x d z h l = subst (λ (s : ℕ). 2 ^ growth * x ^ s ≤ (x + d) ^ s) scale_split (power_growth growth 4 262144 power x d (omega arith) five_fourths z (omega arith))

-- lower logarithm a of x and upper logarithm B of a z at least 715 greater
pub apart : (x z a B : ℕ) → 0 < x → x ≤ greatest_c → x + 715 ≤ z → 2 ^ a ≤ x ^ scale → z ^ scale ≤ 2 ^ B → growth + a ≤ B
apart x z a B p h l below above =
    let e : x + (z - x) ≡ z = omega arith in
    let g : 2 ^ growth * x ^ scale ≤ z ^ scale = subst (λ (n : ℕ). 2 ^ growth * x ^ scale ≤ n ^ scale) e (grows x (z - x) p h (omega arith)) in
    exponents_le 2 (growth + a) B (omega arith) (le_trans (le_of_eq (pow-add 2 growth a)) (le_trans (mul-le-mul_left (2 ^ growth) below) (le_trans g above)))

-- every c that is looked at has an enclosed logarithm
pub c_range : (r : ℕ) → least_r ≤ r → r ≤ most_r → InRange (c r)
c_range r l h = record { least = omega arith; most = omega arith }

-- so the logarithms of c at two indices r < s lie apart by the growth, but for what an enclosure is off
pub c_apart : (r s : ℕ) → least_r ≤ r → r < s → s ≤ most_r → growth + log2_of (c r) ≤ log2_of (c s) + width
c_apart r s l h m =
    let e = log2_enclosed (c r) (c_range r l (omega arith)) in
    let f = log2_enclosed (c s) (c_range s (omega arith) m) in
    apart (c r) (c s) (log2_of (c r)) (log2_of (c s) + width) (omega arith) (omega arith) (omega arith) e.below f.above
