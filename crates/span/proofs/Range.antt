-- How far H at one viscosity can be above another viscosity that is at most 200 lower: (H/U)^6 ≤ Y^11 with U at or above the first and Y the second. Up to 70,000 by one
-- test that the checker computes at steps of 50, H at the next step against the viscosity at this one; above by an easy bound for the quadratic.
use Prim.Native.Nat.{ℕ, ◌+◌, ◌*◌, ◌-◌, ◌/◌, ◌^◌, ◌<◌, ◌≤◌}
use mathlib.Core.Path.{◌≡◌, subst}
use mathlib.Core.Bool.{Bool}
use lib.Dec.{T, leb, leb→le, lit≤}
use lib.Pow.{pow-add}
use native.Mathlib.Omega.{arith}
use native.Mathlib.Nat.{le_trans, le_refl, mul-le-mul, mul-le-mul_left, mul-le-mul_right, pow-le-pow_left}
use borrow.Author.Tests.{lt-leb}
use Rattle.laws.proofs.Computed.{up_to, below}
use Rattle.laws.proofs.Order.{by_order}
use Rattle.laws.proofs.Powers.{ring, mul_pow}
use Rattle.reference.specs.Table1.{table1}
use Rattle.reference.specs.Viscosity.{least100, greatest100, units_per_thousandth, in_units}
use Rattle.reference.specs.Basis.{entry, last_row, at_place, quadratic_h, h_at}
use Rattle.reference.proofs.Climb.{climbs}
use Rattle.span.specs.Questions.{widest}

abbrev pub Far : ℕ → ℕ → ℕ → Type 0
Far h v y = h ^ 6 * 1000 ^ 11 ≤ in_units v ^ 6 * y ^ 11

-- ---- up to the last row

-- how many steps of 50 there are from the least viscosity to the last row
abbrev steps : ℕ
steps = 1360

far_at_step : ℕ → Bool
far_at_step k = leb (h_at (least100 + 50 * (k + 1)) ^ 6 * 1000 ^ 11) (in_units (least100 + 50 * k) ^ 6 * (least100 + (50 * k - widest)) ^ 11)

every_step : T (up_to far_at_step steps)
unfolding far_at_step h_at at_place entry table1
every_step = tt

far_step : (k : ℕ) → k < steps → h_at (least100 + 50 * (k + 1)) ^ 6 * 1000 ^ 11 ≤ in_units (least100 + 50 * k) ^ 6 * (least100 + (50 * k - widest)) ^ 11
unfolding far_at_step
far_step k h = leb→le _ _ (below far_at_step steps every_step k h)

far_wider : (h g v w y z : ℕ) → h ≤ g → in_units v ≤ in_units w → y ≤ z → Far g v y → Far h w z
far_wider h g v w y z l m n f =
    le_trans (mul-le-mul_right (1000 ^ 11) (pow-le-pow_left l 6))
    (le_trans f (mul-le-mul (pow-le-pow_left m 6) (pow-le-pow_left n 11)))

in_table : (at y : ℕ) → least100 ≤ at → at < last_row → least100 ≤ y → at ≤ y + widest → Far (h_at at) at y
in_table at y low high least close =
    let k = (at - least100) / 50 in
    let here : least100 + 50 * k ≤ at = omega arith in
    let beyond : at ≤ least100 + 50 * (k + 1) = omega arith in
    let few : k < steps = omega arith in
    far_wider (h_at at) (h_at (least100 + 50 * (k + 1))) (least100 + 50 * k) at (least100 + (50 * k - widest)) y
    (climbs at (least100 + 50 * (k + 1)) low beyond (omega arith)).h (omega arith) (omega arith) (far_step k few)

at_last_row : Far (h_at last_row) last_row (last_row - widest)
unfolding h_at at_place entry table1
at_last_row = leb→le _ _ tt

-- ---- above it

above_algebra : (h c a t m y5 y6 : ℕ) → h ≤ c * (a * a) → a ≤ 64 * y6 → c * 64 * t ≤ m * y5 → h * t ≤ a * m * (y6 * y5)
above_algebra h c a t m y5 y6 f g k =
    le_trans (mul-le-mul_right t f)
    (le_trans (mul-le-mul_right t (mul-le-mul_left c (mul-le-mul_left a g)))
    (simp ring (omega (arith, simp ring at (mul-le-mul_left (a * y6) k)))))

above_table : (at y : ℕ) → last_row < at → at ≤ y + widest → Far (quadratic_h at) at y
above_table at y low close =
    let square : last_row * at ≤ at * at = mul-le-mul_right at (omega arith) in
    let h : quadratic_h at ≤ 3377 * (at * at) = omega arith in
    let h6 : quadratic_h at ^ 6 ≤ 3377 ^ 6 * (at ^ 6 * at ^ 6) = le_trans (pow-le-pow_left h 6) (rw (mul_pow 3377 (at * at) 6, mul_pow at at 6) (le_refl _)) in
    let twice : at ^ 6 ≤ 64 * y ^ 6 = le_trans (pow-le-pow_left {n = at} {m = 2 * y} (omega arith) 6) (rw (mul_pow 2 y 6) (le_refl _)) in
    let five : 3377 ^ 6 * 64 * 1000 ^ 11 ≤ units_per_thousandth ^ 6 * y ^ 5 =
    le_trans (lit≤ tt) (mul-le-mul_left (units_per_thousandth ^ 6) (pow-le-pow_left {n = last_row - widest} {m = y} (omega arith) 5)) in
    rw (mul_pow at units_per_thousandth 6, pow-add y 6 5)
    (above_algebra (quadratic_h at ^ 6) (3377 ^ 6) (at ^ 6) (1000 ^ 11) (units_per_thousandth ^ 6) (y ^ 5) (y ^ 6) h6 twice five)

above : (at y : ℕ) → last_row < at → at ≤ y + widest → Far (h_at at) at y
unfolding h_at
above at y b close = rw (lt-leb at last_row b) (above_table at y b close)

-- ---- at every viscosity

pub far : (at y : ℕ) → least100 ≤ at → at ≤ greatest100 → least100 ≤ y → at ≤ y + widest → Far (h_at at) at y
far at y low high least close =
    by_order at last_row (λ a. in_table at y low a least close)
    (λ a. by_order last_row at
    (λ b. above at y b close)
    (λ b. let e : last_row ≡ at = omega arith in
    subst (λ (n : ℕ). Far (h_at n) n y) e (far_wider (h_at last_row) (h_at last_row) last_row last_row (last_row - widest) y (le_refl _) (le_refl _) (omega arith) at_last_row)))
