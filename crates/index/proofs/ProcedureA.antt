-- The index of procedure A as the nearest whole number of one difference, and of the one that the code computes; at one y it never rises with u, and at
-- or above H it is at most 100, fits 32 bits, and at one u never falls as H and L − H rise.
use Prim.Native.Nat.{ℕ, ◌+◌, ◌*◌, ◌-◌, ◌<◌, ◌≤◌}
use mathlib.Core.Path.{◌≡◌, refl, ◌∙◌, ap}
use lib.IntN.{ℤ, pos, sub_ℕ, ◌-ℤ◌, ◌*ℤ◌}
use lib.Signed.{◌≤ℤ◌, mag}
use native.Mathlib.Omega.{arith}
use native.Mathlib.Nat.{mul-le-mul}
use Rattle.laws.proofs.Powers.{ring}
use Rattle.laws.proofs.Difference.{pos_less, times_sub, sub_times, sub_le, sub_same}
use Rattle.reference.specs.Viscosity.{least100, greatest100, in_units}
use Rattle.reference.specs.Basis.{l_at, h_at}
use Rattle.reference.proofs.Bounds.{bounds}
use Rattle.rounding.specs.Nearest.{nearest}
use Rattle.laws.specs.Bits.{half32}
use Rattle.rounding.specs.Preconditions.{QuotientFits}
use Rattle.rounding.proofs.HalfToEven.{every_quotient}
use Rattle.rounding.proofs.Quotient.{nearest_falls, nearest_most, nearest_fits}
use Rattle.index.specs.ProcedureA.{rounded_a, index_a}
use Rattle.index.specs.Preconditions.{Passes, FractionFits}

numerator : (l u : ℕ) → pos 100 *ℤ (pos l -ℤ pos u) ≡ sub_ℕ (100 * l) (100 * u)
numerator l u = ap (λ (z : ℤ). pos 100 *ℤ z) (pos_less l u) ∙ times_sub 100 l u

pub rounded : (l h u : ℕ) → rounded_a l h u ≡ nearest (sub_ℕ (100 * l) (100 * u)) (l - h)
unfolding rounded_a
rounded l h u = ap (λ (z : ℤ). nearest z (l - h)) (numerator l u)

-- the same from H on: 100 · (L − U) is 100 · (L − H) less 100 · (U − H)
pub rounded_from_h : (l h u : ℕ) → FractionFits l h u → rounded_a l h u ≡ nearest (sub_ℕ (100 * (l - h)) (100 * (u - h))) (l - h)
rounded_from_h l h u f =
    rounded l h u
    ∙ ap (λ (z : ℤ). nearest z (l - h)) (sub_same (100 * l) (100 * u) (100 * (l - h)) (100 * (u - h)) (omega (arith, f.at_or_above, f.apart)))

pub quotient_fits : (l h u : ℕ) → FractionFits l h u → QuotientFits 100 (100 * (u - h)) (l - h)
quotient_fits l h u f =
    record {
      some = omega (arith, f.apart);
      even_w = refl;
      small_w = omega arith;
      small_x = omega (arith, f.most_u);
      small_d = omega (arith, f.l_at_most);
      fits = omega (arith, f.apart, f.most_u);
    }

-- ---- of a pair

pub index_falls : (y u v : ℕ) → least100 ≤ y → y ≤ greatest100 → u ≤ v → index_a v y ≤ℤ index_a u y
unfolding index_a
index_falls y u v low high le =
    let b = bounds y low high in
    rw (rounded (l_at y) (h_at y) (in_units u), rounded (l_at y) (h_at y) (in_units v))
    (nearest_falls (100 * l_at y) (100 * in_units u) (100 * in_units v) (l_at y - h_at y) (omega (arith, b.apart)) (omega arith))

pub index_most : (y u : ℕ) → least100 ≤ y → y ≤ greatest100 → h_at y ≤ in_units u → index_a u y ≤ℤ pos 100
unfolding index_a
index_most y u low high le =
    let b = bounds y low high in
    rw (rounded (l_at y) (h_at y) (in_units u))
    (nearest_most (100 * l_at y) (100 * in_units u) (l_at y - h_at y) 100 (omega (arith, b.apart)) (omega (arith, b.apart)))

pub pair_fits : (u y : ℕ) → Passes u y → h_at y ≤ in_units u → FractionFits (l_at y) (h_at y) (in_units u)
pair_fits u y a le =
    let b = bounds y a.least a.most in
    record { at_or_above = le; apart = b.apart; l_at_most = b.l_at_most; most_u = omega (arith, a.thickest) }

-- where L − H does not fall (d ≤ e) and U − H does not rise (v ≤ w), what is subtracted from 100 does not rise
no_faster : (d e w v : ℕ) → d ≤ e → v ≤ w → 100 * d * e + 100 * v * d ≤ 100 * e * d + 100 * w * e
no_faster d e w v l h = simp ring (omega (arith, simp ring at (mul-le-mul h l)))

-- at one u that is at or above H it never falls as H and L − H rise
pub index_rises : (u y z : ℕ) → Passes u y → Passes u z → h_at y ≤ h_at z → l_at y - h_at y ≤ l_at z - h_at z → h_at z ≤ in_units u
    → index_a u y ≤ℤ index_a u z
unfolding index_a
index_rises u y z a b h more above =
    let f = pair_fits u y a (omega arith) in
    let g = pair_fits u z b above in
    let d = l_at y - h_at y in
    let e = l_at z - h_at z in
    let w = in_units u - h_at y in
    let v = in_units u - h_at z in
    rw (rounded_from_h (l_at y) (h_at y) (in_units u) f, rounded_from_h (l_at z) (h_at z) (in_units u) g)
    (every_quotient.rises (sub_ℕ (100 * d) (100 * w)) (sub_ℕ (100 * e) (100 * v)) d e (omega (arith, f.apart)) (omega (arith, g.apart))
    (rw (sub_times e (100 * d) (100 * w), sub_times d (100 * e) (100 * v))
    (sub_le (100 * d * e) (100 * w * e) (100 * e * d) (100 * v * d) (no_faster d e w v more (omega arith)))))

pub index_fits : (u y : ℕ) → Passes u y → h_at y ≤ in_units u → mag (index_a u y) < half32
unfolding index_a
index_fits u y a le =
    let f = pair_fits u y a le in
    rw (rounded_from_h (l_at y) (h_at y) (in_units u) f)
    (nearest_fits 100 (100 * (in_units u - h_at y)) (l_at y - h_at y) (quotient_fits (l_at y) (h_at y) (in_units u) f))
