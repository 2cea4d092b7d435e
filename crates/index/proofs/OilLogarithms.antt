-- What holds of the logarithms of y, U and H of an oil below H; and that a pair below the H at its y is such an oil, from the limits and from the bounds of H by y.
use Prim.Native.Nat.{ℕ, ◌+◌, ◌*◌, ◌^◌, ◌≤◌, ◌<◌}
use mathlib.Core.Path.{◌≡◌, refl, sym}
use native.Mathlib.Omega.{arith}
use native.Mathlib.Nat.{le_trans, le_of_eq, mul_assoc, mul_comm, mul_left_comm, mul-le-mul_right, pow-le-pow_left}
use lib.Pow.{pow-add}
use Rattle.laws.proofs.Powers.{mul_pow, pow_one}
use Rattle.reference.specs.Viscosity.{least100, greatest100, units_per_thousandth, in_units}
use Rattle.reference.specs.Basis.{h_at}
use Rattle.reference.proofs.Bounds.{bounds}
use Rattle.reference.proofs.Range.{range_factor, range, ratio}
use Rattle.logarithm.specs.Scale.{scale, scale_number, width, log1000}
use Rattle.logarithm.specs.Log2.{log2_of, Enclosed}
use Rattle.logarithm.specs.Preconditions.{InRange}
use Rattle.logarithm.proofs.Log2.{log2_enclosed}
use Rattle.logarithm.proofs.Rise.{log2_rises}
use Rattle.logarithm.proofs.FromLogarithms.{logs_le, one_above, one_below}
use Rattle.index.specs.declared.procedure_b.Oil.{Oil}
use Rattle.index.specs.ChosenFractions.{oil_of_pair}
use Rattle.index.specs.Preconditions.{Passes, OilBelowH}
use Rattle.logarithm.proofs.Constants.{thousand, two_below, one_two_eight_above}
use Rattle.index.proofs.Numerators.{Logarithms}

-- (H/U)^6 ≤ Y^11 in whole numbers
sixth_power : (y U H : ℕ) → H ^ 6 ≤ range_factor * y ^ 17 → in_units y ≤ U → H ^ 6 * 1000 ^ 11 ≤ U ^ 6 * y ^ 11
sixth_power y U H h l =
    le_trans (mul-le-mul_right (1000 ^ 11) h)
    (le_trans (le_of_eq (spread (y ^ 17) (y ^ 6) (y ^ 11) range_factor (1000 ^ 11) (units_per_thousandth ^ 6) (pow-add y 6 11) refl))
    (mul-le-mul_right (y ^ 11) (le_trans (le_of_eq (sym (mul_pow y units_per_thousandth 6))) (pow-le-pow_left l 6))))
  where
    spread : (a b c g h k : ℕ) → a ≡ b * c → k ≡ g * h → g * a * h ≡ b * k * c
    spread a b c g h k e f = rw (e, f) (simp (mul_assoc, mul_comm, mul_left_comm))

-- ---- of y alone

module _ (y : ℕ) (low : least100 ≤ y) (high : y ≤ greatest100) where
  y_in_range : InRange y
  y_in_range = record { least = omega arith; most = omega arith }

  y_enclosed : Enclosed y (log2_of y)
  y_enclosed = log2_enclosed y y_in_range

  pub at_least_two : log1000 + scale_number ≤ log2_of y + width
  at_least_two =
      let h = logs_le scale 1 1 1000 2 y 1 log1000 scale_number (log2_of y + width) 0 thousand.below two_below y_enclosed.above (one_above scale)
      (rw (pow_one y) (omega arith)) in
      omega arith

-- ---- of an oil below H

module _ (oil : Oil) (b : OilBelowH oil) where
  pub y_range : InRange oil.y
  y_range = y_in_range oil.y b.least b.most

  pub units_range : InRange (in_units oil.u)
  units_range = record { least = omega (arith, b.some); most = omega (arith, b.below, b.h_at_most) }

  pub h_range : InRange oil.h
  h_range = record { least = omega (arith, b.below); most = omega (arith, b.h_at_most) }

  y_is : Enclosed oil.y (log2_of oil.y)
  y_is = y_enclosed oil.y b.least b.most

  units_is : Enclosed (in_units oil.u) (log2_of (in_units oil.u))
  units_is = log2_enclosed (in_units oil.u) units_range

  h_is : Enclosed oil.h (log2_of oil.h)
  h_is = log2_enclosed oil.h h_range

  at_most_128 : log2_of oil.h ≤ log2_of (in_units oil.u) + width + 7 * scale_number
  at_most_128 =
      let h = logs_le scale 1 1 oil.h 1 (in_units oil.u) 128 (log2_of oil.h) 0 (log2_of (in_units oil.u) + width) (7 * scale_number)
      h_is.below (one_below scale) units_is.above one_two_eight_above
      (rw (pow_one oil.h, pow_one (in_units oil.u)) (omega (arith, b.close))) in
      omega arith

  in_range : 6 * log2_of oil.h + 11 * log1000 ≤ 6 * (log2_of (in_units oil.u) + width) + 11 * (log2_of oil.y + width)
  in_range =
      let h = logs_le scale 6 11 oil.h 1000 (in_units oil.u) oil.y (log2_of oil.h) log1000 (log2_of (in_units oil.u) + width) (log2_of oil.y + width)
      h_is.below thousand.below units_is.above y_is.above b.range in
      omega arith

  pub logarithms : Logarithms oil.y (in_units oil.u) oil.h (log2_of oil.y) (log2_of (in_units oil.u)) (log2_of oil.h)
  logarithms =
      record {
        y_is = y_is;
        units_is = units_is;
        h_at_is = h_is;
        below = omega (arith, b.below);
        order = log2_rises (in_units oil.u) oil.h units_range.least (omega (arith, b.below)) h_range.most;
        least = at_least_two oil.y b.least b.most;
        close = at_most_128;
        range = in_range;
      }

-- ---- a pair that passes the questions and is below the H at its y is one

pub pair_below : (u y : ℕ) → Passes u y → in_units u < h_at y → OilBelowH (oil_of_pair u y)
pair_below u y a below =
    record {
      least = a.least;
      most = a.most;
      some = omega (arith, a.thicker);
      below = below;
      h_at_most = (bounds y a.least a.most).h_at_most;
      close = omega (arith, ratio y a.least a.most, a.thicker);
      range = sixth_power y (in_units u) (h_at y) (range y a.least a.most) (omega (arith, a.thicker));
    }
