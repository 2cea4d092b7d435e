-- The logarithms and numerators that the code finds for an oil below H are those of the definitions.
use Prim.Native.Nat.{ℕ}
use mathlib.Core.Path.{◌≡◌, refl, ◌∙◌, ap₂}
use Rattle.reference.specs.Viscosity.{in_units}
use Rattle.logarithm.specs.Log2.{log2_of}
use Rattle.index.specs.declared.procedure_b.Oil.{Oil}
use Rattle.index.specs.Preconditions.{InBounds, OilBelowH}
use Rattle.index.specs.ChosenFractions.{lower_from, upper_from, lower_of_oil, upper_of_oil, by_b_of, FoundFractions}
use Rattle.shown_index.specs.ChosenIndex.{chosen_index}
use Rattle.index.proofs.Numerators.{Logarithms, in_bounds, few, upper}
use Rattle.index.proofs.OilLogarithms.{logarithms}

-- the numerators of an oil below H fit their fields
pub oil_numerators : (oil : Oil) → OilBelowH oil → FoundFractions oil (lower_of_oil oil) (upper_of_oil oil)
unfolding lower_of_oil upper_of_oil
oil_numerators oil b =
    let o = logarithms oil b in
    let v = upper oil.y (in_units oil.u) oil.h (log2_of oil.y) (log2_of (in_units oil.u)) (log2_of oil.h) o in
    record {
      lower_is = refl;
      upper_is = refl;
      lower_fits = few oil.y (in_units oil.u) oil.h (log2_of oil.y) (log2_of (in_units oil.u)) (log2_of oil.h) o;
      order = v.more;
      next = v.most;
    }

module _ (oil : Oil) (b : OilBelowH oil) (ly lU lH : ℕ) (ey : ly ≡ log2_of oil.y) (eU : lU ≡ log2_of (in_units oil.u)) (eH : lH ≡ log2_of oil.h) where
  found : Logarithms oil.y (in_units oil.u) oil.h ly lU lH
  found = rw (ey, eU, eH) (logarithms oil b)

  pub bounded : InBounds ly lU lH
  bounded = in_bounds _ _ _ _ _ _ found

  module _ (p P : ℕ) (ep : p ≡ lower_from ly lU lH) (eP : P ≡ upper_from ly lU lH p) where
    lower_is : p ≡ lower_of_oil oil
    unfolding lower_of_oil
    lower_is = ep ∙ rw (ey, eU, eH)

    upper_is : P ≡ upper_of_oil oil
    unfolding upper_of_oil
    upper_is = eP ∙ rw (lower_is, ey, eU, eH)

    pub oil_found : FoundFractions oil p P
    oil_found = rw (lower_is, upper_is) (oil_numerators oil b)

-- the index of the p and P found is the oil's
pub by_b_is : (oil : Oil) (p P : ℕ) → FoundFractions oil p P → chosen_index p P ≡ by_b_of oil
unfolding by_b_of
by_b_is oil p P f = ap₂ chosen_index f.lower_is f.upper_is
