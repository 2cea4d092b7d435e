-- The bound of a stretch: up to 70,000, and again above, L, H and L − H do not fall with y, so that L and H of one end and the logarithm of the other bound every
-- index between; and of one y alone they give its index.
use Prim.Native.Nat.{ℕ, ◌*◌, ◌^◌, ◌<◌, ◌≤◌}
use mathlib.Core.Path.{◌≡◌, sym, ap, ◌∙◌}
use mathlib.Core.Logic.{inl, inr, ⊎_elim}
use native.Mathlib.Omega.{arith}
use native.Mathlib.Nat.{le_trans, mul-le-mul, mul-le-mul_right, pow-le-pow_left}
use borrow.Author.Tests.{lt-leb, lt-ltb, le-ltb}
use lib.IntN.{ℤ, pos}
use lib.Signed.{◌≤ℤ◌}
use Rattle.laws.proofs.Order.{by_order}
use Rattle.laws.proofs.Difference.{pos_le, order_joins}
use Rattle.reference.specs.Viscosity.{least100, in_units}
use Rattle.reference.specs.Basis.{last_row, l_at, h_at}
use Rattle.reference.proofs.Bounds.{bounds}
use Rattle.reference.proofs.Climb.{Climbs, climbs}
use Rattle.reference.proofs.Range.{ratio}
use Rattle.logarithm.specs.Log2.{log2_of}
use Rattle.logarithm.proofs.Rise.{log2_rises}
use Rattle.shown_index.specs.declared.ByB.{ByB}
use Rattle.shown_index.specs.Terms.{least_index, most_index}
use Rattle.shown_index.proofs.Marks.{right_index, index_falls}
use Rattle.index.specs.Answer.{index_of}
use Rattle.index.specs.declared.procedure_b.Oil.{Oil}
use Rattle.index.specs.ChosenFractions.{lower_from, lower_of_oil, upper_of_oil, by_b_of}
use Rattle.index.specs.ProcedureA.{rounded_a, index_a}
use Rattle.index.specs.Preconditions.{Passes, OilBelowH, FractionFits}
use Rattle.index.proofs.Numerators.{lower_falls, upper_falls}
use Rattle.index.proofs.OilLogarithms.{at_least_two}
use Rattle.index.proofs.OilNumerators.{oil_numerators}
use Rattle.index.proofs.ProcedureA.{index_rises, index_most, pair_fits}
use Rattle.index.proofs.Cases.{answer_a, answer_b}
use Rattle.span.proofs.Range.{far}
use Rattle.span.specs.declared.extreme.Extreme.{Extreme}
use Rattle.span.specs.declared.extreme.Extreme.TheVariants.{Least, Greatest}
use Rattle.span.specs.Extremes.{NotBeyond}
use Rattle.span.specs.Span.{index_at}
use Rattle.span.specs.Preconditions.{Stretch, InOnePart, Between}
use Rattle.span.specs.Bound.{oil_between, index_between, bound_of}

-- ---- L, H and L − H along one part

climbs_above : (y z : ℕ) → last_row < y → y ≤ z → Climbs y z
unfolding l_at h_at
climbs_above y z low h =
    let e = lt-leb y last_row low in
    let f = lt-leb z last_row (omega arith) in
    let square : y * y ≤ z * z = mul-le-mul h h in
    record { l = rw (e, f) (omega arith); h = rw (e, f) (omega arith); difference = rw (e, f) (omega arith) }

part_climbs : (y z : ℕ) → least100 ≤ y → y ≤ z → InOnePart y z → Climbs y z
part_climbs y z low h = ⊎_elim (λ (a : z ≤ last_row). climbs y z low h a) (λ (a : last_row < y). climbs_above y z a h)

-- ---- an oil below H, with H at one viscosity and the logarithm of another

below_between : (u at y : ℕ) → Between u at y → in_units u < h_at at → OilBelowH (oil_between u at y)
below_between u at y b below =
    let a = b.passes in
    let higher : in_units at ≤ in_units u = omega (arith, a.thicker) in
    record {
      least = b.least;
      most = b.most;
      some = omega (arith, a.thicker);
      below = below;
      h_at_most = (bounds at a.least a.most).h_at_most;
      close = omega (arith, ratio at a.least a.most, a.thicker);
      range = le_trans (far at y a.least a.most b.least b.close) (mul-le-mul_right (y ^ 11) (pow-le-pow_left higher 6));
    }

b_right : (oil : Oil) → OilBelowH oil → (least_index ≤ (by_b_of oil).index) × ((by_b_of oil).index ≤ most_index)
unfolding by_b_of
b_right oil b =
    let f = oil_numerators oil b in
    let r = right_index (lower_of_oil oil) (upper_of_oil oil) f.lower_fits f.next in
    (r.least, r.most)

-- its index does not rise as the logarithm of y does, nor fall as that of H rises
b_falls : (u : ℕ) (y h z g : ℕ) → OilBelowH (record { u = u; y = y; h = h }) → OilBelowH (record { u = u; y = z; h = g })
    → log2_of y ≤ log2_of z → log2_of g ≤ log2_of h → (by_b_of (record { u = u; y = z; h = g })).index ≤ (by_b_of (record { u = u; y = y; h = h })).index
unfolding by_b_of lower_of_oil upper_of_oil
b_falls u y h z g a b longer lower =
    let ly = log2_of y in
    let lU = log2_of (in_units u) in
    let l : lower_from (log2_of z) lU (log2_of g) ≤ lower_from ly lU (log2_of h) =
    lower_falls ly lU (log2_of h) (log2_of z) lU (log2_of g) longer (omega arith) lower (omega (arith, at_least_two y a.least a.most)) in
    index_falls _ _ _ _ (oil_numerators (record { u = u; y = y; h = h }) a).lower_fits l
    (upper_falls ly lU (log2_of h) (log2_of z) lU (log2_of g) longer (omega arith) lower _ _ l)

-- ---- L and H at one viscosity, the logarithm of another

between_a : (u at y : ℕ) → h_at at ≤ in_units u → index_between u at y ≡ index_a u at
unfolding index_between
between_a u at y h = rw (le-ltb (in_units u) (h_at at) h)

between_b : (u at y : ℕ) → in_units u < h_at at → index_between u at y ≡ pos ((by_b_of (oil_between u at y)).index)
unfolding index_between
between_b u at y l = rw (lt-ltb (in_units u) (h_at at) l)

-- of one y it is the pair's index
pub between_same : (u y : ℕ) → Passes u y → index_between u y y ≡ index_at u y
between_same u y a =
    by_order (in_units u) (h_at y)
    (λ l. between_b u y y l ∙ sym (ap index_of (answer_b u y a l)))
    (λ h. between_a u y y h ∙ sym (ap index_of (answer_a u y a h)))

module _ (u at at' y y' : ℕ) (a : Between u at y) (b : Between u at' y') (h : at ≤ at') (part : InOnePart at at') (l : y' ≤ y) where
  climbs_between : Climbs at at'
  climbs_between = part_climbs at at' a.passes.least h part

  b_rises : (n : in_units u < h_at at) → in_units u < h_at at' → (by_b_of (oil_between u at y)).index ≤ (by_b_of (oil_between u at' y')).index
  b_rises n m =
      let c = bounds at a.passes.least a.passes.most in
      let c' = bounds at' b.passes.least b.passes.most in
      b_falls u y' (h_at at') y (h_at at) (below_between u at' y' b m) (below_between u at y a n)
      (log2_rises y' y (omega (arith, b.least)) l (omega (arith, a.most)))
      (log2_rises (h_at at) (h_at at') (omega (arith, c.h_at_least)) climbs_between.h (omega (arith, c'.h_at_most)))

  pub between_rises : index_between u at y ≤ℤ index_between u at' y'
  between_rises =
      by_order (in_units u) (h_at at')
      (λ m. rw (between_b u at' y' m)
      (by_order (in_units u) (h_at at)
      (λ n. rw (between_b u at y n) (pos_le _ _ (b_rises n m)))
      (λ n. rw (between_a u at y n)
      (order_joins (index_most at u a.passes.least a.passes.most n)
      (pos_le least_index _ (b_right (oil_between u at' y') (below_between u at' y' b m)).0)))))
      (λ m. rw (between_a u at' y' m, between_a u at y (omega (arith, climbs_between.h)))
      (index_rises u at at' a.passes b.passes climbs_between.h climbs_between.difference m))

-- ---- the bound of a stretch

module _ (u from to n : ℕ) (s : Stretch u from to) (low : from ≤ n) (high : n ≤ to) where
  pub passes_at : Passes u n
  passes_at = record { least = omega (arith, s.least); most = omega (arith, s.most); thickest = s.thickest; thicker = omega (arith, s.thicker) }

pub between_ends : (u from to at y : ℕ) → Stretch u from to → from ≤ at → at ≤ to → from ≤ y → y ≤ to → Between u at y
between_ends u from to at y s a b d e =
    record { passes = passes_at u from to at s a b; least = omega (arith, s.least); most = omega (arith, s.most); close = omega (arith, s.narrow) }

pub bound_holds : (which : Extreme) (u from to n : ℕ) → Stretch u from to → InOnePart from to → from ≤ n → n ≤ to
    → NotBeyond which (bound_of which u from to) (index_at u n)
bound_holds Least u from to n s part a b =
    let part' : InOnePart from n = ⊎_elim (λ (h : to ≤ last_row). inl (omega arith)) (λ (h : last_row < from). inr h) part in
    rw (sym (between_same u n (passes_at u from to n s a b)))
    (between_rises u from n to n (between_ends u from to from to s (omega arith) s.order s.order (omega arith)) (between_ends u from to n n s a b a b) a part' b)
bound_holds Greatest u from to n s part a b =
    let part' : InOnePart n to = ⊎_elim (λ (h : to ≤ last_row). inl h) (λ (h : last_row < from). inr (omega arith)) part in
    rw (sym (between_same u n (passes_at u from to n s a b)))
    (between_rises u n to n from (between_ends u from to n n s a b a b) (between_ends u from to to from s s.order (omega arith) (omega arith) s.order) b part' a)

-- of one y alone it is the index
pub bound_alone : (which : Extreme) (u y : ℕ) → Passes u y → bound_of which u y y ≡ index_at u y
bound_alone Least u y a = between_same u y a
bound_alone Greatest u y a = between_same u y a

-- ---- for the code, with L, H and U as it holds them

module _ (u at y h units : ℕ) (b : Between u at y) (h_is : h ≡ h_at at) (units_are : units ≡ in_units u) where
  below_h : units < h → in_units u < h_at at
  below_h l = omega (arith, l, units_are, h_is)

  pub oil_below : units < h → OilBelowH (record { u = u; y = y; h = h })
  oil_below l = rw h_is (below_between u at y b (below_h l))

  pub b_most : (b : ByB) → b ≡ by_b_of (record { u = u; y = y; h = h }) → units < h → b.index ≤ most_index
  b_most b e l = rw e (b_right (record { u = u; y = y; h = h }) (oil_below l)).1

  pub b_index : (b : ByB) → b ≡ by_b_of (record { u = u; y = y; h = h }) → units < h → pos b.index ≡ index_between u at y
  b_index b e l = rw (e, h_is) (sym (between_b u at y (below_h l)))

  pub a_fits : (l : ℕ) → l ≡ l_at at → h ≤ units → FractionFits l h units
  a_fits l l_is a = rw (h_is, l_is, units_are) (pair_fits u at b.passes (omega (arith, a, units_are, h_is)))

  pub a_index : (l : ℕ) → l ≡ l_at at → (k : ℤ) → k ≡ rounded_a l h units → h ≤ units → k ≡ index_between u at y
  unfolding index_a
  a_index l l_is k e a = rw (h_is, l_is, units_are) at e ∙ sym (between_a u at y (omega (arith, a, units_are, h_is)))
