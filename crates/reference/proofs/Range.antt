-- How far H can be above y. H^6 ≤ 10^9·y^17 at every viscosity: it bounds every index, since with u above y it gives (H/U)^6 ≤ Y^11. And
-- H ≤ 128·y. Each by one test that the checker computes over the rows (H at the next row against the viscosity of this one), and an
-- easy bound for the quadratic.
use Prim.Native.Nat.{ℕ, ◌+◌, ◌*◌, ◌-◌, ◌^◌, ◌<◌, ◌≤◌}
use mathlib.Core.Path.{◌≡◌, refl, ◌∙◌}
use mathlib.Core.Bool.{Bool}
use mathlib.Core.Logic.{⊎_elim}
use lib.Dec.{T, leb, leb→le, lit≤, lit<}
use lib.Pow.{pow-add}
use native.Mathlib.Omega.{arith}
use native.Mathlib.Nat.{le_trans, le_of_eq, le_of_lt, mul-le-mul_left, mul-le-mul_right, mul_assoc, pow-le-pow_left, eq-zero-or-pos}
use borrow.Author.Tests.{le-leb, lt-leb}
use Rattle.laws.proofs.Computed.{up_to, below}
use Rattle.laws.proofs.Order.{by_order}
use Rattle.laws.proofs.Powers.{mul_pow}
use Rattle.reference.specs.declared.row.Place.{Place}
use Rattle.reference.specs.Table1.{table1}
use Rattle.reference.specs.Viscosity.{least100, greatest100, in_units}
use Rattle.reference.specs.Basis.{entry, row_h, last_row_at, viscosity_of, last_row, at_place, place_of, quadratic_h, h_at}
use Rattle.reference.specs.StraightLines.{Stands}
use Rattle.reference.proofs.Places.{stands}
use Rattle.reference.proofs.StraightLines.{value_on_row, value_at_most_next}
use Rattle.reference.proofs.Rise.{table_rises}

-- ---- the row that bounds H at y

-- a row that stands at or below y, whose next row has an H of at least h
record BoundingRow (y h : ℕ) : Type 0 where
  row : ℕ
  has_next : row < last_row_at
  at_or_below : viscosity_of row ≤ y
  at_least : h ≤ in_units (row_h (row + 1))

-- of H at a place: its own row, and for the last row the one before it
bounding_row : (y : ℕ) (p : Place) → Stands y p → BoundingRow y (at_place row_h p)
bounding_row y p s =
    by_order p.row last_row_at
    (λ a. record {
      row = p.row;
      has_next = a;
      at_or_below = s.below;
      at_least = value_at_most_next row_h p s.in_table.inside (le_of_lt (table_rises.rises p.row a).h);
    })
    (λ b. let r : p.row ≡ last_row_at = omega (arith, s.in_table.row) in
    let z : p.share ≡ 0 =
    ⊎_elim (λ (z : p.share ≡ 0). z) (λ (n : 0 < p.share). absurd (omega (arith, s.in_table.next (λ e. omega arith)))) (eq-zero-or-pos p.share) in
    let y-high : last_row ≤ y = rw r at s.below in
    record {
      row = last_row_at - 1;
      has_next = lit< tt;
      at_or_below = le_trans (lit≤ tt) y-high;
      at_least = le_of_eq (value_on_row row_h p z ∙ rw r refl);
    })

-- ---- H^6 is at most 10^9·y^17

abbrev pub range_factor : ℕ
range_factor = 1000000000

ranged_row : ℕ → Bool
ranged_row i = leb (in_units (row_h (i + 1)) ^ 6) (range_factor * viscosity_of i ^ 17)

every_row_ranged : T (up_to ranged_row last_row_at)
unfolding ranged_row entry table1
every_row_ranged = tt

row_ranged : (i : ℕ) → i < last_row_at → in_units (row_h (i + 1)) ^ 6 ≤ range_factor * viscosity_of i ^ 17
unfolding ranged_row
row_ranged i h = leb→le _ _ (below ranged_row last_row_at every_row_ranged i h)

range_in_table : (y h : ℕ) → BoundingRow y h → h ^ 6 ≤ range_factor * y ^ 17
range_in_table y h b =
    le_trans (pow-le-pow_left b.at_least 6)
    (le_trans (row_ranged b.row b.has_next) (mul-le-mul_left range_factor (pow-le-pow_left b.at_or_below 17)))

range_above_table : (y : ℕ) → last_row < y → quadratic_h y ^ 6 ≤ range_factor * y ^ 17
range_above_table y low =
    let square : last_row * y ≤ y * y = mul-le-mul_right y (omega arith) in
    let h : quadratic_h y ≤ 3377 * (y * y) = omega arith in
    let five : 3377 ^ 6 ≤ range_factor * y ^ 5 = le_trans (lit≤ tt) (mul-le-mul_left range_factor (pow-le-pow_left {n = last_row} (omega arith) 5)) in
    le_trans (pow-le-pow_left h 6)
    (rw (mul_pow 3377 (y * y) 6, mul_pow y y 6, ← pow-add y 6 6, pow-add y 5 12, ← mul_assoc range_factor (y ^ 5) (y ^ 12))
    (mul-le-mul_right (y ^ 12) five))

pub range : (y : ℕ) → least100 ≤ y → y ≤ greatest100 → h_at y ^ 6 ≤ range_factor * y ^ 17
unfolding h_at
range y low high =
    by_order last_row y
    (λ a. rw (lt-leb y last_row a) (range_above_table y a))
    (λ b. rw (le-leb y last_row b) (range_in_table y _ (bounding_row y (place_of y) (stands y low b))))

-- ---- H is at most 128 times y, so that with u above y the logarithm of H/U is below 7

abbrev pub most_ratio : ℕ
most_ratio = 128

close_row : ℕ → Bool
close_row i = leb (row_h (i + 1)) (most_ratio * viscosity_of i)

every_row_close : T (up_to close_row last_row_at)
unfolding close_row entry table1
every_row_close = tt

row_close : (i : ℕ) → i < last_row_at → row_h (i + 1) ≤ most_ratio * viscosity_of i
unfolding close_row
row_close i h = leb→le _ _ (below close_row last_row_at every_row_close i h)

ratio_in_table : (y h : ℕ) → BoundingRow y h → h ≤ most_ratio * in_units y
ratio_in_table y h b = omega (arith, b.at_least, row_close b.row b.has_next, b.at_or_below)

pub ratio : (y : ℕ) → least100 ≤ y → y ≤ greatest100 → h_at y ≤ most_ratio * in_units y
unfolding h_at
ratio y low high =
    by_order last_row y
    (λ a. let square : y * y ≤ greatest100 * y = mul-le-mul_right y high in rw (lt-leb y last_row a) (omega arith))
    (λ b. rw (le-leb y last_row b) (ratio_in_table y _ (bounding_row y (place_of y) (stands y low b))))
