-- Bounds of L and H at every viscosity from 2,000 to 500,000: H is at least 1.6 mm²/s below L, and both fit 64 bits with room for the
-- products of the procedures.
use Prim.Native.Nat.{ℕ, ◌+◌, ◌*◌, ◌<◌, ◌≤◌}
use mathlib.Core.Path.{◌≡◌, ◌∙◌}
use mathlib.Core.Bool.{Bool, ◌&&◌}
use mathlib.Core.Logic.{⊎_elim}
use lib.Dec.{T, leb, leb→le}
use native.Mathlib.Omega.{arith}
use native.Mathlib.Nat.{mul-le-mul, eq-zero-or-pos}
use borrow.Author.Tests.{le-leb, lt-leb}
use Rattle.laws.proofs.Computed.{and_left, and_right, up_to, below}
use Rattle.laws.proofs.Order.{by_order}
use Rattle.reference.specs.declared.row.Place.{Place}
use Rattle.reference.specs.Table1.{table1}
use Rattle.reference.specs.Viscosity.{least100, greatest100, in_units}
use Rattle.reference.specs.Basis.{entry, row_l, row_h, row_count, last_row, InTable, at_place, place_of, quadratic_l, quadratic_h, l_at, h_at}
use Rattle.reference.specs.Limits.{least_row_difference, least_row_h, most_row_l, least_difference, least_h, most_l, most_h}
use Rattle.reference.proofs.Places.{stands}
use Rattle.reference.proofs.StraightLines.{straight_line_level, straight_lines_apart, value_on_straight_line, value_on_row}
use Rattle.reference.proofs.Rise.{rows_apart}

-- L and H against the least and the most of specs/Limits.antt
pub record Bounds (l h : ℕ) : Type 0 where
  pub apart : h + least_difference ≤ l
  pub l_at_most : l ≤ most_l
  pub h_at_least : least_h ≤ h
  pub h_at_most : h ≤ most_h

-- ---- up to the last row

-- the values at one place of two columns, one of which lies g below the other at every row
module _ (low high : ℕ → ℕ) (g : ℕ) (apart : (i : ℕ) → i < row_count → low i + g ≤ high i) where
  values_apart : (p : Place) → InTable p → at_place low p + in_units g ≤ at_place high p
  values_apart p t =
      ⊎_elim
      (λ (z : p.share ≡ 0). rw (value_on_row low p z, value_on_row high p z) (omega (arith, apart p.row t.row)))
      (λ (n : 0 < p.share).
      rw (value_on_straight_line low p, value_on_straight_line high p)
      (straight_lines_apart (high p.row) (high (p.row + 1)) (low p.row) (low (p.row + 1)) g p.share (omega (arith, t.inside))
      (apart p.row t.row) (apart (p.row + 1) (t.next (λ e. omega arith)))))
      (eq-zero-or-pos p.share)

-- a column that is the same at every row
level_column : (k : ℕ) (p : Place) → InTable p → at_place (λ i. k) p ≡ in_units k
level_column k p t = value_on_straight_line (λ i. k) p ∙ straight_line_level k p.share (omega (arith, t.inside))

row_in_limits : ℕ → Bool
row_in_limits i = leb least_row_h (row_h i) && leb (row_l i) most_row_l

every_row_in_limits : T (up_to row_in_limits row_count)
unfolding row_in_limits entry table1
every_row_in_limits = tt

limits_of_row : (i : ℕ) → i < row_count → (least_row_h ≤ row_h i) × (row_l i ≤ most_row_l)
unfolding row_in_limits
limits_of_row i h =
    let t = below row_in_limits row_count every_row_in_limits i h in (
      leb→le least_row_h (row_h i) (and_left (leb least_row_h (row_h i)) (leb (row_l i) most_row_l) t),
      leb→le (row_l i) most_row_l (and_right (leb least_row_h (row_h i)) (leb (row_l i) most_row_l) t),
    )

bounds_in_table : (p : Place) → InTable p → Bounds (at_place row_l p) (at_place row_h p)
bounds_in_table p t =
    let apart : at_place row_h p + least_difference ≤ at_place row_l p = values_apart row_h row_l least_row_difference rows_apart p t in
    let most : at_place row_l p ≤ in_units most_row_l =
    omega (arith, level_column most_row_l p t, values_apart row_l (λ i. most_row_l) 0 (λ i h. omega (arith, limits_of_row i h)) p t) in
    let least : least_h ≤ at_place row_h p =
    omega (arith, level_column least_row_h p t, values_apart (λ i. least_row_h) row_h 0 (λ i h. omega (arith, limits_of_row i h)) p t) in
    record { apart = apart; l_at_most = omega arith; h_at_least = least; h_at_most = omega arith }

-- ---- above it

bounds_above_table : (y : ℕ) → last_row < y → y ≤ greatest100 → Bounds (quadratic_l y) (quadratic_h y)
bounds_above_table y low high =
    let square : y * y ≤ greatest100 * greatest100 = mul-le-mul high high in
    record { apart = omega arith; l_at_most = omega arith; h_at_least = omega arith; h_at_most = omega arith }

pub bounds : (y : ℕ) → least100 ≤ y → y ≤ greatest100 → Bounds (l_at y) (h_at y)
unfolding l_at h_at
bounds y low high =
    by_order last_row y
    (λ a. rw (lt-leb y last_row a) (bounds_above_table y a high))
    (λ b. rw (le-leb y last_row b) (bounds_in_table (place_of y) (stands y low b).in_table))
