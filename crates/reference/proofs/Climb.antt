-- Up to 70,000 L, H and L − H fall nowhere as y grows: the straight line through a column that falls at no row falls nowhere.
use Prim.Native.Nat.{ℕ, ◌+◌, ◌*◌, ◌-◌, ◌<◌, ◌≤◌}
use mathlib.Core.Path.{◌≡◌, sym, ◌∙◌, ap, ap₂}
use mathlib.Core.Bool.{Bool}
use mathlib.Core.Logic.{⊎_elim}
use lib.Dec.{T, leb, leb→le}
use native.Mathlib.Omega.{arith}
use native.Mathlib.Nat.{le_trans, le_of_eq, le_of_lt, le_of_mul-le-mul_right, mul-le-mul_right, eq-zero-or-pos}
use borrow.Author.Tests.{le-leb}
use Rattle.laws.proofs.Computed.{up_to, below}
use Rattle.laws.proofs.Order.{by_order}
use Rattle.laws.proofs.Rising.{never_falls}
use Rattle.reference.specs.declared.row.Place.{Place}
use Rattle.reference.specs.Viscosity.{least100, in_units, units_per_thousandth}
use Rattle.reference.specs.Basis.{row_l, row_h, row_count, last_row_at, viscosity_of, last_row, place_of, InTable, straight_line, at_place, l_at, h_at}
use Rattle.reference.specs.StraightLines.{Stands}
use Rattle.reference.proofs.Places.{stands}
use Rattle.reference.proofs.StraightLines.{straight_line_climbs, straight_lines_add, value_on_straight_line, value_on_row, value_at_most_next}
use Rattle.reference.proofs.Rise.{table_rises, rows_apart}

climbing_viscosity : ℕ → Bool
climbing_viscosity i = leb (viscosity_of i) (viscosity_of (i + 1))

every_viscosity_climbs : T (up_to climbing_viscosity row_count)
unfolding climbing_viscosity
every_viscosity_climbs = tt

-- the viscosity of a row, in the order of the rows
viscosity_climbs : (i j : ℕ) → i ≤ j → j ≤ row_count → viscosity_of i ≤ viscosity_of j
unfolding climbing_viscosity
viscosity_climbs = never_falls viscosity_of row_count (λ i h. leb→le _ _ (below climbing_viscosity row_count every_viscosity_climbs i h))

-- ---- a column that falls at no row, at the places of y and of a greater y'

module _ (entries : ℕ → ℕ) (up : (i : ℕ) → i < last_row_at → entries i ≤ entries (i + 1)) where
  value_at_least_row : (p : Place) → InTable p → in_units (entries p.row) ≤ at_place entries p
  value_at_least_row p t =
      ⊎_elim
      (λ (z : p.share ≡ 0). le_of_eq (sym (value_on_row entries p z)))
      (λ (n : 0 < p.share).
      let h : p.row < last_row_at = omega (arith, t.next (λ e. omega arith)) in
      let l = straight_line_climbs (entries p.row) (entries (p.row + 1)) 0 p.share (up p.row h) (omega arith) (omega (arith, t.inside)) in
      omega (arith, value_on_straight_line entries p, l))
      (eq-zero-or-pos p.share)

  climbs_in_row : (y y' : ℕ) (p p' : Place) → Stands y p → Stands y' p' → y ≤ y' → p.row ≡ p'.row → at_place entries p ≤ at_place entries p'
  climbs_in_row y y' p p' s s' h e =
      let row : viscosity_of p.row ≡ viscosity_of p'.row = ap viscosity_of e in
      let next : viscosity_of (p.row + 1) ≡ viscosity_of (p'.row + 1) = ap (λ (i : ℕ). viscosity_of (i + 1)) e in
      let spacing : s.spacing ≡ s'.spacing = omega (arith, s.next_viscosity, s'.next_viscosity) in
      let scaled : p.share * s.spacing ≤ p'.share * s.spacing = rw spacing (omega (arith, s.exact, s'.exact, ap (λ (n : ℕ). p.share * n) spacing)) in
      let shares : p.share ≤ p'.share = le_of_mul-le-mul_right scaled s.some in
      let this : entries p.row ≡ entries p'.row = ap entries e in
      let that : entries (p.row + 1) ≡ entries (p'.row + 1) = ap (λ (i : ℕ). entries (i + 1)) e in
      ⊎_elim
      (λ (z : p'.share ≡ 0). omega (arith, value_on_row entries p (omega arith), value_on_row entries p' z))
      (λ (n : 0 < p'.share).
      let low : p'.row < last_row_at = omega (arith, s'.in_table.next (λ e. omega arith)) in
      let l = straight_line_climbs (entries p'.row) (entries (p'.row + 1)) p.share p'.share (up p'.row low) shares (omega (arith, s'.in_table.inside)) in
      rw (value_on_straight_line entries p, value_on_straight_line entries p', this, that) l)
      (eq-zero-or-pos p'.share)

  value_climbs : (y y' : ℕ) (p p' : Place) → Stands y p → Stands y' p' → y ≤ y' → at_place entries p ≤ at_place entries p'
  value_climbs y y' p p' s s' h =
      by_order p.row p'.row
      (λ a. let low : p.row < last_row_at = omega (arith, s'.in_table.row) in
      let rows : entries (p.row + 1) ≤ entries p'.row = never_falls entries last_row_at up (p.row + 1) p'.row (omega arith) (omega (arith, s'.in_table.row)) in
      le_trans (value_at_most_next entries p s.in_table.inside (up p.row low))
      (le_trans (mul-le-mul_right units_per_thousandth rows) (value_at_least_row p' s'.in_table)))
      (λ b. by_order p'.row p.row
      (λ a. absurd (omega (arith, s.below, s'.above, s'.next_viscosity, viscosity_climbs (p'.row + 1) p.row (omega arith) (omega (arith, s.in_table.row)))))
      (λ a. climbs_in_row y y' p p' s s' h (omega arith)))

-- ---- L, H and L − H

row_difference : ℕ → ℕ
row_difference i = row_l i - row_h i

-- the straight lines through H and through L − H add up to the one through L
values_add : (p : Place) → InTable p → at_place row_h p + at_place row_difference p ≡ at_place row_l p
unfolding row_difference
values_add p t =
    let this : row_h p.row + (row_l p.row - row_h p.row) ≡ row_l p.row = omega (arith, rows_apart p.row t.row) in
    ⊎_elim
    (λ (z : p.share ≡ 0). rw (value_on_row row_h p z, value_on_row row_difference p z, value_on_row row_l p z) (omega (arith, this)))
    (λ (n : 0 < p.share).
    let that : row_h (p.row + 1) + (row_l (p.row + 1) - row_h (p.row + 1)) ≡ row_l (p.row + 1) = omega (arith, rows_apart (p.row + 1) (t.next (λ e. omega arith))) in
    rw (value_on_straight_line row_h p, value_on_straight_line row_difference p, value_on_straight_line row_l p)
    (straight_lines_add (row_h p.row) (row_h (p.row + 1)) (row_l p.row - row_h p.row) (row_l (p.row + 1) - row_h (p.row + 1)) p.share
    ∙ ap₂ (λ (a : ℕ) (b : ℕ). straight_line a b p.share) this that))
    (eq-zero-or-pos p.share)

pub record Climbs (y y' : ℕ) : Type 0 where
  pub l : l_at y ≤ l_at y'
  pub h : h_at y ≤ h_at y'
  pub difference : l_at y - h_at y ≤ l_at y' - h_at y'

pub climbs : (y y' : ℕ) → least100 ≤ y → y ≤ y' → y' ≤ last_row → Climbs y y'
unfolding l_at h_at row_difference
climbs y y' low h high =
    let e = le-leb y last_row (omega arith) in
    let e' = le-leb y' last_row high in
    let s = stands y low (omega arith) in
    let s' = stands y' (omega arith) high in
    let along : (entries : ℕ → ℕ) → ((i : ℕ) → i < last_row_at → entries i ≤ entries (i + 1)) → at_place entries (place_of y) ≤ at_place entries (place_of y') =
    λ entries up. value_climbs entries up y y' (place_of y) (place_of y') s s' h in
    record {
      l = rw (e, e') (along row_l (λ i a. le_of_lt (table_rises.rises i a).l));
      h = rw (e, e') (along row_h (λ i a. le_of_lt (table_rises.rises i a).h));
      difference = rw (e, e')
          (omega (arith, values_add (place_of y) s.in_table, values_add (place_of y') s'.in_table, along row_difference (λ i a. le_of_lt (table_rises.rises i a).difference)));
    }
