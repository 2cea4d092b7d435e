-- What follows from the source of a viscosity: where it is a place of Table 1, the place is in the table and holds L and H; where it is none, the
-- viscosity is above the table and the quadratics are L and H.
use Rattle.std.specs.Prelude.{None, Some}
use Prim.Native.Nat.{ℕ, ◌<◌, ◌≤◌}
use mathlib.Core.Path.{◌≡◌}
use borrow.Author.Tests.{le-leb, lt-leb}
use Rattle.laws.proofs.Contradiction.{impossible}
use Rattle.laws.proofs.Order.{by_order}
use Rattle.reference.specs.declared.row.Place.{Place}
use Rattle.reference.specs.declared.ReferenceOil.{ReferenceOil}
use Rattle.reference.specs.declared.ReferenceOil.TheVariants as oil
use Rattle.reference.specs.Viscosity.{least100}
use Rattle.reference.specs.Basis.{entry, last_row, place_of, InTable, at_place, l_at, h_at, column_of, by_quadratic, source_of, basis_value}
use Rattle.reference.proofs.Places.{stands}

from_table : (y : ℕ) (p : Place) → source_of y ≡ Some p → (y ≤ last_row) × (p ≡ place_of y)
from_table y p e =
    by_order last_row y
    (λ a. let f : None ≡ Some p = rw (lt-leb y last_row a) at e in
    impossible cc)
    (λ b. let f : Some (place_of y) ≡ Some p = rw (le-leb y last_row b) at e in
    (b, cc))

pub above_table : (y : ℕ) → source_of y ≡ None → last_row < y
above_table y e =
    by_order last_row y (λ a. a)
    (λ b. let f : Some (place_of y) ≡ None = rw (le-leb y last_row b) at e in
    impossible cc)

pub place_in_table : (y : ℕ) (p : Place) → least100 ≤ y → source_of y ≡ Some p → InTable p
place_in_table y p low e = let t = from_table y p e in rw t.1 (stands y low t.0).in_table

pub value_at_place : (o : ReferenceOil) (y : ℕ) (p : Place) → source_of y ≡ Some p → at_place (entry (column_of o)) p ≡ basis_value o y
unfolding l_at h_at
value_at_place oil.L y p e = let t = from_table y p e in rw (t.1, le-leb y last_row t.0)
value_at_place oil.H y p e = let t = from_table y p e in rw (t.1, le-leb y last_row t.0)

pub value_above : (o : ReferenceOil) (y : ℕ) → source_of y ≡ None → by_quadratic o y ≡ basis_value o y
unfolding l_at h_at
value_above oil.L y e = rw (lt-leb y last_row (above_table y e))
value_above oil.H y e = rw (lt-leb y last_row (above_table y e))
