-- Document 01, 'L and H': "y up to 70,000: the straight line between the row at or below y and the next one; on a row, the row. Nothing is
-- rounded." The definitions of Basis.antt measure the way from row to row in thousandths; this says what they come to in the rows' own
-- viscosities, with no division left. proofs/Exact.antt shows it for every y of the table.
use Rattle.std.specs.Prelude.{ℕ, ◌+◌, ◌*◌, ◌-◌, ◌<◌, ◌≤◌, ◌≡◌}
use Rattle.reference.specs.declared.row.Place.{Place}
use Rattle.reference.specs.Viscosity.{least100, in_units}
use Rattle.reference.specs.Basis.{row_l, row_h, viscosity_of, last_row, whole_way, InTable, place_of, l_at, h_at}

-- p is the place of y: the row at or below y, the next row `spacing` above it, and y stands `share` thousandths of the spacing above it
pub record Stands (y : ℕ) (p : Place) : Type 0 where
  pub in_table : InTable p
  pub spacing : ℕ
  pub some : 0 < spacing
  pub below : viscosity_of p.row ≤ y
  pub above : y < viscosity_of p.row + spacing
  pub next_viscosity : viscosity_of (p.row + 1) ≡ viscosity_of p.row + spacing
  pub exact : p.share * spacing ≡ whole_way * (y - viscosity_of p.row)

-- the two rows' entries, each times the distance of y from the other row: `spacing` times the line's value at y
abbrev pub weighed : (ℕ → ℕ) → ℕ → ℕ → ℕ → ℕ
weighed entries y row spacing = entries row * (viscosity_of row + spacing - y) + entries (row + 1) * (y - viscosity_of row)

pub record OnStraightLine (y : ℕ) : Type 0 where
  pub stands : Stands y (place_of y)
  pub l : l_at y * stands.spacing ≡ in_units (weighed row_l y (place_of y).row stands.spacing)
  pub h : h_at y * stands.spacing ≡ in_units (weighed row_h y (place_of y).row stands.spacing)

pub record NothingRounded : Type 0 where
  pub straight : (y : ℕ) → least100 ≤ y → y ≤ last_row → OnStraightLine y
