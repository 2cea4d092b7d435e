-- Change request #103: "However the row at or below y and its spacing are found now, let both come from arithmetic on y .. For every y up to 70,000 the
-- row is the same". The row is that of `place_of`; the spacing is the distance from it to the next row. What is stated of both has no program in it,
-- and proofs/Rows.antt shows it.
use Rattle.std.specs.Prelude.{ℕ, ◌+◌, ◌-◌, ◌<◌, ◌≤◌, ◌≡◌}
use Rattle.reference.specs.declared.row.FoundRow.{FoundRow}
use Rattle.reference.specs.Viscosity.{least100}
use Rattle.reference.specs.Basis.{row_count, viscosity_of, last_row, place_of}

-- the distance from row i to the next one, in thousandths of a mm²/s. At the last row, 70.0, it is that to 70.5, which is not in the table
abbrev pub spacing_of : ℕ → ℕ
spacing_of i = viscosity_of (i + 1) - viscosity_of i

-- what is found of y: its place, which is the row and the share of the way to the next row, and the row's spacing
abbrev pub row_found : ℕ → FoundRow
row_found y = record { place = place_of y; spacing = spacing_of (place_of y).row }

-- f is the row at or below y and its spacing: y has reached that row, and not the next one, which stands the spacing above it
pub record RowAtOrBelow (y : ℕ) (f : FoundRow) : Type 0 where
  pub in_table : f.place.row < row_count
  pub reached : viscosity_of f.place.row ≤ y
  pub not_next : y < viscosity_of (f.place.row + 1)
  pub next : viscosity_of (f.place.row + 1) ≡ viscosity_of f.place.row + f.spacing

pub record EveryRowFound : Type 0 where
  pub right : (y : ℕ) → least100 ≤ y → y ≤ last_row → RowAtOrBelow y (row_found y)
  -- "steps of 0.1 from 2.0 to 20.0, of 0.2 to 30.0, of 0.5 to 70.0" (document 01)
  pub up_to_20 : (y : ℕ) → least100 ≤ y → y < 20000 → (row_found y).spacing ≡ 100
  pub up_to_30 : (y : ℕ) → 20000 ≤ y → y < 30000 → (row_found y).spacing ≡ 200
  pub up_to_70 : (y : ℕ) → 30000 ≤ y → y ≤ last_row → (row_found y).spacing ≡ 500
  -- on a row it is that row, and nothing of the way to the next one
  pub on_row : (i : ℕ) → i < row_count → ((row_found (viscosity_of i)).place.row ≡ i) × ((row_found (viscosity_of i)).place.share ≡ 0)
