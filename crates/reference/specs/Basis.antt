-- Document 01, 'L and H': y is a kinematic viscosity at 100 °C in thousandths of a mm²/s; L and H are in units of 10^-10 mm²/s.
use Rattle.std.specs.Prelude.{ℕ, List, [], ◌∷◌, ◌+◌, ◌*◌, ◌-◌, ◌/◌, ◌%◌, ◌<◌, ◌≡◌, cond, ltb, leb, eqb, get_or, Option, None, Some, Result, Ok, Err}
use Rattle.reference.specs.declared.row.Place.{Place}
use Rattle.reference.specs.declared.ReferenceOil.{ReferenceOil}
use Rattle.reference.specs.declared.ReferenceOil.TheVariants as oil
use Rattle.reference.specs.declared.Basis.{Basis}
use Rattle.reference.specs.declared.refusal.Refusal.{Refusal}
use Rattle.reference.specs.Viscosity.{asked100, in_units}
use Rattle.reference.specs.Table1.{table1}

-- the entries of rows of L and H, in their order
abbrev pub entries_of : List (ℕ × ℕ) → List ℕ
entries_of [] = []
entries_of (row ∷ rows) = row.0 ∷ row.1 ∷ entries_of rows

-- L and H of row i of Table 1, in thousandths; rows are counted from 0, and a row is two entries, L and then H
abbrev pub row_size : ℕ
row_size = 2

unfoldable pub entry : ℕ → ℕ → ℕ
entry column i = get_or table1 (row_size * i + column) 0

abbrev pub row_l : ℕ → ℕ
row_l = entry 0

abbrev pub row_h : ℕ → ℕ
row_h = entry 1

-- "Table 1 has 311 rows: steps of 0.1 from 2.0 to 20.0, of 0.2 to 30.0, of 0.5 to 70.0": how many, the last one counted from 0, the
-- viscosity of row i, and that of the last row
abbrev pub row_count : ℕ
row_count = 311

abbrev pub last_row_at : ℕ
last_row_at = 310

abbrev pub viscosity_of : ℕ → ℕ
viscosity_of i =
    cond (ltb i 180) (2000 + 100 * i)
    (cond (ltb i 230) (20000 + 200 * (i - 180))
    (30000 + 500 * (i - 230)))

abbrev pub last_row : ℕ
last_row = 70000

-- the way from a row to the next one, in the thousandths of it that a share is counted in
abbrev pub whole_way : ℕ
whole_way = 1000

-- where y stands among rows `spacing` apart, of which row `first` stands at `start`: the row at or below y, and how far y is
-- on the way from that row to the next one, in thousandths of the way
abbrev pub place_among : ℕ → ℕ → ℕ → ℕ → Place
place_among first start spacing y = record { row = first + (y - start) / spacing; share = (y - start) % spacing * (whole_way / spacing) }

abbrev pub place_of : ℕ → Place
place_of y =
    cond (ltb y 20000) (place_among 0 2000 100 y)
    (cond (ltb y 30000) (place_among 180 20000 200 y)
    (place_among 230 30000 500 y))

-- "the straight line between the row at or below y and the next one": a and b are those rows' entries, in thousandths. The line is
-- (a · (1000 − share) + b · share) / 1000 thousandths, that is so many millionths without the division, and a millionth has 10^4 units
abbrev pub units_per_millionth : ℕ
units_per_millionth = 10000

abbrev pub straight_line : ℕ → ℕ → ℕ → ℕ
straight_line a b share = (a * (whole_way - share) + b * share) * units_per_millionth

-- "on a row, the row"
unfoldable pub at_place : (ℕ → ℕ) → Place → ℕ
at_place entries p = cond (eqb p.share 0) (in_units (entries p.row)) (straight_line (entries p.row) (entries (p.row + 1)) p.share)

-- "L = 8353·y² + 146,700,000·y − 2,160,000,000,000 and H = 1684·y² + 118,500,000·y − 970,000,000,000"
abbrev pub quadratic_l : ℕ → ℕ
quadratic_l y = 8353 * (y * y) + 146700000 * y - 2160000000000

abbrev pub quadratic_h : ℕ → ℕ
quadratic_h y = 1684 * (y * y) + 118500000 * y - 970000000000

-- "y up to 70,000: the straight line .. y above 70,000: [the quadratics]"
unfoldable pub l_at : ℕ → ℕ
l_at y = cond (leb y last_row) (at_place row_l (place_of y)) (quadratic_l y)

unfoldable pub h_at : ℕ → ℕ
h_at y = cond (leb y last_row) (at_place row_h (place_of y)) (quadratic_h y)

-- L and H together
abbrev pub basis_of : ℕ → Basis
basis_of y = record { l = l_at y; h = h_at y }

-- "The request for L and H alone takes y and asks the first two": the refusal or the values of each case of its answer
abbrev pub basis_answered : Result ℕ Refusal → Result Basis Refusal
basis_answered (Err refusal) = Err refusal
basis_answered (Ok y) = Ok (basis_of y)

abbrev pub basis_answer_of : ℕ → Result Basis Refusal
basis_answer_of y = basis_answered (asked100 y)

-- ---- for inner functions alone: places of the table, and the same by parts, as the code finds them

-- p is a place of the table: its row is one of the rows, and so is the next one where p is past its row
pub record InTable (p : Place) : Type 0 where
  pub row : p.row < row_count
  pub next : (p.share ≡ 0 → ⊥) → p.row + 1 < row_count
  pub inside : p.share < whole_way

-- the column of row_l, and that of row_h
abbrev pub column_of : ReferenceOil → ℕ
column_of oil.L = 0
column_of oil.H = 1

abbrev pub by_quadratic : ReferenceOil → ℕ → ℕ
by_quadratic oil.L y = quadratic_l y
by_quadratic oil.H y = quadratic_h y

-- where L and H at y are found: at a place of the table; above it at none, where the quadratics give them
abbrev pub source_of : ℕ → Option Place
source_of y = cond (leb y last_row) (Some (place_of y)) None

abbrev pub basis_value : ReferenceOil → ℕ → ℕ
basis_value oil.L y = l_at y
basis_value oil.H y = h_at y
