-- Across Table 1 L, H and L − H rise from each row to the next: one test that the checker computes over the whole table, and the law
-- from the test to each row. L is above H at every row, since it is at the first.
use Prim.Native.Nat.{ℕ, zero, suc, ◌+◌, ◌-◌, ◌<◌, ◌≤◌}
use mathlib.Core.Bool.{Bool, ◌&&◌}
use native.Mathlib.Omega.{arith}
use native.Mathlib.Nat.{le_of_lt}
use native.Mathlib.Numerals.{add-one}
use lib.Dec.{T, ltb, ltb→lt, leb→le}
use Rattle.laws.proofs.Computed.{and_left, and_right, up_to, below}
use Rattle.reference.specs.declared.ReferenceOil.{ReferenceOil}
use Rattle.reference.specs.declared.ReferenceOil.TheVariants as oil
use Rattle.reference.specs.Table1.{table1}
use Rattle.reference.specs.Basis.{entry, row_l, row_h, row_count, last_row_at, column_of}
use Rattle.reference.specs.Limits.{least_row_difference}
use Rattle.reference.specs.Rise.{TableRises}

rise_l : ℕ → Bool
rise_l i = ltb (row_l i) (row_l (i + 1))

rise_h : ℕ → Bool
rise_h i = ltb (row_h i) (row_h (i + 1))

rise_difference : ℕ → Bool
rise_difference i = ltb (row_l i - row_h i) (row_l (i + 1) - row_h (i + 1))

rising_row : ℕ → Bool
rising_row i = rise_l i && (rise_h i && rise_difference i)

every_row_rises : T (up_to rising_row last_row_at)
unfolding rising_row rise_l rise_h rise_difference entry table1
every_row_rises = tt

first_row_apart : row_h 0 + least_row_difference ≤ row_l 0
unfolding entry table1
first_row_apart = leb→le _ _ tt

pub table_rises : TableRises
unfolding rising_row rise_l rise_h rise_difference
table_rises =
    record {
      first = omega (arith, first_row_apart);
      rises = λ i h.
          let t = below rising_row last_row_at every_row_rises i h in
          let u = and_right (rise_l i) (rise_h i && rise_difference i) t in
          record {
            l = ltb→lt (row_l i) (row_l (i + 1)) (and_left (rise_l i) (rise_h i && rise_difference i) t);
            h = ltb→lt (row_h i) (row_h (i + 1)) (and_left (rise_h i) (rise_difference i) u);
            difference = ltb→lt (row_l i - row_h i) (row_l (i + 1) - row_h (i + 1)) (and_right (rise_h i) (rise_difference i) u);
          };
    }

-- so the entry of either reference oil is not less in the next row
pub entries_rise : (o : ReferenceOil) (i : ℕ) → i < last_row_at → entry (column_of o) i ≤ entry (column_of o) (i + 1)
entries_rise oil.L i h = le_of_lt (table_rises.rises i h).l
entries_rise oil.H i h = le_of_lt (table_rises.rises i h).h

-- H is at least 1.6 mm²/s below L at every row: it is at the first, and L − H rises
pub rows_apart : (i : ℕ) → i < row_count → row_h i + least_row_difference ≤ row_l i
rows_apart zero h = first_row_apart
rows_apart (suc i) h =
    let g : row_l i - row_h i < row_l (suc i) - row_h (suc i) = rw add-one at (table_rises.rises i (omega arith)).difference in
    omega (arith, rows_apart i (omega arith))
