-- Document 01, 'L and H': "Across the whole table L, H and L − H rise from each row to the next; this is shown, and a row that broke it
-- would be a misread digit." proofs/Rise.antt shows it for every row but the last by one computed test.
use Rattle.std.specs.Prelude.{ℕ, ◌+◌, ◌-◌, ◌<◌}
use Rattle.reference.specs.Basis.{row_l, row_h, last_row_at}

pub record RisesFrom (i : ℕ) : Type 0 where
  pub l : row_l i < row_l (i + 1)
  pub h : row_h i < row_h (i + 1)
  pub difference : row_l i - row_h i < row_l (i + 1) - row_h (i + 1)

-- every row but the last has a next one; and at the first row L is above H, so that the rise of L − H says it of every row
pub record TableRises : Type 0 where
  pub first : row_h 0 < row_l 0
  pub rises : (i : ℕ) → i < last_row_at → RisesFrom i
