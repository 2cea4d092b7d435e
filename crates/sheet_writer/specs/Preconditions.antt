-- What the inner functions of the writer ask of their callers, of a sheet that is `size` bytes long.
use Rattle.std.specs.Prelude.{ℕ, ◌*◌, ◌≤◌, ◌<◌, ◌≡◌, List, length}
use Rattle.laws.specs.Bits.{span32}
use Rattle.sheet.specs.declared.questions.Blocks.{Blocks}
use Rattle.sheet.specs.Sheet.{header_size, most_pairs}
use Rattle.sheet.specs.Preconditions.{BlocksWithin}
use Rattle.sheet_writer.specs.Questions.{numbers_of_pair, pairs_in, blocks_for, size_for}

-- that the header stands in it, and that its numbers fit 32 bits
pub record HeaderFits (size : ℕ) (blocks : Blocks) (total : ℕ) : Type 0 where
  pub header : header_size ≤ size
  pub count : blocks.count < span32
  pub pairs : blocks.pairs < span32
  pub results : blocks.results < span32
  pub all : total < span32

-- that the pairs of a row of so many numbers and their results stand in it
pub record PairsFit (size : ℕ) (blocks : Blocks) (numbers : ℕ) : Type 0 where
  pub within : BlocksWithin size blocks
  pub row_end : numbers_of_pair * blocks.count ≤ numbers

-- that it is just as long as the sheet of a row, which fails no question
pub record SheetFits (row : List ℕ) (blocks : Blocks) (size : ℕ) : Type 0 where
  pub even : length row ≡ numbers_of_pair * pairs_in row
  pub few : pairs_in row ≤ most_pairs
  pub blocks_are : blocks ≡ blocks_for (pairs_in row)
  pub size_is : size ≡ size_for (pairs_in row)
