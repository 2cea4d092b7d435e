-- What an inner function asks of its callers beside an empty text.
use Rattle.std.specs.Prelude.{ℕ, ◌≤◌, List, length}
use Rattle.sheet.specs.Sheet.{header_size, most_pairs, count_of, named_blocks}
use Rattle.sheet.specs.Preconditions.{BlocksWithin}

-- a worked sheet, as it can be read: its header and its blocks are there
pub record Readable (sheet : List ℕ) : Type 0 where
  pub header : header_size ≤ length sheet
  pub few : count_of sheet ≤ most_pairs
  pub blocks : BlocksWithin (length sheet) (named_blocks sheet)
