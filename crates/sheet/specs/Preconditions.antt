-- What the inner functions of the sheet operation ask of their callers: that the blocks lie within the sheet, which is `size` bytes long,
-- and share no byte.
use Rattle.std.specs.Prelude.{ℕ, ◌+◌, ◌*◌, ◌≤◌, ◌⊎◌}
use Rattle.answer_record.specs.Record.{result_size}
use Rattle.sheet.specs.declared.questions.Blocks.{Blocks}
use Rattle.sheet.specs.Sheet.{pair_size}

-- pair i and its record
pub record PairWithin (size : ℕ) (blocks : Blocks) (i : ℕ) : Type 0 where
  pub pair : blocks.pairs + pair_size * i + pair_size ≤ size
  pub result : blocks.results + result_size * i + result_size ≤ size

-- all pairs and their records
pub record BlocksWithin (size : ℕ) (blocks : Blocks) : Type 0 where
  pub pairs_end : blocks.pairs + pair_size * blocks.count ≤ size
  pub results_end : blocks.results + result_size * blocks.count ≤ size
  pub apart : (blocks.pairs + pair_size * blocks.count ≤ blocks.results) ⊎ (blocks.results + result_size * blocks.count ≤ blocks.pairs)
