-- How the text is read from the records of a worked sheet. The inner functions read the sheet's own bytes; proofs/Worked.antt shows that the lines
-- which they put are those of `Text`, which speaks of the sheet as it was handed in.
use Rattle.std.specs.Prelude.{ℕ, zero, suc, List, [], ◌++◌}
use Rattle.sheet.specs.declared.questions.Blocks.{Blocks}
use Rattle.text_lines.specs.FromRecord.{line_at}

-- the lines of the first n pairs and their records, of a sheet's blocks
unfoldable pub lines_at : List ℕ → Blocks → ℕ → List ℕ
lines_at sheet blocks zero = []
lines_at sheet blocks (suc i) = lines_at sheet blocks i ++ line_at sheet blocks i
