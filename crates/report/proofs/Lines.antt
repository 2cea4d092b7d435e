-- One line after another.
use Rattle.std.proofs.Common.{ℕ, ◌+◌, ◌≡◌, List, ◌++◌, append_assoc}
use native.Mathlib.Numerals.{add-one}
use Rattle.sheet.specs.declared.questions.Blocks.{Blocks}
use Rattle.text_lines.specs.FromRecord.{line_at}
use Rattle.report.specs.FromRecords.{lines_at}

pub one_more : (sheet first : List ℕ) (blocks : Blocks) (i : ℕ)
    → (first ++ lines_at sheet blocks i) ++ line_at sheet blocks i ≡ first ++ lines_at sheet blocks (i + 1)
unfolding lines_at
one_more sheet first blocks i = rw (add-one i) (append_assoc first (lines_at sheet blocks i) (line_at sheet blocks i))
