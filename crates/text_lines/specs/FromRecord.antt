-- How a line is read from a worked sheet: from the bytes of a pair and of its record. The inner functions read the sheet's own bytes;
-- proofs/Outcomes.antt shows that the outcome which they put is that of `Lines`, which speaks of the answer.
use Rattle.std.specs.Prelude.{ℕ, zero, suc, ◌+◌, ◌*◌, List, ℤ}
use Rattle.answer_record.specs.Record.{result_size, refusal_at, method_at, index_at}
use Rattle.sheet.specs.declared.questions.Blocks.{Blocks}
use Rattle.sheet.specs.Sheet.{u_at, y_at}
use Rattle.text_fields.specs.Fields.{ascii, decimal, signed_decimal, worded}
use Rattle.text_lines.specs.Lines.{printed_line}

-- the outcome by the fields of a record: its number, its method (0 refused, 1 A, 2 B settled, 3 B near) and its index
abbrev pub outcome_by : ℕ → ℕ → ℤ → List ℕ
outcome_by number zero index = worded (ascii "refused") (decimal number)
outcome_by number (suc zero) index = worded (ascii "A") (signed_decimal index)
outcome_by number (suc (suc zero)) index = worded (ascii "B") (signed_decimal index)
outcome_by number (suc (suc (suc more))) index = worded (ascii "B~") (signed_decimal index)

-- the outcome of the record that begins at an offset
abbrev pub outcome_at : List ℕ → ℕ → List ℕ
outcome_at sheet at = outcome_by (refusal_at sheet at) (method_at sheet at) (index_at sheet at)

-- the line of pair i and of its record, of a sheet's blocks
abbrev pub line_at : List ℕ → Blocks → ℕ → List ℕ
line_at sheet blocks i =
    printed_line (u_at sheet blocks.pairs i) (y_at sheet blocks.pairs i) (outcome_at sheet (blocks.results + result_size * i))
