-- Document 01, 'The printing program': "so does input over 65,536 bytes, with 12". Input of 65,536 bytes is worked, whatever it holds, and input of one more is
-- not. proofs/Worked.antt shows it.
use Rattle.std.specs.Prelude.{ℕ, ◌≡◌, List, length}
use Rattle.sheet.specs.Sheet.{sheet_after}
use Rattle.text_lines.specs.Lines.{refused_line}
use Rattle.report.specs.Text.{text_of, printed, input_after}

pub record LongestInput : Type 0 where
  pub longest : (input : List ℕ) → length input ≡ 65536 → (printed input ≡ text_of input) × (input_after input ≡ sheet_after input)
  pub one_more : (input : List ℕ) → length input ≡ 65537 → (printed input ≡ refused_line 12) × (input_after input ≡ input)
