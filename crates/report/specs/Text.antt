-- Document 01, 'The printing program': the whole text of a sheet, as the list of its bytes. It is determined by the sheet as it was handed in.
-- "It reads a sheet from standard input, works it and writes ASCII lines ..: "pairs" and n; then for each pair" its line; "A refused sheet prints
-- only the one line". Which bytes those lines are stands in `Lines` of the crate `text_lines`.
use Rattle.std.specs.Prelude.{ℕ, zero, suc, cond, List, [], ◌++◌, leb, length, Result, Ok, Err}
use Rattle.sheet.specs.declared.refusal.Refusal.{Refusal}
use Rattle.sheet.specs.Numbers.{refusal_number}
use Rattle.sheet.specs.Sheet.{pairs_of, u_at, y_at, answer_at, sheet_answer_of, sheet_after}
use Rattle.text_lines.specs.Lines.{outcome, printed_line, first_line, refused_line}

-- "then for each pair": the lines of the first n pairs of a sheet, each from the pair's u, its y and the answer to them
unfoldable pub printed_lines : List ℕ → ℕ → List ℕ
printed_lines sheet zero = []
printed_lines sheet (suc i) =
    printed_lines sheet i ++ printed_line (u_at sheet (pairs_of sheet) i) (y_at sheet (pairs_of sheet) i) (outcome (answer_at sheet (pairs_of sheet) i))

-- the text of a sheet by the answer to it, and the text of a sheet
abbrev pub text_by : List ℕ → Result ℕ Refusal → List ℕ
text_by sheet (Ok n) = first_line n ++ printed_lines sheet n
text_by sheet (Err refusal) = refused_line (refusal_number refusal)

unfoldable pub text_of : List ℕ → List ℕ
text_of sheet = text_by sheet (sheet_answer_of sheet)

-- "so does input over 65,536 bytes, with 12"
abbrev pub most_input : ℕ
most_input = 65536

abbrev pub too_long_refusal : ℕ
too_long_refusal = 12

-- what is printed for an input of any bytes
unfoldable pub printed : List ℕ → List ℕ
printed input = cond (leb (length input) most_input) (text_of input) (refused_line too_long_refusal)

-- the input afterwards
unfoldable pub input_after : List ℕ → List ℕ
input_after input = cond (leb (length input) most_input) (sheet_after input) input
