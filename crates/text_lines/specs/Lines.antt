-- Document 01, 'The printing program': the lines of a sheet's text, each as the list of its bytes.
use Rattle.index.specs.Answer.{Answer}
use Rattle.std.specs.Prelude.{ℕ, List, ◌++◌, Ok, Err}
use Rattle.shown_index.specs.declared.Mark.{Mark}
use Rattle.shown_index.specs.declared.Mark.TheVariants as mark
use Rattle.reference.specs.Refusal.{number_of_refusal}
use Rattle.index.specs.declared.answer.Index.TheVariants.{A, B}
use Rattle.text_fields.specs.Fields.{ascii, space, line_end, decimal, viscosity, signed_decimal, worded}

-- ""pairs" and n"
unfoldable pub first_line : ℕ → List ℕ
first_line n = worded (ascii "pairs") (decimal n) ++ line_end

-- "the one line "sheet refused" and its number"
unfoldable pub refused_line : ℕ → List ℕ
refused_line number = worded (ascii "sheet refused") (decimal number) ++ line_end

-- "the method (A, B, or B~ for near)"
abbrev pub procedure_b : Mark → List ℕ
procedure_b mark.Settled = ascii "B"
procedure_b mark.Near = ascii "B~"

-- "the method .. and index, or "refused" and the number"
abbrev pub outcome : Answer → List ℕ
outcome (Ok (A index)) = worded (ascii "A") (signed_decimal index)
outcome (Ok (B b)) = worded (procedure_b b.mark) (decimal b.index)
outcome (Err refusal) = worded (ascii "refused") (decimal (number_of_refusal refusal))

-- the line of a pair: "u, y (three decimals each), the method .. and index, or "refused" and the number"
unfoldable pub printed_line : ℕ → ℕ → List ℕ → List ℕ
printed_line u y result = viscosity u ++ (space ++ (viscosity y ++ (space ++ (result ++ line_end))))
