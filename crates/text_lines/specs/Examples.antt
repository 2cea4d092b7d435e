-- Document 01, 'The printing program': the lines that it shows "For the pairs (73300, 8860), (22830, 5050), (20000, 1999)", and one of each
-- other kind, as the definitions give them. proofs/Examples.antt shows it by computation.
use Rattle.index.specs.Answer.{Answer}
use Rattle.std.specs.Prelude.{ℕ, ◌≡◌, List, pos, negsuc, Ok, Err}
use Rattle.shown_index.specs.declared.Mark.{Mark}
use Rattle.shown_index.specs.declared.Mark.TheVariants.{Settled, Near}
use Rattle.index.specs.declared.answer.Index.TheVariants.{A, B}
use Rattle.reference.specs.declared.refusal.Refusal.TheVariants.{ThinAt100, ThickAt100}
use Rattle.text_fields.specs.Fields.{ascii}
use Rattle.text_lines.specs.Lines.{outcome, printed_line, first_line, refused_line}

-- an answer by procedure B; its fractions are not printed
abbrev pub answer_by_b : ℕ → Mark → Answer
answer_by_b index m = Ok (B (record { index = index; mark = m; lower = 0; upper = 0 }))

abbrev pub line : ℕ → ℕ → Answer → List ℕ
line u y a = printed_line u y (outcome a)

pub record ExampleLines : Type 0 where
  pub first : first_line 3 ≡ ascii "pairs 3\n"
  pub by_a : line 73300 8860 (Ok (A (pos 92))) ≡ ascii "73.300 8.860 A 92\n"
  pub by_b : line 22830 5050 (answer_by_b 156 Settled) ≡ ascii "22.830 5.050 B 156\n"
  pub refused : line 20000 1999 (Err ThinAt100) ≡ ascii "20.000 1.999 refused 1\n"
  -- an index below zero: negsuc 62499499 is −62,499,500
  pub below_zero : line 1000000000 2000 (Ok (A (negsuc 62499499))) ≡ ascii "1000000.000 2.000 A -62499500\n"
  pub near : line 144936 16776 (answer_by_b 125 Near) ≡ ascii "144.936 16.776 B~ 125\n"
  -- u and y of a refused pair may be any 32-bit numbers
  pub widest : line 4294967295 4294967295 (Err ThickAt100) ≡ ascii "4294967.295 4294967.295 refused 2\n"
  pub narrowest : line 0 7 (Err ThinAt100) ≡ ascii "0.000 0.007 refused 1\n"
  pub sheet : refused_line 12 ≡ ascii "sheet refused 12\n"
