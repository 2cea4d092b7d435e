-- What is answered and what the buffer holds, from what the steps of the writing operation say.
use Prim.Native.Nat.{ℕ}
use mathlib.Core.Path.{◌≡◌, refl, sym, ◌∙◌}
use mathlib.Core.List.{List}
use lib.ListN.{length}
use Rattle.std.specs.Prelude.{Result, Ok, Err}
use Rattle.sheet.specs.declared.questions.Blocks.{Blocks}
use Rattle.sheet_writer.specs.declared.questions.Refusal.{Refusal}
use Rattle.sheet_writer.specs.Questions.{pairs_in, blocks_for, blocks_asked, writing_number_of, writing_refusal}
use Rattle.sheet_writer.specs.Writing.{sheet_for, answer_from, writing_answer, buffer_after}
use Rattle.sheet_writer.specs.Preconditions.{SheetFits}
use Rattle.sheet_writer.proofs.QuestionOrder.{by_questions}

-- a refusal leaves the buffer
pub refused : (row buffer : List ℕ) {r : Refusal} → Err r ≡ blocks_asked row (length buffer)
    → (Err r ≡ writing_answer row (length buffer)) × (buffer ≡ buffer_after row buffer)
unfolding writing_answer buffer_after
refused row buffer e = rw (sym e) (refl, refl)

-- blocks are those of a sheet that fits the buffer, and the buffer is that sheet afterwards
pub fits : (row : List ℕ) (size : ℕ) {blocks : Blocks} → Ok blocks ≡ blocks_asked row size → SheetFits row blocks size
fits row size {blocks = blocks} e =
    by_questions row size (λ r q. let no = e ∙ q in cc) (λ f q. let same : blocks ≡ blocks_for (pairs_in row) = let is = e ∙ q in cc in rw same f)

pub written : (row buffer : List ℕ) {blocks : Blocks} → Ok blocks ≡ blocks_asked row (length buffer)
    → (Ok tt ≡ writing_answer row (length buffer)) × (sheet_for row ≡ buffer_after row buffer)
unfolding writing_answer buffer_after
written row buffer e = rw (sym e) (refl, refl)

-- the number of the answer is that of the first question that fails
same_number : (a : Result Blocks Refusal) → writing_number_of (answer_from a) ≡ writing_number_of a
same_number (Ok blocks) = refl
same_number (Err r) = refl

pub writing_number : (row : List ℕ) (size : ℕ) → writing_number_of (writing_answer row size) ≡ writing_refusal row size
unfolding writing_answer writing_refusal
writing_number row size = same_number (blocks_asked row size)
