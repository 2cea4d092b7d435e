-- What the C calls answer and leave, from what the operations below them ensure.
use Prim.Native.Nat.{ℕ}
use mathlib.Core.Path.{◌≡◌, refl, ap, ◌∙◌}
use mathlib.Core.List.{List}
use lib.ListN.{length}
use Rattle.index.specs.Answer.{Answer, number_of, RightAnswer}
use Rattle.index.specs.ChosenAnswer.{answer_of}
use Rattle.answer_record.specs.Record.{result_size, record_of}
use Rattle.std.specs.Prelude.{Result}
use Rattle.sheet.specs.declared.refusal.Refusal.{Refusal}
use Rattle.sheet.specs.Sheet.{sheet_refusal, sheet_answer_of, sheet_number_of}
use Rattle.sheet.proofs.Worked.{number_of_answer}
use Rattle.sheet_writer.specs.Questions.{writing_refusal}
use Rattle.sheet_writer.specs.RightWriting.{RightWriting}
use Rattle.viscosity_index.specs.PairCall.{not_a_record, pair_number, record_after, PairCall, NoRecord}

-- a record of another length: its number, and the record as it was
pub untouched : (u y : ℕ) (lent : List ℕ) → (length lent ≡ result_size → ⊥) → PairCall u y lent not_a_record lent
untouched u y lent h = record { just_16 = λ e. absurd (h e); not_16 = λ _. (refl, refl) }

pub no_record : NoRecord
unfolding pair_number record_after
no_record = record { number = λ u y. refl; untouched = λ u y. refl }

-- a record of 16 bytes
pub filled : (u y number : ℕ) (lent after : List ℕ) {a : Answer} → length lent ≡ result_size → a ≡ answer_of u y → RightAnswer u y a
    → after ≡ record_of a → number ≡ number_of a → PairCall u y lent number after
filled u y number lent after {a} h alone right bytes same = record {
  just_16 = λ _. record { result = record { of_right = record { answer = a; right = right; laid_out = bytes }; alone = alone }; number_is = same };
  not_16 = λ other. absurd (other h);
}

-- the number of the answer to a sheet
pub sheet_number : (before : List ℕ) {number : ℕ} {a : Result ℕ Refusal} → number ≡ sheet_number_of a → a ≡ sheet_answer_of before
    → number ≡ sheet_refusal before
sheet_number before e f = e ∙ ap sheet_number_of f ∙ number_of_answer before

-- the number of the answer to a writing, and that it is right
pub number_of_writing : (row before after : List ℕ) {number answered : ℕ} → number ≡ answered → RightWriting row before after answered
    → number ≡ writing_refusal row (length before)
number_of_writing row before after e r = e ∙ r.number_is

pub right_writing : (row before after : List ℕ) {number answered : ℕ} → number ≡ answered → RightWriting row before after answered
    → RightWriting row before after number
right_writing row before after e r = rw e r
