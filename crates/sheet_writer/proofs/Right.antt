-- The number that a writing gets, that what is answered and stored is right, and that nothing else is.
use Prim.Native.Nat.{ℕ, ◌+◌, ◌*◌, ◌%◌, ◌≤◌, ◌<◌}
use mathlib.Core.Path.{◌≡◌, refl, sym, ap, ◌∙◌}
use mathlib.Core.List.{List}
use native.Mathlib.Omega.{arith}
use borrow.Author.Tests.{eqb-true, eqb-false}
use lib.Dec.{eqb}
use lib.ListN.{length, get_or}
use mir.Syntax.{w32}
use mir.Val.{Fits}
use Rattle.std.specs.Prelude.{Result, Ok}
use Rattle.laws.proofs.Order.{by_test}
use Rattle.sheet_writer.specs.declared.questions.Refusal.{Refusal}
use Rattle.sheet_writer.specs.declared.questions.Refusal.TheVariants.{OddCount, TooManyPairs, OtherSize}
use Rattle.sheet_writer.specs.Questions.{refusal_number, pairs_in, blocks_for, blocks_asked, writing_number_of, writing_refusal, WritingQuestions}
use Rattle.sheet_writer.specs.Writing.{sheet_for, writing_answer, buffer_after}
use Rattle.sheet_writer.specs.Preconditions.{SheetFits}
use Rattle.sheet_writer.specs.RightWriting.{SheetOf, RightWriting}
use Rattle.sheet_writer.specs.OneRightWriting.{Numbers32, OneRightWriting}
use Rattle.sheet_writer.proofs.QuestionOrder.{no_51, no_52, no_53, all_yes, by_questions}
use Rattle.sheet_writer.proofs.Written.{refused, written, writing_number}
use Rattle.sheet_writer.proofs.Described.{described}
use Rattle.sheet_writer.proofs.OneSheet.{one_sheet}

-- ---- the questions, by their numbers

odd : (row : List ℕ) (size : ℕ) → length row % 2 ≡ 1 → writing_refusal row size ≡ 51
unfolding writing_refusal
odd row size h = ap writing_number_of (sym (no_51 row size (λ e. omega arith)))

module _ (row : List ℕ) (size n : ℕ) (e : length row ≡ 2 * n) where
  half : pairs_in row ≡ n
  half = omega arith

  too_many : 2000 < n → writing_refusal row size ≡ 52
  unfolding writing_refusal
  too_many h = ap writing_number_of (sym (no_52 row size (omega arith) (omega (arith, half))))

  other_size : n ≤ 2000 → (size ≡ 16 + 24 * n → ⊥) → writing_refusal row size ≡ 53
  unfolding writing_refusal
  other_size h differs = ap writing_number_of (sym (no_53 row size (omega arith) (omega (arith, half)) (λ q. differs (omega (arith, half, q)))))

  none : n ≤ 2000 → size ≡ 16 + 24 * n → writing_refusal row size ≡ 0
  unfolding writing_refusal
  none h same = ap writing_number_of (sym (all_yes row size (omega arith) (omega (arith, half)) (omega (arith, half))))

pub writing_questions : WritingQuestions
writing_questions = record { odd = odd; too_many = too_many; other_size = other_size; none = none }

-- ---- what is right

some_number : (r : Refusal) → 0 < refusal_number r
some_number OddCount = omega arith
some_number TooManyPairs = omega arith
some_number OtherSize = omega arith

-- a writing that no question refuses fits the buffer
pub taken : (row : List ℕ) (size : ℕ) → writing_refusal row size ≡ 0 → SheetFits row (blocks_for (pairs_in row)) size × (blocks_asked row size ≡ Ok (blocks_for (pairs_in row)))
unfolding writing_refusal
taken row size z = by_questions row size (λ r e. absurd (omega (arith, some_number r, ap writing_number_of e))) (λ f e. (f, e))

-- what the buffer holds where a question refuses, and where none does
left : (row before : List ℕ) → (writing_refusal row (length before) ≡ 0 → ⊥) → buffer_after row before ≡ before
unfolding writing_refusal
left row before some =
    by_questions row (length before) (λ r e. sym (refused row before (sym e)).1) (λ f e. absurd (some (ap writing_number_of e)))

filled_with : (row before : List ℕ) → writing_refusal row (length before) ≡ 0 → buffer_after row before ≡ sheet_for row
filled_with row before z = sym (written row before (sym (taken row (length before) z).1)).1

sheet_is : (row before : List ℕ) → Numbers32 row → writing_refusal row (length before) ≡ 0 → SheetOf row (buffer_after row before)
sheet_is row before fits z =
    let f = (taken row (length before) z).0 in rw (filled_with row before z) (described row f.even f.few fits)

pub right : (row before : List ℕ) → Numbers32 row → RightWriting row before (buffer_after row before) (writing_refusal row (length before))
right row before fits = record { number_is = refl; refused = left row before; written = sheet_is row before fits }

-- the same of what is answered and left
pub right_answer : (row before after : List ℕ) {a : Result (Unit {0}) Refusal} → ((i : ℕ) → Fits w32 (get_or row i 0)) → a ≡ writing_answer row (length before)
    → after ≡ buffer_after row before → RightWriting row before after (writing_number_of a)
right_answer row before after f e b =
    let numbers : Numbers32 row = λ i. (f i).fits in
    rw (e, b, writing_number row (length before)) (right row before numbers)

only : (row before after : List ℕ) (number : ℕ) → Numbers32 row → RightWriting row before after number
    → (number ≡ writing_refusal row (length before)) × (after ≡ buffer_after row before)
only row before after number fits r =
    by_test (eqb number 0)
    (λ z. let taken : number ≡ 0 = eqb-true _ _ z in
    (r.number_is, one_sheet row after (buffer_after row before) (r.written taken) (sheet_is row before fits (sym r.number_is ∙ taken))))
    (λ z. let some : number ≡ 0 → ⊥ = eqb-false _ _ z in
    (r.number_is, r.refused some ∙ sym (left row before (λ e. some (r.number_is ∙ e)))))

pub one_right_writing : OneRightWriting
one_right_writing = record { is = right; only = only }
