-- Change request #107 in C, by document 01's rule for the pair call: the lent row is first asked whether it is just 2 numbers (no: 5, row untouched); then the
-- questions to the limits, of which the first no gives its number, with the row untouched; otherwise the row holds the least and the greatest index, and 0 is
-- answered.
use Rattle.std.specs.Prelude.{Result, Ok, Err, ℕ, ◌≡◌, Bool, cond, List, [], ◌∷◌, eqb, ℤ, pos, length}
use Rattle.laws.specs.Questions.{ask}
use Rattle.span.specs.declared.Span.{Span}
use Rattle.span.specs.declared.questions.Refusal.{Refusal}
use Rattle.span.specs.Span.{number_of, RightSpan, span_of}

-- the question about the row, and its number
abbrev pub row_size : ℕ
row_size = 2

abbrev pub just2 : List ℤ → Bool
just2 lent = eqb (length lent) row_size

abbrev pub not_a_row : ℕ
not_a_row = 5

-- a row: the least, then the greatest
abbrev pub row_of : Span → List ℤ
row_of span = span.least ∷ span.greatest ∷ []

-- a row of two numbers after an answer
abbrev pub filled_by : List ℤ → Result Span Refusal → List ℤ
filled_by lent (Err r) = lent
filled_by lent (Ok span) = row_of span

-- what the call answers
unfoldable pub row_number : List ℤ → ℕ → ℕ → ℕ → ℕ → ℕ
row_number lent u1 u2 y1 y2 = ask (just2 lent) not_a_row (number_of (span_of u1 u2 y1 y2))

-- the row afterwards
unfoldable pub row_after : List ℤ → ℕ → ℕ → ℕ → ℕ → List ℤ
row_after lent u1 u2 y1 y2 = cond (just2 lent) (filled_by lent (span_of u1 u2 y1 y2)) lent

-- what the call answers and leaves in a row of two numbers: the number and the row of a right answer
pub record Filled (u1 u2 y1 y2 : ℕ) (lent : List ℤ) (number : ℕ) (after : List ℤ) : Type 0 where
  pub answer : Result Span Refusal
  pub right : RightSpan u1 u2 y1 y2 answer
  pub number_is : number ≡ number_of answer
  pub row_is : after ≡ filled_by lent answer

-- what the call answers and leaves, whatever is lent
pub record SpanCall (u1 u2 y1 y2 : ℕ) (lent : List ℤ) (number : ℕ) (after : List ℤ) : Type 0 where
  pub just_2 : length lent ≡ row_size → Filled u1 u2 y1 y2 lent number after
  pub not_2 : (length lent ≡ row_size → ⊥) → (number ≡ not_a_row) × (after ≡ lent)

-- document 01's "(no: 5, record untouched)", of a row: one of no numbers, whatever is asked
pub record NoRow : Type 0 where
  pub number : (u1 u2 y1 y2 : ℕ) → row_number [] u1 u2 y1 y2 ≡ 5
  pub untouched : (u1 u2 y1 y2 : ℕ) → row_after [] u1 u2 y1 y2 ≡ []

-- what `SpanCall` forces of any call with a row of two numbers: the least index stands first, and the greatest second; and limits that a question refuses are
-- answered by its number alone
pub record ForcedRow : Type 0 where
  pub filled : (lent after : List ℤ) (number : ℕ) → length lent ≡ 2 → SpanCall 72567 74033 8851 8869 lent number after
      → (number ≡ 0) × (after ≡ pos 91 ∷ pos 94 ∷ [])
  pub refused : (lent after : List ℤ) (number : ℕ) → length lent ≡ 2 → SpanCall 73300 73300 8860 9061 lent number after → (number ≡ 42) × (after ≡ lent)
