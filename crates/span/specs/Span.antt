-- Change request #107: "Given u from u1 to u2 and y from y1 to y2, the answer is the least index over all y at u2 and the greatest over all y at u1." What the
-- answer is, and when one is right.
use Rattle.std.specs.Prelude.{ℕ, ◌<◌, ◌≡◌, ℤ, cond, eqb, Result, Ok, Err}
use Rattle.index.specs.Answer.{index_of}
use Rattle.index.specs.ChosenAnswer.{answer_of}
use Rattle.span.specs.declared.Span.{Span}
use Rattle.span.specs.declared.extreme.Extreme.TheVariants.{Least, Greatest}
use Rattle.span.specs.declared.questions.Refusal.{Refusal}
use Rattle.span.specs.Questions.{refusal, number_of_refusal, refusal_of}
use Rattle.span.specs.Extremes.{IsLeast, IsGreatest, extreme_of}

-- the index that the pair operation gives
abbrev pub index_at : ℕ → ℕ → ℤ
index_at u y = index_of (answer_of u y)

-- ---- when an answer is right

-- the number of the question that refused, 0 where a span is answered
abbrev pub number_of : Result Span Refusal → ℕ
number_of (Err r) = number_of_refusal r
number_of (Ok span) = 0

-- by cases: a refusal is by a question; a span is the least index over all y at u2, and the greatest over all y at u1
abbrev pub RightCase : ℕ → ℕ → ℕ → ℕ → Result Span Refusal → Type 0
RightCase u1 u2 y1 y2 (Err r) = 0 < number_of_refusal r
RightCase u1 u2 y1 y2 (Ok span) = IsLeast (index_at u2) y1 y2 span.least × IsGreatest (index_at u1) y1 y2 span.greatest

-- its number is that of the first question that fails and 0 if none fails, and its case is right
pub record RightSpan (u1 u2 y1 y2 : ℕ) (answer : Result Span Refusal) : Type 0 where
  pub number : number_of answer ≡ refusal u1 u2 y1 y2
  pub case : RightCase u1 u2 y1 y2 answer

-- ---- the answer that is so

abbrev pub span_passed : ℕ → ℕ → ℕ → ℕ → Span
span_passed u1 u2 y1 y2 = record { least = extreme_of Least (index_at u2) y1 y2; greatest = extreme_of Greatest (index_at u1) y1 y2 }

unfoldable pub span_of : ℕ → ℕ → ℕ → ℕ → Result Span Refusal
span_of u1 u2 y1 y2 = cond (eqb (refusal u1 u2 y1 y2) 0) (Ok (span_passed u1 u2 y1 y2)) (Err (refusal_of (refusal u1 u2 y1 y2)))

-- any four numbers have just one right answer: no program is mentioned. proofs/Right.antt shows it
pub record OneRightSpan : Type 0 where
  pub is : (u1 u2 y1 y2 : ℕ) → RightSpan u1 u2 y1 y2 (span_of u1 u2 y1 y2)
  pub only : (u1 u2 y1 y2 : ℕ) (answer : Result Span Refusal) → RightSpan u1 u2 y1 y2 answer → answer ≡ span_of u1 u2 y1 y2
