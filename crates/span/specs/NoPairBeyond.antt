-- Change request #107: "No pair inside has an index beyond these, unless it or an end with the same y is marked near." Of any right answers to pairs, whoever
-- gives them; and of those that the pair operation gives without that exception. proofs/NoPairBeyond.antt shows both.
use Rattle.std.specs.Prelude.{ℕ, ◌≤◌, ◌≡◌, ℤ, ◌≤ℤ◌, Ok}
use Rattle.index.specs.Questions as pair
use Rattle.index.specs.Answer.{Answer, index_of, RightAnswer}
use Rattle.index.specs.Order.{MarkedNear}
use Rattle.span.specs.declared.Span.{Span}
use Rattle.span.specs.Questions.{refusal}
use Rattle.span.specs.Extremes.{IsLeast, IsGreatest}
use Rattle.span.specs.Span.{index_at, RightSpan}

-- a pair inside the limits
pub record Inside (u1 u2 y1 y2 u y : ℕ) : Type 0 where
  pub least_u : u1 ≤ u
  pub most_u : u ≤ u2
  pub least_y : y1 ≤ y
  pub most_y : y ≤ y2

-- neither a pair nor an end with the same y is marked near
pub record NoneNear (answers : ℕ → ℕ → Answer) (u1 u2 u y : ℕ) : Type 0 where
  pub pair : MarkedNear (answers u y) → ⊥
  pub lower_end : MarkedNear (answers u1 y) → ⊥
  pub upper_end : MarkedNear (answers u2 y) → ⊥

-- the index of a pair that passes the pair's questions is not beyond the two of a span
pub record NotOutside (least greatest : ℤ) (u y : ℕ) (index : ℤ) : Type 0 where
  pub passes : pair.refusal u y ≡ 0
  pub no_lower : least ≤ℤ index
  pub no_higher : index ≤ℤ greatest

pub record NoPairBeyond : Type 0 where
  pub right : (answers : ℕ → ℕ → Answer) → ((u y : ℕ) → RightAnswer u y (answers u y))
      → (u1 u2 y1 y2 : ℕ) (least greatest : ℤ) → refusal u1 u2 y1 y2 ≡ 0
      → IsLeast (λ y. index_of (answers u2 y)) y1 y2 least → IsGreatest (λ y. index_of (answers u1 y)) y1 y2 greatest
      → (u y : ℕ) → Inside u1 u2 y1 y2 u y → NoneNear answers u1 u2 u y → NotOutside least greatest u y (index_of (answers u y))
  pub given : (u1 u2 y1 y2 : ℕ) (span : Span) → RightSpan u1 u2 y1 y2 (Ok span)
      → (u y : ℕ) → Inside u1 u2 y1 y2 u y → NotOutside span.least span.greatest u y (index_at u y)
