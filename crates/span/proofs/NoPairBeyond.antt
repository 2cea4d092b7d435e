-- No pair inside has an index beyond the two of a span, because at one y the index never rises with u.
use Prim.Native.Nat.{ℕ, ◌≤◌}
use mathlib.Core.Path.{◌≡◌, sym, subst}
use native.Mathlib.Omega.{arith}
use lib.IntN.{ℤ}
use lib.Signed.{◌≤ℤ◌, ≤ℤ_refl}
use Rattle.laws.proofs.Order.{by_order}
use Rattle.laws.proofs.Difference.{order_joins}
use Rattle.index.specs.Questions as pair
use Rattle.index.specs.Answer.{Answer, index_of, RightAnswer}
use Rattle.index.specs.Order.{MarkedNear}
use Rattle.index.proofs.QuestionOrder as pair_questions
use Rattle.index.proofs.Order.{in_order}
use Rattle.span.specs.Extremes.{IsLeast, IsGreatest}
use Rattle.span.specs.Span.{index_at}
use Rattle.span.specs.NoPairBeyond.{Inside, NoneNear, NotOutside, NoPairBeyond}
use Rattle.span.specs.Preconditions.{InLimits}
use Rattle.span.proofs.QuestionOrder.{in_limits}

module _ (u1 u2 y1 y2 u y : ℕ) (l : InLimits u1 u2 y1 y2) (i : Inside u1 u2 y1 y2 u y) where
  passes : (v : ℕ) → u1 ≤ v → v ≤ u2 → pair.refusal v y ≡ 0
  passes v a b =
      pair_questions.none_refuses v y
      (record {
        least = omega (arith, l.least, i.least_y);
        most = omega (arith, l.most, i.most_y);
        thickest = omega (arith, l.thickest);
        thicker = omega (arith, l.thicker, i.most_y);
      })

  -- an index that is between those of the ends with the same y
  not_outside : (f g : ℕ → ℤ) (least greatest k : ℤ) → IsLeast g y1 y2 least → IsGreatest f y1 y2 greatest → g y ≤ℤ k → k ≤ℤ f y
      → NotOutside least greatest u y k
  not_outside f g least greatest k low high above below =
      record {
        passes = passes u i.least_u i.most_u;
        no_lower = order_joins (low.none_beyond y i.least_y i.most_y) above;
        no_higher = order_joins below (high.none_beyond y i.least_y i.most_y);
      }

  given : (least greatest : ℤ) → IsLeast (index_at u2) y1 y2 least → IsGreatest (index_at u1) y1 y2 greatest → NotOutside least greatest u y (index_at u y)
  given least greatest low high =
      let this = passes u i.least_u i.most_u in
      not_outside (index_at u1) (index_at u2) least greatest (index_at u y) low high
      (in_order.given u u2 y this (passes u2 l.u_order (omega arith)) i.most_u)
      (in_order.given u1 u y (passes u1 (omega arith) l.u_order) this i.least_u)

  module _ (answers : ℕ → ℕ → Answer) (each : (u y : ℕ) → RightAnswer u y (answers u y)) where
    -- of two right answers with one y, which are one where u is
    falls : (v w : ℕ) → v ≤ w → pair.refusal v y ≡ 0 → pair.refusal w y ≡ 0 → (MarkedNear (answers v y) → ⊥) → (MarkedNear (answers w y) → ⊥)
        → index_of (answers w y) ≤ℤ index_of (answers v y)
    falls v w h e f m n =
        by_order v w
        (λ a. in_order.right v w y (answers v y) (answers w y) (each v y) (each w y) e f m n a)
        (λ a. let same : v ≡ w = omega arith in
        subst (λ (x : ℕ). index_of (answers x y) ≤ℤ index_of (answers v y)) same (≤ℤ_refl _))

    right : (least greatest : ℤ) → IsLeast (λ z. index_of (answers u2 z)) y1 y2 least → IsGreatest (λ z. index_of (answers u1 z)) y1 y2 greatest
        → NoneNear answers u1 u2 u y → NotOutside least greatest u y (index_of (answers u y))
    right least greatest low high n =
        let this = passes u i.least_u i.most_u in
        not_outside (λ z. index_of (answers u1 z)) (λ z. index_of (answers u2 z)) least greatest (index_of (answers u y)) low high
        (falls u u2 i.most_u this (passes u2 l.u_order (omega arith)) n.pair n.upper_end)
        (falls u1 u i.least_u (passes u1 (omega arith) l.u_order) this n.lower_end n.pair)

pub no_pair_beyond : NoPairBeyond
no_pair_beyond =
    record {
      right = λ answers each u1 u2 y1 y2 least greatest z low high u y i n. right u1 u2 y1 y2 u y (in_limits u1 u2 y1 y2 z) i answers each least greatest low high n;
      given = λ u1 u2 y1 y2 span a u y i. given u1 u2 y1 y2 u y (in_limits u1 u2 y1 y2 (sym a.number)) i span.least span.greatest a.case.0 a.case.1;
    }
