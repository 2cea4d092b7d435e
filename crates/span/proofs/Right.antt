-- Any four numbers have just one right answer: that of the definition.
use Prim.Native.Nat.{ℕ}
use mathlib.Core.Path.{◌≡◌, sym, ap, ap₂, ◌∙◌, subst}
use native.Mathlib.Omega.{arith}
use lib.IntN.{ℤ}
use Rattle.std.specs.Prelude.{Result, Ok, Err}
use Rattle.span.specs.declared.Span.{Span}
use Rattle.span.specs.declared.extreme.Extreme.TheVariants.{Least, Greatest}
use Rattle.span.specs.declared.questions.Refusal.{Refusal}
use Rattle.span.specs.Span.{index_at, RightSpan, span_passed, span_of, OneRightSpan}
use Rattle.span.proofs.QuestionOrder.{by_questions, none_refuses, some_number}
use Rattle.span.proofs.Extremes.{extremes}
use Rattle.span.proofs.Cases.{span_refused, span_answered}

abbrev pub span_from : ℤ → ℤ → Span
span_from least greatest = record { least = least; greatest = greatest }

module _ (u1 u2 y1 y2 : ℕ) where
  pub right : RightSpan u1 u2 y1 y2 (span_of u1 u2 y1 y2)
  right =
      by_questions u1 u2 y1 y2
      (λ r e. subst (RightSpan u1 u2 y1 y2) (sym (span_refused u1 u2 y1 y2 r e)) (record { number = sym e; case = some_number r }))
      (λ l. subst (RightSpan u1 u2 y1 y2) (sym (span_answered u1 u2 y1 y2 l))
      (record {
        number = sym (none_refuses u1 u2 y1 y2 l);
        case = (extremes.is Least (index_at u2) y1 y2 l.y_order, extremes.is Greatest (index_at u1) y1 y2 l.y_order);
      }))

  as_passed : (span : Span) → RightSpan u1 u2 y1 y2 (Ok span) → span ≡ span_passed u1 u2 y1 y2
  as_passed span a =
      ap₂ span_from
      (extremes.only Least (index_at u2) y1 y2 span.least a.case.0)
      (extremes.only Greatest (index_at u1) y1 y2 span.greatest a.case.1)

  only : (answer : Result Span Refusal) → RightSpan u1 u2 y1 y2 answer → answer ≡ span_of u1 u2 y1 y2
  only (Err r) a = sym (span_refused u1 u2 y1 y2 r (sym a.number))
  only (Ok span) a =
      by_questions u1 u2 y1 y2
      (λ r e. absurd (omega (arith, a.number, some_number r)))
      (λ l. ap Ok (as_passed span a) ∙ sym (span_answered u1 u2 y1 y2 l))

pub one_right_span : OneRightSpan
one_right_span = record { is = right; only = only }
