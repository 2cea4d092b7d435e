-- The answer and what the questions say, case by case.
use Prim.Native.Nat.{ℕ}
use mathlib.Core.Path.{◌≡◌, refl, sym, ap, ◌∙◌, subst}
use borrow.Author.Tests.{ne_eqb}
use native.Mathlib.Omega.{arith}
use Rattle.std.specs.Prelude.{Result, Ok, Err}
use Rattle.laws.proofs.Contradiction.{impossible}
use Rattle.span.specs.declared.questions.Refusal.{Refusal}
use Rattle.span.specs.declared.questions.Limits.{Limits}
use Rattle.span.specs.Questions.{refusal, number_of_refusal, asked_of}
use Rattle.span.specs.Span.{span_passed, span_of}
use Rattle.span.specs.Preconditions.{InLimits}
use Rattle.span.proofs.QuestionOrder.{by_questions, none_refuses, some_number, of_number}

module _ (u1 u2 y1 y2 : ℕ) where
  pub span_refused : (r : Refusal) → refusal u1 u2 y1 y2 ≡ number_of_refusal r → span_of u1 u2 y1 y2 ≡ Err r
  unfolding span_of
  span_refused r e = rw (e, ne_eqb (number_of_refusal r) 0 (λ z. omega (arith, some_number r))) (ap Err (of_number r))

  pub span_answered : InLimits u1 u2 y1 y2 → span_of u1 u2 y1 y2 ≡ Ok (span_passed u1 u2 y1 y2)
  unfolding span_of
  span_answered l = rw (none_refuses u1 u2 y1 y2 l) refl

  pub asked_refused : (r : Refusal) → refusal u1 u2 y1 y2 ≡ number_of_refusal r → asked_of u1 u2 y1 y2 ≡ Err r
  unfolding asked_of
  asked_refused r e = rw (e, ne_eqb (number_of_refusal r) 0 (λ z. omega (arith, some_number r))) (ap Err (of_number r))

  pub asked_passed : InLimits u1 u2 y1 y2 → asked_of u1 u2 y1 y2 ≡ Ok (record { u1 = u1; u2 = u2; y1 = y1; y2 = y2 })
  unfolding asked_of
  asked_passed l = rw (none_refuses u1 u2 y1 y2 l) refl

  -- ---- from what the questions say to the answer

  pub refused_answer : (r : Refusal) → asked_of u1 u2 y1 y2 ≡ Err r → Err r ≡ span_of u1 u2 y1 y2
  refused_answer r e =
      by_questions u1 u2 y1 y2
      (λ q f. let g : ◌≡◌ {A = Result Limits Refusal} (Err q) (Err r) = sym (asked_refused q f) ∙ e in
      let h : q ≡ r = cc in
      sym (span_refused r (f ∙ ap number_of_refusal h)))
      (λ l. let f = asked_passed l in impossible cc)

  -- limits that the questions let through are those that were asked about
  pub record Same (limits : Limits) : Type 0 where
    pub within : InLimits limits.u1 limits.u2 limits.y1 limits.y2
    pub answer : Ok (span_passed limits.u1 limits.u2 limits.y1 limits.y2) ≡ span_of u1 u2 y1 y2

  pub passed_limits : (limits : Limits) → asked_of u1 u2 y1 y2 ≡ Ok limits → Same limits
  passed_limits limits e =
      by_questions u1 u2 y1 y2
      (λ r f. let g = asked_refused r f in impossible cc)
      (λ l. let f : ◌≡◌ {A = Result Limits Refusal} (Ok (record { u1 = u1; u2 = u2; y1 = y1; y2 = y2 })) (Ok limits) = sym (asked_passed l) ∙ e in
      let g : ◌≡◌ {A = Limits} (record { u1 = u1; u2 = u2; y1 = y1; y2 = y2 }) limits = cc in
      subst Same g (record { within = l; answer = sym (span_answered l) }))
