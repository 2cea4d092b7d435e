-- The answer and what the questions say, case by case.
use Prim.Native.Nat.{ℕ, ◌+◌}
use mathlib.Core.Path.{◌≡◌, refl, sym, ap, ◌∙◌, subst}
use mathlib.Core.Bool.{true, false}
use Rattle.laws.proofs.Contradiction.{impossible}
use Rattle.std.specs.Prelude.{Result, Ok, Err}
use Rattle.gravity_constant.specs.declared.questions.Refusal.{Refusal}
use Rattle.gravity_constant.specs.declared.questions.Refusal.TheVariants.{ViscosityOutside, DensityOutside, DivisorNotAboveZero}
use Rattle.gravity_constant.specs.declared.questions.Temperature.{Temperature}
use Rattle.gravity_constant.specs.declared.questions.Oil.{Oil}
use Rattle.gravity_constant.specs.Questions.{refusal, number_of_refusal, oil_of, asked_of}
use Rattle.gravity_constant.specs.Chosen.{apart, lower_of, constant_at, divides_at, answer_at, answer_of}
use Rattle.gravity_constant.specs.Preconditions.{Passes}
use Rattle.gravity_constant.proofs.QuestionOrder.{by_questions, none_refuses}

-- ---- the answer

pub answer_refused : (t : Temperature) (v d : ℕ) (r : Refusal) → refusal t v d ≡ number_of_refusal r → answer_of t v d ≡ Err r
unfolding answer_of
answer_refused t v d ViscosityOutside e = rw e refl
answer_refused t v d DensityOutside e = rw e refl
answer_refused t v d DivisorNotAboveZero e = rw e refl

pub answer_passed : (t : Temperature) (v d : ℕ) → Passes t v d → answer_of t v d ≡ answer_at t d (lower_of t v)
unfolding answer_of
answer_passed t v d a = rw (none_refuses t v d a) refl

-- ---- question 23

module _ (t : Temperature) (d n : ℕ) where
  pub found : divides_at t n ≡ true → divides_at t (n + apart) ≡ true → answer_at t d n ≡ Ok (constant_at t d n)
  unfolding answer_at
  found a b = rw (a, b) refl

  pub no_divisor_lower : divides_at t n ≡ false → answer_at t d n ≡ Err DivisorNotAboveZero
  unfolding answer_at
  no_divisor_lower a = rw a refl

  pub no_divisor_upper : divides_at t n ≡ true → divides_at t (n + apart) ≡ false → answer_at t d n ≡ Err DivisorNotAboveZero
  unfolding answer_at
  no_divisor_upper a b = rw (a, b) refl

-- ---- what the questions say

pub asked_refused : (t : Temperature) (v d : ℕ) (r : Refusal) → refusal t v d ≡ number_of_refusal r → asked_of t v d ≡ Err r
unfolding asked_of
asked_refused t v d ViscosityOutside e = rw e refl
asked_refused t v d DensityOutside e = rw e refl
asked_refused t v d DivisorNotAboveZero e = rw e refl

pub asked_passed : (t : Temperature) (v d : ℕ) → Passes t v d → asked_of t v d ≡ Ok (oil_of t v d)
unfolding asked_of
asked_passed t v d a = rw (none_refuses t v d a) refl

-- ---- from what the questions say to the answer

pub refused_answer : (t : Temperature) (v d : ℕ) (r : Refusal) → asked_of t v d ≡ Err r → Err r ≡ answer_of t v d
refused_answer t v d r e =
    by_questions t v d
    (λ q f. let g : ◌≡◌ {A = Result Oil Refusal} (Err q) (Err r) = sym (asked_refused t v d q f) ∙ e in
    let h : q ≡ r = cc in
    sym (answer_refused t v d r (f ∙ ap number_of_refusal h)))
    (λ a. let f = asked_passed t v d a in impossible cc)

-- the answer to an oil that the questions let through
pub passed_answer : (t : Temperature) (v d : ℕ) (oil : Oil) → asked_of t v d ≡ Ok oil
    → answer_at oil.viscosity.temperature oil.density (lower_of oil.viscosity.temperature oil.viscosity.thousandths) ≡ answer_of t v d
passed_answer t v d oil e =
    by_questions t v d
    (λ q f. let g = asked_refused t v d q f in impossible cc)
    (λ a. let f : ◌≡◌ {A = Result Oil Refusal} (Ok (oil_of t v d)) (Ok oil) = sym (asked_passed t v d a) ∙ e in
    let g : ◌≡◌ {A = Oil} (oil_of t v d) oil = cc in
    subst (λ (o : Oil). answer_at o.viscosity.temperature o.density (lower_of o.viscosity.temperature o.viscosity.thousandths) ≡ answer_of t v d) g
    (sym (answer_passed t v d a)))
