-- Every answer is right: the one proof that #101's words hold of what the program chooses.
use Prim.Native.Nat.{ℕ, ◌+◌, ◌*◌}
use mathlib.Core.Path.{◌≡◌, sym, ◌∙◌, subst}
use mathlib.Core.Bool.{true}
use mathlib.Core.Logic.{inl}
use native.Mathlib.Omega.{arith}
use borrow.Author.Tests.{lt-ltb}
use Rattle.std.specs.Prelude.{Ok}
use Rattle.gravity_constant.specs.declared.questions.Temperature.{Temperature}
use Rattle.gravity_constant.specs.Formula.{divisor_slope}
use Rattle.gravity_constant.specs.Answer.{RightFound, RightConstant}
use Rattle.gravity_constant.specs.Chosen.{apart, no_divisor_from, lower_of, constant_at, divides_at, answer_of}
use Rattle.gravity_constant.specs.Preconditions.{Passes}
use Rattle.gravity_constant.proofs.QuestionOrder.{by_questions, none_refuses, some_number}
use Rattle.gravity_constant.proofs.Cases as cases
use Rattle.gravity_constant.proofs.Enclosure.{encloses, lower_few}
use Rattle.gravity_constant.proofs.Fits.{InFormula, in_formula, fits_lower, fits_upper}

-- question 23 does not refuse: the divisor is above zero at both fractions
divides : (t : Temperature) (d n : ℕ) → InFormula t d n → divides_at t n ≡ true
divides t d n o = lt-ltb (divisor_slope t * n) (no_divisor_from t) (omega (arith, o.divisor_above))

module _ (t : Temperature) (v d : ℕ) (a : Passes t v d) where
  at_lower : InFormula t d (lower_of t v)
  at_lower = in_formula t d (lower_of t v) a.lightest a.heaviest (omega (arith, lower_few t v a.least a.most))

  at_upper : InFormula t d (lower_of t v + apart)
  at_upper = in_formula t d (lower_of t v + apart) a.lightest a.heaviest (lower_few t v a.least a.most)

  found : answer_of t v d ≡ Ok (constant_at t d (lower_of t v))
  found = cases.answer_passed t v d a ∙ cases.found t d (lower_of t v) (divides t d _ at_lower) (divides t d _ at_upper)

  found_right : RightFound t v d (constant_at t d (lower_of t v))
  unfolding constant_at
  found_right =
      record {
        passes = none_refuses t v d a;
        encloses = encloses t v a.least a.most;
        at_lower = fits_lower t d (lower_of t v) at_lower;
        at_upper = fits_upper t d (lower_of t v) at_lower at_upper;
      }

pub right : (t : Temperature) (v d : ℕ) → RightConstant t v d (answer_of t v d)
right t v d =
    by_questions t v d
    (λ r e. subst (RightConstant t v d) (sym (cases.answer_refused t v d r e)) (inl (some_number r, sym e)))
    (λ a. subst (RightConstant t v d) (sym (found t v d a)) (found_right t v d a))
