-- Refused by questions 21 and 22, or the answer to the oil that passes them; every answer of the definition is right.
use Prim.Native.Nat.{ℕ}
use mathlib.Core.Path.{◌≡◌, sym, ap₂, ◌∙◌, subst}
use Rattle.std.specs.Prelude.{Result, Err}
use Rattle.std.proofs.lemmas.Result.{err_from_is_err_and}
use Rattle.gravity_constant.specs.declared.questions.Refusal.{Refusal}
use Rattle.gravity_constant.specs.declared.questions.Temperature.{Temperature}
use Rattle.gravity_constant.specs.declared.answer.Constant.{Constant}
use Rattle.gravity_constant.specs.Answer.{RightConstant}
use Rattle.gravity_constant.specs.Chosen.{answer_at, answer_of}
use Rattle.gravity_constant.proofs.Right.{right}
use Rattle.gravity_constant.proofs.Cases.{refused_answer, passed_answer}
use Rattle.gravity_constant.proofs.answer.answer_constant.Goals as goal

-- the answer of the definition is right
right_as : (t : Temperature) (v d : ℕ) (r : Result Constant Refusal) → r ≡ answer_of t v d → RightConstant t v d r
right_as t v d r e = subst (RightConstant t v d) (sym e) (right t v d)

pub returns-in_err-oil : goal.returns-in_err-oil
returns-in_err-oil c =
    let a = c.args in
    let p = err_from_is_err_and c.from_residual.result c.from_residual.ensures.1 in
    let refused : Err c.in_err-oil.field-0.0 ≡ answer_of a.t a.v a.d = refused_answer a.t a.v a.d _ (sym c.ask.ensures ∙ c.in_err-oil.was) in
    let e : c.from_residual.result ≡ answer_of a.t a.v a.d = rw (p.1, p.2) refused in
    record { value = e; right = right_as a.t a.v a.d _ e }

pub returns : goal.returns
returns c =
    let a = c.args in
    let e : c.answer_at.result ≡ answer_of a.t a.v a.d =
    c.answer_at.ensures ∙ ap₂ (λ (t : Temperature) (n : ℕ). answer_at t c.in_ok-oil.oil.density n) c.new.ensures.0 c.new.ensures.1
    ∙ passed_answer a.t a.v a.d _ (sym c.ask.ensures ∙ c.in_ok-oil.was) in
    record { value = e; right = right_as a.t a.v a.d _ e }
