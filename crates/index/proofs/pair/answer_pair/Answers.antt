-- The index of the pair that passes the questions is the definition's answer, which is right.
use mathlib.Core.Path.{sym, ◌∙◌, ap, subst}
use Rattle.std.specs.Prelude.{Ok}
use Rattle.index.specs.Answer.{RightAnswer}
use Rattle.index.proofs.Right.{right}
use Rattle.index.proofs.Cases.{passed_pair}
use Rattle.index.proofs.pair.answer_pair.Goals as goal

pub returns-clause-right : goal.returns-clause-right
returns-clause-right c =
    let passed = passed_pair c.args.u c.args.y _ (sym c.in_ok-ask.ensures) in
    subst (RightAnswer c.args.u c.args.y) (sym (ap Ok c.index_passed.ensures ∙ passed.answer)) (right c.args.u c.args.y)
