-- The span of the limits that pass the questions is the definition's answer, which is right.
use mathlib.Core.Path.{sym, ◌∙◌, ap, subst}
use Rattle.std.specs.Prelude.{Ok}
use Rattle.span.specs.Span.{RightSpan}
use Rattle.span.proofs.Cases.{passed_limits}
use Rattle.span.proofs.Right.{right}
use Rattle.span.proofs.answer_span.Goals as goal

pub span_passed-requires : goal.span_passed-requires
span_passed-requires c = (passed_limits c.args.u1 c.args.u2 c.args.y1 c.args.y2 _ (sym c.in_ok-ask.ensures)).within

pub returns-clause-value : goal.returns-clause-value
returns-clause-value c = ap Ok c.span_passed.ensures ∙ (passed_limits c.args.u1 c.args.u2 c.args.y1 c.args.y2 _ (sym c.in_ok-ask.ensures)).answer

pub returns-clause-right : goal.returns-clause-right
returns-clause-right c =
    let a = c.args in
    subst (RightSpan a.u1 a.u2 a.y1 a.y2) (sym (ap Ok c.span_passed.ensures ∙ (passed_limits a.u1 a.u2 a.y1 a.y2 _ (sym c.in_ok-ask.ensures)).answer))
    (right a.u1 a.u2 a.y1 a.y2)
