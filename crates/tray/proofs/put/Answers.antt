-- By the size, the pair's answer, and what `hold` answers.
use mathlib.Core.Path.{ap, ◌∙◌}
use Rattle.std.proofs.lemmas.Result.{err_from_is_err_and}
use Rattle.std.specs.Prelude.{Result, Ok, Err}
use Rattle.std.specs.Result.{result_and}
use Rattle.index.specs.declared.answer.Index.{Index}
use Rattle.tray.specs.declared.refusal.Refusal.{Refusal}
use Rattle.tray.proofs.Questions.{put_5, put_by_hold}
use Rattle.tray.proofs.put.Goals as goal

pub returns-in_default : goal.returns-in_default
returns-in_default c =
    let both = put_5 _ _ _ _ c.in_default.ensures.cases in
    record { answer = both.0; numbers = both.1 }

pub returns-in_err-hold : goal.returns-in_err-hold
returns-in_err-hold c =
    let whole = c.in-Some.ensures.cases in
    let pair = c.answer_pair-answer.ensures in
    let held = c.in_err-hold.ensures in
    let told = c.and.ensures ∙ ap (λ (r : Result Index Refusal). result_and r (Ok tt)) c.as_put-answer.ensures in
    let both = put_by_hold _ _ _ _ whole.long _ _ pair.value pair.right c.from-place.ensures (rw (whole.same, told) at held.answer)
    (rw (whole.same, told) at held.numbers) in
    let p = err_from_is_err_and c.from_residual.result c.from_residual.ensures.1 in
    record { answer = p.1 ∙ ap Err p.2 ∙ both.0; numbers = both.1 }

pub returns : goal.returns
returns c =
    let whole = c.in-Some.ensures.cases in
    let pair = c.answer_pair-answer.ensures in
    let held = c.in_ok-hold.ensures in
    let told = c.and.ensures ∙ ap (λ (r : Result Index Refusal). result_and r (Ok tt)) c.as_put-answer.ensures in
    let both = put_by_hold _ _ _ _ whole.long _ _ pair.value pair.right c.from-place.ensures (rw (whole.same, told) at held.answer)
    (rw (whole.same, told) at held.numbers) in
    record { answer = c.as_put-answer.ensures ∙ both.0; numbers = both.1 }
