-- By the size, and what the places answer.
use Prim.Native.Nat.{ℕ}
use mathlib.Core.Path.{ap, ◌∙◌}
use mathlib.Core.List.{List}
use lib.ListN.{length}
use Rattle.std.proofs.lemmas.Result.{err_from_is_err_and}
use Rattle.std.specs.Prelude.{Err}
use Rattle.summary_tray.specs.SummaryTray.{tray_after_put}
use Rattle.summary_tray.proofs.Parts.{put_5, put_refused, put_kept}
use Rattle.summary_tray.proofs.put.Goals as goal

pub returns-in_default : goal.returns-in_default
returns-in_default c =
    let both = put_5 _ _ c.in_default.ensures.cases _ _ in
    record { answer = both.0; numbers = both.1 }

pub returns-in_err-index : goal.returns-in_err-index
returns-in_err-index c =
    let whole = c.in-Some.ensures.cases in
    let put = c.in_err-index.ensures in
    let places = (rw c.unwrap.ensures at c.first_chunk_mut.ensures.cases).same in
    let both = put_refused _ _ (ap length whole.same ∙ whole.long) _ _ (rw places at put.numbers) (rw places at put.answer) in
    let p = err_from_is_err_and c.from_residual.result c.from_residual.ensures.1 in
    record {
      answer = p.1 ∙ ap Err p.2 ∙ (rw whole.same at both.0);
      numbers = both.1 ∙ ap (λ (l : List ℕ). tray_after_put l c.args.number c.args.u c.args.y) whole.same;
    }

pub returns : goal.returns
returns c =
    let whole = c.in-Some.ensures.cases in
    let put = c.in_ok-index.ensures in
    let places = (rw c.unwrap.ensures at c.first_chunk_mut.ensures.cases).same in
    let both = put_kept _ _ (ap length whole.same ∙ whole.long) _ _ (rw places at put.numbers) (rw places at put.answer) c.keep_with.ensures in
    record { answer = rw whole.same at both.0; numbers = rw whole.same at both.1 }
