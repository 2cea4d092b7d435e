-- By the size, and what the places answer.
use Prim.Native.Nat.{ℕ}
use mathlib.Core.Path.{ap, ◌∙◌}
use mathlib.Core.List.{List}
use lib.ListN.{length}
use Rattle.std.proofs.lemmas.Result.{err_from_is_err_and}
use Rattle.std.specs.Prelude.{Err}
use Rattle.summary_tray.specs.SummaryTray.{tray_after_take}
use Rattle.summary_tray.proofs.Parts.{take_5, take_refused, take_kept}
use Rattle.summary_tray.proofs.take.Goals as goal

pub returns-in_default : goal.returns-in_default
returns-in_default c =
    let both = take_5 _ _ c.in_default.ensures.cases in
    record { answer = both.0; numbers = both.1 }

pub returns-in_err-sample : goal.returns-in_err-sample
returns-in_err-sample c =
    let whole = c.in-Some.ensures.cases in
    let took = c.in_err-sample.ensures in
    let places = (rw c.unwrap.ensures at c.first_chunk_mut.ensures.cases).same in
    let both = take_refused _ _ (ap length whole.same ∙ whole.long) (rw places at took.numbers) (rw places at took.answer) in
    let p = err_from_is_err_and c.from_residual.result c.from_residual.ensures.1 in
    record {
      answer = p.1 ∙ ap Err p.2 ∙ (rw whole.same at both.0);
      numbers = both.1 ∙ ap (λ (l : List ℕ). tray_after_take l c.args.number) whole.same;
    }

pub returns : goal.returns
returns c =
    let whole = c.in-Some.ensures.cases in
    let took = c.in_ok-sample.ensures in
    let places = (rw c.unwrap.ensures at c.first_chunk_mut.ensures.cases).same in
    let both = take_kept _ _ (ap length whole.same ∙ whole.long) (rw places at took.numbers) (rw places at took.answer) c.keep_without.ensures in
    record { answer = rw whole.same at both.0; numbers = rw whole.same at both.1 }
