-- What is kept, by what the places answer.
use mathlib.Core.Path.{◌≡◌}
use lib.ListN.{length}
use borrow.Author.Rules.{rules}
use Rattle.summary_tray.specs.SummaryTray.{tray_size}
use Rattle.summary_tray.proofs.Parts.{hold_refused, hold_kept}
use Rattle.summary_tray.proofs.hold.Goals as goal

pub returns-in_err-hold-clause-numbers : goal.returns-in_err-hold-clause-numbers
returns-in_err-hold-clause-numbers g c =
    let held = c.in_err-hold.ensures in
    let size : length c.args.tray.now ≡ tray_size = search rules in
    let places = (rw c.unwrap.ensures at c.first_chunk_mut.ensures.cases).same in
    hold_refused _ _ size c.args.place g.R.From.from_gives _ _ (rw places at held.answer) (rw places at held.numbers)

pub returns-clause-answer : goal.returns-clause-answer
returns-clause-answer g c =
    let places = (rw c.unwrap.ensures at c.first_chunk_mut.ensures.cases).same in
    rw places at c.in_ok-hold.ensures.answer

pub returns-clause-numbers : goal.returns-clause-numbers
returns-clause-numbers g c =
    let held = c.in_ok-hold.ensures in
    let size : length c.args.tray.now ≡ tray_size = search rules in
    let places = (rw c.unwrap.ensures at c.first_chunk_mut.ensures.cases).same in
    hold_kept _ _ size c.args.place g.R.From.from_gives _ _ (rw places at held.answer) (rw places at held.numbers) c.answer.ensures c.keep_with.ensures
