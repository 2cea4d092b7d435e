-- By the sizes, and what `hold` answers behind the pair's number.
use mathlib.Core.Path.{◌∙◌}
use Rattle.tray_calls.proofs.Calls.{put_other, put_no_tray, put_not_held, put_in}
use Rattle.tray_calls.proofs.put_answered.Goals as goal

pub returns-then-record-ne-RESULT_SIZE : goal.returns-then-record-ne-RESULT_SIZE
returns-then-record-ne-RESULT_SIZE c =
    let left = put_other _ _ _ _ _ c.if-record-ne-RESULT_SIZE.true in
    record { number = left.0; numbers = left.1.0; bytes = left.1.1 }

pub returns-in_default : goal.returns-in_default
returns-in_default c =
    let left = put_no_tray _ _ _ _ _ c.requires c.if-record-ne-RESULT_SIZE.false c.in_default.ensures.cases in
    record { number = left.0; numbers = left.1.0; bytes = left.1.1 }

pub returns-in-Err : goal.returns-in-Err
returns-in-Err c =
    let whole = c.in-Some.ensures.cases in
    let held = rw (whole.same, c.in-Err.is) at c.hold.ensures.answer in
    let left = put_not_held _ _ _ _ _ c.requires c.if-record-ne-RESULT_SIZE.false whole.long c.said_by-pair.ensures c.place_from-place.ensures
    (rw whole.same at c.hold.ensures.numbers) _ held in
    record { number = c.from.ensures ∙ left.0; numbers = left.1.0; bytes = left.1.1 }

pub returns-in-Ok : goal.returns-in-Ok
returns-in-Ok c =
    let whole = c.in-Some.ensures.cases in
    let held = rw (whole.same, c.in-Ok.is) at c.hold.ensures.answer in
    let left = put_in _ _ _ _ _ c.requires c.if-record-ne-RESULT_SIZE.false whole.long c.said_by-pair.ensures c.place_from-place.ensures
    (rw whole.same at c.hold.ensures.numbers) held c.copy_from_slice.ensures.after in
    record { number = left.0; numbers = left.1.0; bytes = left.1.1 }
