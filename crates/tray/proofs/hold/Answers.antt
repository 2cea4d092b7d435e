-- By the places that were found.
use mathlib.Core.Path.{◌≡◌, sym, ◌∙◌}
use borrow.Author.Rules.{rules}
use Rattle.tray_places.proofs.Searches.{found_some, found_none, found_held, found_not}
use Rattle.tray.specs.declared.refusal.Refusal.TheVariants.{TrayFull}
use Rattle.tray.proofs.Questions.{hold_31, hold_32, hold_held}
use Rattle.tray.proofs.hold.Goals as goal

pub returns-then-is_some : goal.returns-then-is_some
returns-then-is_some g c =
    let held = rw c.place_of_number.ensures at (sym c.is_some.ensures ∙ c.if-is_some.true) in
    let both = hold_31 _ _ c.args.place g.R.From.from_gives _ c.in_ok-pair.was _ (found_held _ held) c.from.ensures in
    record { answer = both.0; numbers = both.1 }

pub returns-in_err-i : goal.returns-in_err-i
returns-in_err-i g c =
    let new = rw c.place_of_number.ensures at (sym c.is_some.ensures ∙ c.if-is_some.false) in
    let full : c.in_err-i.field-0.0 ≡ TrayFull = search rules in
    let none = found_none _ (sym (rw c.free_place.ensures at c.in_err-i.ensures.ok_part)) in
    let both = hold_32 _ _ c.args.place g.R.From.from_gives _ c.in_ok-pair.was _ (found_not _ new) none (rw full at c.from_residual-in_err-i.ensures.1) in
    record { answer = both.0; numbers = both.1 }

pub returns : goal.returns
returns g c =
    let new = rw c.place_of_number.ensures at (sym c.is_some.ensures ∙ c.if-is_some.false) in
    let free = found_some _ (sym (rw c.free_place.ensures at c.in_ok-i.ensures.ok_part)) in
    let both = hold_held _ _ c.args.place g.R.From.from_gives _ c.in_ok-pair.was (found_not _ new) free c.store_place.ensures in
    record { answer = both.0; numbers = both.1 }
