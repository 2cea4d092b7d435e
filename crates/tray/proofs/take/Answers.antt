-- By the size, and the place that was found.
use mathlib.Core.Path.{◌≡◌, sym, ap, ◌∙◌}
use native.Mathlib.Omega.{arith}
use borrow.Author.Rules.{rules}
use lib.ListN.{length}
use Rattle.std.specs.Prelude.{Err}
use Rattle.tray_places.specs.Samples.{sample_of}
use Rattle.tray_places.proofs.Searches.{length_places, place_is, found_some, found_none}
use Rattle.tray.specs.declared.refusal.Refusal.TheVariants.{NumberNotHeld}
use Rattle.tray.proofs.Questions.{take_5, take_33, take_out}
use Rattle.tray.proofs.take.Goals as goal

pub returns-in_default : goal.returns-in_default
returns-in_default c =
    let both = take_5 _ _ c.in_default.ensures.cases in
    record { answer = both.0; numbers = both.1 }

pub returns-in_err-i : goal.returns-in_err-i
returns-in_err-i c =
    let whole = c.in-Some.ensures.cases in
    let none = sym c.in_err-i.ensures.ok_part ∙ c.place_of_number.ensures in
    let refused : c.from_residual.result ≡ Err NumberNotHeld = search rules in
    let both = take_33 _ _ whole.long (found_none _ (rw whole.same at none)) in
    record { answer = refused ∙ both.0; numbers = whole.same ∙ both.1 }

pub bounds-places_in-i : goal.bounds-places_in-i
bounds-places_in-i c =
    let at = found_some _ (sym c.in_ok-i.ensures.ok_part ∙ c.place_of_number.ensures) in
    omega (arith, at.1, ap length c.places_in.ensures, length_places c.in-Some.tray.now)

pub free-requires : goal.free-requires
free-requires c =
    let at = found_some _ (sym c.in_ok-i.ensures.ok_part ∙ c.place_of_number.ensures) in
    let whole = c.in-Some.ensures.cases in
    omega (arith, at.1, ap length whole.same, whole.long)

pub returns : goal.returns
returns c =
    let whole = c.in-Some.ensures.cases in
    let at = found_some _ (sym c.in_ok-i.ensures.ok_part ∙ c.place_of_number.ensures) in
    let place = place_is c.in-Some.tray.now c.in_ok-i.i _ at.1 in
    let sample = c.from.ensures ∙ ap sample_of (rw c.places_in.ensures at c.from-place.ensures ∙ place) in
    let both = take_out _ _ whole.long (rw whole.same at at) (rw whole.same at sample) (rw whole.same at c.free.ensures) in
    record { answer = both.0; numbers = both.1 }
