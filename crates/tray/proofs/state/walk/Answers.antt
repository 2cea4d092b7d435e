-- Each place adds its sample, if it holds one: the sum of so few fits.
use Prim.Native.Nat.{◌≤◌, ◌<◌}
use mathlib.Core.Path.{◌≡◌, ap, ◌∙◌}
use native.Mathlib.Omega.{arith}
use lib.ListN.{length}
use Rattle.tray_places.specs.Places.{places, held_in}
use Rattle.tray_places.proofs.Searches.{length_places}
use Rattle.tray.specs.State.{summary_in}
use Rattle.tray.proofs.Walk.{walk_zero, walk_place, walk_fits, index_small}
use Rattle.tray.proofs.state.walk.Goals as goal

pub loop-place-init : goal.loop-place-init
loop-place-init c = c.default-t.ensures ∙ ap summary_in (walk_zero _ _)

pub with_place-t-requires : goal.with_place-t-requires
with_place-t-requires c =
    let tray = c.args.tray.now in
    let within : c.loop-place.place-index ≤ places = omega (arith, ap length c.places_in-place-items.ensures, length_places tray) in
    rw c.loop-place.invariant (walk_fits tray (index_small tray c.fits-tray) c.loop-place.place-index places within)

pub loop-place-preserved : goal.loop-place-preserved
loop-place-preserved c =
    let tray = c.args.tray.now in
    let within : c.loop-place.place-index < places = omega (arith, ap length c.places_in-place-items.ensures, length_places tray) in
    walk_place tray (index_small tray c.fits-tray) c.loop-place.place-index _ within c.loop-place.invariant
    (rw c.places_in-place-items.ensures at c.with_place-t.ensures)

pub returns : goal.returns
unfolding held_in
returns c =
    let all : c.loop-place.place-index ≡ places = omega (arith, ap length c.places_in-place-items.ensures, length_places c.args.tray.now) in
    rw all at c.loop-place.invariant
