-- The invariant: the summary is that of the samples held in the places passed.
use mathlib.Core.Path.{◌≡◌}
use Rattle.std.specs.Prelude.{None}
use Rattle.tray_places.specs.Places.{is_held, sample_at, among}
use Rattle.tray.specs.State.{state_after, summary_in}
use Rattle.tray.proofs.state.walk.Given as goal

abbrev pub invariant-loop-place : goal.invariant-loop-place
invariant-loop-place l = l.t ≡ summary_in (state_after None (among (is_held l.tray) (sample_at l.tray) l.place-index))
