-- The loop's invariant: at least 100·lo − 50 is shown and at least 100·hi − 50 is not. The measure is hi − lo.
use Prim.Native.Nat.{◌-◌}
use Rattle.shown_index.proofs.Halving.{Bracket}
use Rattle.shown_index.proofs.search.search.Given as goal

abbrev pub invariant-loop-lo : goal.invariant-loop-lo
invariant-loop-lo l = Bracket l.n.lower l.lo l.hi

abbrev pub decreases-loop-lo : goal.decreases-loop-lo
decreases-loop-lo l = l.hi - l.lo
