-- The walk's invariant (proofs/Walk.antt). The measure counts twice what is left to look at, and the width, which is never more than doubled.
use Prim.Native.Nat.{◌+◌, ◌*◌, ◌-◌}
use Rattle.span.proofs.Walk.{Walked}
use Rattle.span.proofs.extreme.Extreme.in_one_part.Given as goal

abbrev pub invariant-loop-next : goal.invariant-loop-next
invariant-loop-next l = Walked l.self l.u l.from l.to l.last l.next l.width l.found

abbrev pub decreases-loop-next : goal.decreases-loop-next
decreases-loop-next l = 2 * (l.last + 1 - l.next) + l.width
