-- The loop's invariant: the sheet is that at entry with the pairs passed stored, two a turn, and their results unworked.
use Prim.Native.Nat.{◌*◌}
use mathlib.Core.Path.{◌≡◌}
use Rattle.sheet_writer.specs.Writing.{with_pairs}
use Rattle.sheet_writer.proofs.fill.store_pairs.Given as goal

abbrev pub invariant-loop-i : goal.invariant-loop-i
invariant-loop-i l = l.sheet ≡ with_pairs l.initial.sheet l.blocks l.row (2 * l.i)
