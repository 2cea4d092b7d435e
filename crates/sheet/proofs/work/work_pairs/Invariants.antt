-- The loop's invariant: the sheet is that at entry with the records of the pairs passed stored from the result offset on.
use mathlib.Core.Path.{◌≡◌}
use Rattle.answer_record.specs.Bytes.{stored}
use Rattle.sheet.specs.Sheet.{records_of}
use Rattle.sheet.proofs.work.work_pairs.Given as goal

abbrev pub invariant-loop-i : goal.invariant-loop-i
invariant-loop-i l = l.sheet ≡ stored l.initial.sheet l.blocks.results (records_of l.initial.sheet l.blocks.pairs l.i)
