-- The loop's invariant: the list has its size, and the entries of the rows before this one.
use Rattle.reference.proofs.Entries.{RowsBefore}
use Rattle.reference.proofs.rows_table.Given as goal

abbrev pub invariant-loop-row : goal.invariant-loop-row
invariant-loop-row l = RowsBefore l.row l.entries
