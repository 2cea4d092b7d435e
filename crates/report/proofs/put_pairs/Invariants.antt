-- The first line and the lines of the first i pairs are put. The first has at most 11 bytes, and each of the others at most 39.
use Rattle.std.proofs.Common.{◌≡◌, ◌+◌, ◌*◌, ◌≤◌, ◌++◌, length}
use Rattle.text_lines.specs.Lines.{first_line}
use Rattle.report.specs.FromRecords.{lines_at}
use Rattle.report.proofs.put_pairs.Given as goal

abbrev pub invariant-loop-i : goal.invariant-loop-i
invariant-loop-i l = record {
  lines : l.text.bytes ≡ first_line l.blocks.count ++ lines_at l.sheet l.blocks l.i;
  room : length l.text.bytes ≤ 11 + 39 * l.i;
}
