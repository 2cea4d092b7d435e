-- The lines read from the worked sheet are those of the sheet as it was handed in: its pairs are kept, and each record is its pair's answer.
use Prim.Native.Nat.{ℕ, zero, suc, ◌+◌, ◌*◌, ◌≤◌, ◌<◌}
use mathlib.Core.Path.{◌≡◌, refl, sym, ap, ◌∙◌}
use mathlib.Core.List.{List, ◌++◌}
use native.Mathlib.Omega.{arith}
use borrow.Author.Tests.{le-leb, lt-leb}
use lib.ListN.{length}
use Rattle.std.specs.Prelude.{Result, Ok, Err}
use Rattle.sheet.specs.declared.refusal.Refusal.{Refusal}
use Rattle.sheet.specs.Numbers.{refusal_number}
use Rattle.answer_record.specs.Record.{result_size}
use Rattle.sheet.specs.Sheet.{count_of, pairs_of, results_of, u_at, y_at, answer_at, named_blocks, sheet_refusal, sheet_answer_of, sheet_after, sheet_number_of}
use Rattle.sheet.proofs.FailsNone.{fails_none}
use Rattle.sheet.proofs.Within.{pair_apart}
use Rattle.sheet.proofs.Records.{u_kept, y_kept}
use Rattle.sheet.proofs.Worked.{all_stored, number_of_answer, same_length, header_kept}
use Rattle.sheet.proofs.RecordsAfter.{record_read}
use Rattle.text_lines.specs.Lines.{outcome, printed_line, first_line, refused_line}
use Rattle.text_lines.specs.FromRecord.{outcome_at, line_at}
use Rattle.text_lines.proofs.Outcomes.{outcome_by_fields}
use Rattle.report.specs.Text.{printed_lines, text_by, text_of, most_input, printed, input_after, too_long_refusal}
use Rattle.report.specs.LongestInput.{LongestInput}
use Rattle.report.specs.FromRecords.{lines_at}
use Rattle.report.specs.Preconditions.{Readable}

module _ (s : List ℕ) (q : sheet_refusal s ≡ 0) where
  -- the outcome of a record that is an answer's
  outcome_read : (i : ℕ) → i < count_of s
      → outcome_at (sheet_after s) (results_of s + result_size * i) ≡ outcome (answer_at s (pairs_of s) i)
  outcome_read i h =
      let read = record_read s q i h in
      rw (read.refusal, read.method, read.index) (outcome_by_fields (answer_at s (pairs_of s) i))

  count_kept : count_of (sheet_after s) ≡ count_of s
  count_kept = header_kept s q _ (omega arith)

  blocks_kept : named_blocks (sheet_after s) ≡ named_blocks s
  blocks_kept = rw (count_kept, header_kept s q 4 (omega arith), header_kept s q 8 (omega arith)) refl

  line_read : (i : ℕ) → i < count_of s
      → line_at (sheet_after s) (named_blocks s) i
      ≡ printed_line (u_at s (pairs_of s) i) (y_at s (pairs_of s) i) (outcome (answer_at s (pairs_of s) i))
  line_read i h =
      let n = count_of s in
      let apart = pair_apart (fails_none s q).blocks i h n (omega arith) in
      let u = rw (all_stored s q) at (u_kept s (pairs_of s) (results_of s) i n apart) in
      let y = rw (all_stored s q) at (y_kept s (pairs_of s) (results_of s) i n apart) in
      rw (u, y, outcome_read i h)

  lines_read : (n : ℕ) → n ≤ count_of s → lines_at (sheet_after s) (named_blocks s) n ≡ printed_lines s n
  unfolding lines_at printed_lines
  lines_read zero h = refl
  lines_read (suc n) h = rw (lines_read n (omega arith), line_read n (omega arith))

  -- the worked sheet can be read
  readable : Readable (sheet_after s)
  readable =
      let a = fails_none s q in
      record {
        header = rw (same_length s q) a.header;
        few = rw count_kept a.few;
        blocks = rw (blocks_kept, same_length s q) a.blocks;
      }

  counted : sheet_answer_of s ≡ Ok (count_of s)
  unfolding sheet_answer_of
  counted = rw (fails_none s q).found refl

-- a sheet that is answered by a count fails no question
none_failed : (s : List ℕ) {n : ℕ} → sheet_answer_of s ≡ Ok n → sheet_refusal s ≡ 0
none_failed s e = sym (number_of_answer s) ∙ ap sheet_number_of e

pub readable_by : (s t : List ℕ) (n : ℕ) → t ≡ sheet_after s → sheet_answer_of s ≡ Ok n → Readable t
readable_by s t n w e = rw w (readable s (none_failed s e))

-- what is printed: for input that is too long, for a refused sheet, and for an accepted one from the lines read
module _ (s : List ℕ) where
  pub too_long : most_input < length s → refused_line too_long_refusal ≡ printed s
  unfolding printed
  too_long h = rw (lt-leb _ _ h)

  pub too_long_kept : most_input < length s → s ≡ input_after s
  unfolding input_after
  too_long_kept h = rw (lt-leb _ _ h)

  module _ (h : length s ≤ most_input) where
    by_answer : (a : Result ℕ Refusal) → sheet_answer_of s ≡ a → text_by s a ≡ printed s
    unfolding printed text_of
    by_answer a e = rw (le-leb _ _ h, e)

    pub refused_printed : (refusal : Refusal) → sheet_answer_of s ≡ Err refusal → refused_line (refusal_number refusal) ≡ printed s
    refused_printed refusal e = by_answer (Err refusal) e

    pub accepted_printed : (t : List ℕ) (n : ℕ) → t ≡ sheet_after s → sheet_answer_of s ≡ Ok n
        → first_line (count_of t) ++ lines_at t (named_blocks t) (count_of t) ≡ printed s
    accepted_printed t n w e =
        let q = none_failed s e in
        let lines = lines_read s q (count_of s) (omega arith) in
        rw (w, blocks_kept s q, count_kept s q, lines) (by_answer (Ok (count_of s)) (counted s q))

    pub worked_kept : (t : List ℕ) → t ≡ sheet_after s → t ≡ input_after s
    unfolding input_after
    worked_kept t w = rw (le-leb _ _ h) w

-- what the operation's proof leans on
pub ruleset printing = (too_long, too_long_kept, readable_by, refused_printed, accepted_printed, worked_kept)

pub longest_input : LongestInput
unfolding printed input_after
longest_input = record { longest = λ input e. (rw e refl, rw e refl); one_more = λ input e. (rw e refl, rw e refl) }
