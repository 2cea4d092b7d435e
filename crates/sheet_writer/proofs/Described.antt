-- The sheet that is stored is as the request describes it.
use Prim.Native.Nat.{ℕ, ◌+◌, ◌*◌, ◌-◌, ◌≤◌, ◌<◌}
use mathlib.Core.Path.{◌≡◌, sym, ◌∙◌}
use mathlib.Core.List.{List}
use native.Mathlib.Omega.{arith}
use lib.ListN.{length, get_or}
use lib.Seq.{get_or-append_right}
use Rattle.answer_record.specs.Bytes.{number_at}
use Rattle.sheet.specs.declared.questions.Blocks.{Blocks}
use Rattle.sheet.specs.Sheet.{y_offset, most_pairs, count_of, pairs_of, results_of, total_of, u_at, y_at}
use Rattle.sheet_writer.specs.Questions.{pairs_in, blocks_for, size_for}
use Rattle.sheet_writer.specs.Writing.{pairs_bytes, header_naming, sheet_for}
use Rattle.sheet_writer.specs.RightWriting.{SheetOf}
use Rattle.sheet_writer.specs.OneRightWriting.{Numbers32}
use Rattle.sheet_writer.proofs.Pairs.{length_pairs, length_header, length_sheet}
use Rattle.sheet_writer.proofs.ReadBack.{number_in, number_past, count_read, pairs_read, results_read, total_read, u_among, y_among, bytes_append, header_bytes, pairs_are_bytes, zero_in, zeros_are_bytes}

module _ (row : List ℕ) (even : length row ≡ 2 * pairs_in row) (few : pairs_in row ≤ most_pairs) (fits : Numbers32 row) where
  abbrev n : ℕ
  n = pairs_in row

  abbrev blocks : Blocks
  blocks = blocks_for n

  abbrev header : List ℕ
  header = header_naming blocks (size_for n)

  abbrev pairs_part : List ℕ
  pairs_part = pairs_bytes row n

  count : count_of (sheet_for row) ≡ n
  unfolding sheet_for
  count = count_read blocks _ _ (omega arith)

  pairs : pairs_of (sheet_for row) ≡ 16
  unfolding sheet_for
  pairs = pairs_read blocks _ _ (omega arith)

  results : results_of (sheet_for row) ≡ 16 + 8 * n
  unfolding sheet_for
  results = results_read blocks _ _ (omega arith)

  total : total_of (sheet_for row) ≡ 16 + 24 * n
  unfolding sheet_for
  total = total_read blocks (size_for n) _ (omega arith)

  -- a number of pair i, `of` bytes behind its first
  number : (i of : ℕ) {x : ℕ} → 8 * i + of + 4 ≤ 8 * n → number_at pairs_part (8 * i + of) ≡ x → number_at (sheet_for row) (16 + 8 * i + of) ≡ x
  unfolding sheet_for
  number i of h e =
      number_past header _ (16 + 8 * i + of) (8 * i + of) (omega (arith, length_header blocks (size_for n)))
      ∙ number_in pairs_part _ (8 * i + of) (omega (arith, length_pairs row n))
      ∙ e

  u_found : (i : ℕ) → i < n → u_at (sheet_for row) 16 i ≡ get_or row (2 * i) 0
  u_found i h =
      let at : 16 + 8 * i + 0 ≡ 16 + 8 * i = omega arith in
      rw at at (number i 0 (omega arith) (u_among row fits n i h))

  y_found : (i : ℕ) → i < n → y_at (sheet_for row) 16 i ≡ get_or row (2 * i + 1) 0
  y_found i h = number i y_offset (omega arith) (y_among row fits n i h)

  zeros : (j : ℕ) → 16 + 8 * n ≤ j → get_or (sheet_for row) j 0 ≡ 0
  unfolding sheet_for
  zeros j h =
      let size = length_header blocks (size_for n) in
      get_or-append_right header _ j 0 (omega (arith, size))
      ∙ get_or-append_right pairs_part _ (j - length header) 0 (omega (arith, size, length_pairs row n))
      ∙ zero_in n _

  bytes : (j : ℕ) → get_or (sheet_for row) j 0 < 256
  unfolding sheet_for
  bytes = bytes_append header _ (header_bytes blocks (size_for n)) (bytes_append pairs_part _ (pairs_are_bytes row n) (zeros_are_bytes n))

  pub described : SheetOf row (sheet_for row)
  described = record {
    bytes = bytes;
    size = omega (arith, length_sheet row, count);
    pairs = record {
      count = rw count even;
      u = λ i h. rw pairs (u_found i (rw count at h));
      y = λ i h. rw pairs (y_found i (rw count at h));
    };
    total = total ∙ sym (length_sheet row);
    pairs_at = pairs;
    results_at = omega (arith, results, pairs, count);
    zeros = λ j a b. zeros j (rw results at a);
  }
