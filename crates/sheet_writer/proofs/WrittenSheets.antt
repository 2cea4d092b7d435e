-- What holds of written sheets: a row has one sheet and a sheet is of one row; it fails no question; working it keeps its header and its pairs.
use Prim.Native.Nat.{ℕ, ◌+◌, ◌*◌, ◌≤◌, ◌<◌}
use mathlib.Core.Path.{◌≡◌, refl, sym, ap, ◌∙◌}
use mathlib.Core.Bool.{true}
use mathlib.Core.List.{List}
use mathlib.Core.Logic.{◌⊎◌, inl}
use native.Mathlib.Omega.{arith}
use borrow.Author.Tests.{le-leb}
use lib.ListN.{length}
use Rattle.sheet.specs.Sheet.{header_size, pair_size, most_pairs, count_offset, pairs_offset, count_of, pairs_of, results_of, total_of, end_of_pairs, end_of_results, stands_within, share_no_byte, sheet_number_of, sheet_refusal, sheet_after, u_at, y_at}
use Rattle.sheet.proofs.QuestionOrder.{pairs_within, results_within, blocks_apart, all_yes}
use Rattle.sheet.proofs.Records.{u_kept, y_kept}
use Rattle.sheet.proofs.Worked.{all_stored, same_length, header_kept, outside_kept}
use Rattle.sheet_writer.specs.RightWriting.{ReadsBack, SheetOf}
use Rattle.sheet_writer.specs.WrittenSheets.{Written, WrittenSheets}
use Rattle.sheet_writer.proofs.OneSheet.{one_row, one_sheet}
use Rattle.sheet_writer.proofs.Right.{taken}

module _ {row before sheet : List ℕ} (w : Written row before sheet) where
  is : SheetOf row sheet
  is = w.written refl

  few : count_of sheet ≤ most_pairs
  few = omega (arith, is.pairs.count, (taken row (length before) (sym w.number_is)).0.few)

  pairs_stand : pairs_within sheet ≡ true
  unfolding stands_within
  pairs_stand = simp (le-leb header_size (pairs_of sheet) (omega (arith, is.pairs_at)), le-leb (end_of_pairs sheet) (total_of sheet) (omega (arith, is.pairs_at, is.total, is.size)))

  results_stand : results_within sheet ≡ true
  unfolding stands_within
  results_stand =
      simp (
        le-leb header_size (results_of sheet) (omega (arith, is.pairs_at, is.results_at)),
        le-leb (end_of_results sheet) (total_of sheet) (omega (arith, is.pairs_at, is.results_at, is.total, is.size)),
      )

  apart : blocks_apart sheet ≡ true
  unfolding share_no_byte
  apart = simp (le-leb (end_of_pairs sheet) (results_of sheet) (omega (arith, is.results_at)))

  accepted : sheet_refusal sheet ≡ 0
  unfolding sheet_refusal
  accepted = ap sheet_number_of (sym (all_yes sheet (omega (arith, is.size)) is.total few pairs_stand results_stand apart))

  -- the pairs stay: they end where the result block begins
  worked : ReadsBack row (sheet_after sheet)
  worked =
      let count : count_of (sheet_after sheet) ≡ count_of sheet = header_kept sheet accepted count_offset (omega arith) in
      let pairs : pairs_of (sheet_after sheet) ≡ pairs_of sheet = header_kept sheet accepted pairs_offset (omega arith) in
      let apart : (i : ℕ) → i < count_of sheet → (pairs_of sheet + pair_size * i + pair_size ≤ results_of sheet) ⊎ (end_of_results sheet ≤ pairs_of sheet + pair_size * i) =
      λ i h. inl (omega (arith, is.results_at)) in
      let u : (i : ℕ) → i < count_of sheet → u_at (sheet_after sheet) (pairs_of sheet) i ≡ u_at sheet (pairs_of sheet) i =
      λ i h. rw (← all_stored sheet accepted) (u_kept sheet (pairs_of sheet) (results_of sheet) i (count_of sheet) (apart i h)) in
      let y : (i : ℕ) → i < count_of sheet → y_at (sheet_after sheet) (pairs_of sheet) i ≡ y_at sheet (pairs_of sheet) i =
      λ i h. rw (← all_stored sheet accepted) (y_kept sheet (pairs_of sheet) (results_of sheet) i (count_of sheet) (apart i h)) in
      record {
        count = rw count is.pairs.count;
        u = λ i h. rw pairs (u i (rw count at h) ∙ is.pairs.u i (rw count at h));
        y = λ i h. rw pairs (y i (rw count at h) ∙ is.pairs.y i (rw count at h));
      }

equal_lists : {row row' before before' sheet sheet' : List ℕ} → Written row before sheet → Written row' before' sheet' → row ≡ row' → sheet ≡ sheet'
equal_lists {row' = row'} {sheet = sheet} {sheet' = sheet'} v w e = one_sheet row' sheet sheet' (rw e at (v.written refl)) (w.written refl)

equal_sheets : {row row' before before' sheet sheet' : List ℕ} → Written row before sheet → Written row' before' sheet' → sheet ≡ sheet' → row ≡ row'
equal_sheets {row = row} {row' = row'} {sheet' = sheet'} v w e = one_row row row' sheet' (rw e at (v.written refl).pairs) (w.written refl).pairs

pub written_sheets : WrittenSheets
written_sheets = record {
  equal_lists = equal_lists;
  equal_sheets = equal_sheets;
  accepted = accepted;
  reads_back = λ w. (w.written refl).pairs;
  same_size = λ {row = row} {sheet = sheet} w. same_length sheet (accepted w);
  outside = λ {sheet = sheet} w. outside_kept sheet (accepted w);
  worked = worked;
}
