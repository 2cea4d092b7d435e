-- The written sheet from its runs of stores.
use Prim.Native.Nat.{ℕ, ◌+◌}
use mathlib.Core.Path.{◌≡◌, refl, sym, ◌∙◌}
use mathlib.Core.List.{List}
use native.Mathlib.Omega.{arith}
use lib.ListN.{length}
use Rattle.answer_record.specs.Bytes.{stored}
use Rattle.answer_record.proofs.Stores.{stored_then, stored_whole}
use Rattle.sheet.specs.declared.questions.Blocks.{Blocks}
use Rattle.sheet_writer.specs.Questions.{pairs_in, blocks_for, size_for}
use Rattle.sheet_writer.specs.Writing.{pairs_bytes, with_pairs, header_naming, sheet_for}
use Rattle.sheet_writer.specs.Preconditions.{SheetFits}
use Rattle.sheet_writer.proofs.Pairs.{length_pairs, length_header, length_sheet}

pub filled : (row s : List ℕ) {s1 s2 : List ℕ} {blocks : Blocks} → SheetFits row blocks (length s)
    → s1 ≡ stored s 0 (header_naming blocks (length s))
    → s2 ≡ with_pairs s1 blocks row blocks.count → s2 ≡ sheet_for row
unfolding sheet_for
filled row s {s1 = s1} {s2 = s2} f a b =
    let n = pairs_in row in
    let e = f.blocks_are in
    let header : s1 ≡ stored s 0 (header_naming (blocks_for n) (size_for n)) = rw (e, f.size_is) at a in
    let rest : s2 ≡ with_pairs s1 (blocks_for n) row n = rw e at b in
    let pairs_behind : (blocks_for n).pairs ≡ 0 + length (header_naming (blocks_for n) (size_for n)) = omega (arith, length_header (blocks_for n) (size_for n)) in
    let results_behind : (blocks_for n).results ≡ (blocks_for n).pairs + length (pairs_bytes row n) = omega (arith, length_pairs row n) in
    stored_then s (header_naming (blocks_for n) (size_for n)) _ 0 header pairs_behind
    (stored_then s1 (pairs_bytes row n) _ (blocks_for n).pairs refl results_behind rest)
    ∙ stored_whole s (sheet_for row) (length_sheet row ∙ sym f.size_is)
