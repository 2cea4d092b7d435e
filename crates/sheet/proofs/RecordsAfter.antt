-- The records of a sheet after the operation, and their fields.
use Prim.Native.Nat.{ℕ, zero, suc, ◌+◌, ◌*◌, ◌≤◌, ◌<◌}
use mathlib.Core.Path.{◌≡◌, sym, ap, ◌∙◌}
use mathlib.Core.List.{List, ◌++◌}
use native.Mathlib.Omega.{arith}
use borrow.Author.Tests.{eq-eqb}
use lib.ListN.{length, take, drop, length-drop}
use lib.Seq.{drop-append-le, take-append-le, drop-append-add, drop_at, take_all, length-take-le}
use Rattle.laws.proofs.Order.{by_order}
use Rattle.index.proofs.Fits.{fits}
use Rattle.answer_record.specs.Record.{result_size, record_of, record_at}
use Rattle.answer_record.proofs.Records.{length_record}
use Rattle.answer_record.proofs.Fields.{FieldsRead, fields_read}
use Rattle.sheet.specs.Sheet.{count_of, pairs_of, results_of, end_of_results, answer_at, records_of, sheet_refusal, sheet_after}
use Rattle.sheet.proofs.FailsNone.{fails_none}
use Rattle.sheet.proofs.Records.{length_records}

-- a record that ends within the first part of a list is a record of that part
in_front : (xs ys : List ℕ) (at : ℕ) → at + result_size ≤ length xs → record_at (xs ++ ys) at ≡ record_at xs at
in_front xs ys at h =
    ap (take result_size) (drop-append-le at xs ys (omega arith))
    ∙ take-append-le result_size (drop at xs) ys (rw length-drop (omega arith))

-- record i of the first n
record_among : (s : List ℕ) (pairs n i : ℕ) → i < n → record_at (records_of s pairs n) (result_size * i) ≡ record_of (answer_at s pairs i)
unfolding records_of
record_among s pairs zero i h = absurd (omega arith)
record_among s pairs (suc n) i h =
    let size = length_records s pairs n in
    let one = length_record (answer_at s pairs n) in
    by_order i n
    (λ (l : i < n). in_front (records_of s pairs n) (record_of (answer_at s pairs n)) (result_size * i) (omega arith) ∙ record_among s pairs n i l)
    (λ (m : n ≤ i).
    let e : i ≡ n = omega arith in
    ap (take result_size) (drop_at (records_of s pairs n) (record_of (answer_at s pairs n)) (result_size * i) (omega arith))
    ∙ take_all result_size (record_of (answer_at s pairs n)) (omega arith)
    ∙ ap (λ (k : ℕ). record_of (answer_at s pairs k)) (sym e))

-- record i of the sheet after the operation
pub record_found : (s : List ℕ) → sheet_refusal s ≡ 0 → (i : ℕ) → i < count_of s
    → record_at (sheet_after s) (results_of s + result_size * i) ≡ record_of (answer_at s (pairs_of s) i)
unfolding sheet_after
record_found s q i h =
    let ro = results_of s in
    let rs = records_of s (pairs_of s) (count_of s) in
    let rest = drop (end_of_results s) s in
    let size = length_records s (pairs_of s) (count_of s) in
    let fits : end_of_results s ≤ length s = (fails_none s q).blocks.results_end in
    let front : length (take ro s) ≡ ro = length-take-le ro s (omega arith) in
    let past : drop (ro + result_size * i) (take ro s ++ (rs ++ rest)) ≡ drop (result_size * i) (rs ++ rest) =
    rw front at (drop-append-add (take ro s) (rs ++ rest) (result_size * i)) in
    rw (eq-eqb _ _ q)
    (ap (take result_size) past ∙ in_front rs rest (result_size * i) (omega arith) ∙ record_among s (pairs_of s) (count_of s) i h)

pub record_read : (s : List ℕ) → sheet_refusal s ≡ 0 → (i : ℕ) → i < count_of s
    → FieldsRead (sheet_after s) (results_of s + result_size * i) (answer_at s (pairs_of s) i)
record_read s q i h = fields_read _ _ _ (record_found s q i h) (fits _ _)
