-- A refused call leaves every lent memory; a memory of another size is refused by 5; a summary begins with how many are held.
use Rattle.index.specs.declared.answer.Index.{Index}
use Prim.Native.Nat.{ℕ, ◌<◌}
use mathlib.Core.Path.{◌≡◌, refl, sym, ap, ◌∙◌, subst}
use mathlib.Core.List.{List, [], map}
use native.Mathlib.Omega.{arith}
use borrow.Author.Tests.{eqb-true, eqb-false}
use lib.Dec.{eqb}
use lib.IntN.{ℤ, pos}
use lib.ListN.{length}
use Rattle.std.specs.Prelude.{Option, Some, None, Result, Ok, Err}
use Rattle.laws.proofs.Order.{by_test}
use Rattle.answer_record.specs.Record.{result_size}
use Rattle.index_summary.specs.declared.Summary.{Summary}
use Rattle.index_summary.specs.Summary.{SummaryOf}
use Rattle.tray_places.specs.Samples.{Sample}
use Rattle.tray_places.specs.Places.{held_in}
use Rattle.tray.specs.declared.refusal.Refusal.{Refusal}
use Rattle.tray.specs.Tray.{number_of_refusal}
use Rattle.tray.specs.State.{RightState}
use Rattle.tray.specs.Calls.{Put, Take, refused_by}
use Rattle.tray.proofs.Walk.{state_right}
use Rattle.summary_tray.specs.SummaryTray.{places_in, put_answer, take_answer, state_of}
use Rattle.summary_tray.specs.KeptSummary.{walked}
use Rattle.summary_tray.proofs.Parts.{put_5, take_5}
use Rattle.summary_tray.proofs.Lists.{refused_left, state_5}
use Rattle.tray_calls.specs.TrayCalls.{record_with, put_number, tray_put, record_put, pair_size, pair_with, record_from, take_number, tray_taken, pair_taken, record_taken, row_size, empty_row, row_with, summary_number, summary_after}
use Rattle.tray_calls.specs.RefusedCalls.{RefusedCalls, OtherSizes, first_of, SaysHowMany}
use Rattle.tray_calls.proofs.Calls.{put_other, put_done, take_other_pair, take_other_record, take_done, summary_other, summary_done}

by_equal : {P : Type 0} (a b : ℕ) → (a ≡ b → P) → ((a ≡ b → ⊥) → P) → P
by_equal a b f g = by_test (eqb a b) (λ e. f (eqb-true a b e)) (λ e. g (eqb-false a b e))

-- ---- the memories beside it

record_left : (lent : List ℕ) (a : Result Index Refusal) → 0 < refused_by a → record_with lent a ≡ lent
record_left lent (Err k) p = refl
record_left lent (Ok index) p = absurd (omega arith)

pair_left : (pair : List ℕ) (t : Result Sample Refusal) → 0 < refused_by t → pair_with pair t ≡ pair
pair_left pair (Err k) p = refl
pair_left pair (Ok s) p = absurd (omega arith)

taken_left : (lent : List ℕ) (t : Result Sample Refusal) → 0 < refused_by t → record_from lent t ≡ lent
taken_left lent (Err k) p = refl
taken_left lent (Ok s) p = absurd (omega arith)

row_left : (row : List ℤ) (st : Result (Option Summary) Refusal) → 0 < refused_by st → row_with row st ≡ row
row_left row (Err k) p = refl
row_left row (Ok None) p = absurd (omega arith)
row_left row (Ok (Some t)) p = absurd (omega arith)

-- ---- the state

-- by the samples in the places q
module _ (q : List ℕ) where
  first_held : (row : List ℤ) (st : Result (Option Summary) Refusal) → RightState q st → refused_by st ≡ 0 → first_of (row_with row st) ≡ pos (length (held_in q))
  first_held row (Err k) r z = absurd (omega (arith, z, ap number_of_refusal r.0))
  first_held row (Ok None) r z = sym (ap (λ (xs : List Sample). pos (length xs)) r.1)
  first_held row (Ok (Some t)) r z = ap pos r.2

  none_summarized : (xs : List Sample) (t : Summary) → xs ≡ [] → SummaryOf (map (λ (s : Sample). s.answer) xs) t → ⊥
  none_summarized xs t e s = rw e at s.lowest_held

  row_empty : (row : List ℤ) (st : Result (Option Summary) Refusal) → RightState q st → refused_by st ≡ 0 → held_in q ≡ [] → row_with row st ≡ empty_row
  row_empty row (Err k) r z e = absurd (omega (arith, z, ap number_of_refusal r.0))
  row_empty row (Ok None) r z e = refl
  row_empty row (Ok (Some t)) r z e = absurd (none_summarized (held_in q) t e r.1)

-- what is kept is right where it is the walk's
pub kept_right : (tray : List ℕ) → state_of tray ≡ walked tray → RightState (places_in tray) (state_of tray)
kept_right tray kept = subst (RightState (places_in tray)) (sym kept) (state_right (places_in tray))

module _ (tray lent pair : List ℕ) (row : List ℤ) where
  put_refused : (n u y : ℕ) → 0 < put_number tray lent n u y → (tray_put tray lent n u y ≡ tray) × (record_put tray lent n u y ≡ lent)
  put_refused n u y p =
      by_equal (length lent) result_size
      (λ h.
      let done = put_done tray lent n u y (put_answer tray n u y) h refl refl refl refl in
      let refused : 0 < refused_by (put_answer tray n u y) = omega (arith, done.0) in
      (sym done.1.0 ∙ refused_left tray (Put n u y) refused, sym done.1.1 ∙ record_left lent (put_answer tray n u y) refused))
      (λ h. let other = put_other tray lent n u y h in (sym other.1.0, sym other.1.1))

  take_refused : (n : ℕ) → 0 < take_number tray pair lent n
      → (tray_taken tray pair lent n ≡ tray) × (pair_taken tray pair lent n ≡ pair) × (record_taken tray pair lent n ≡ lent)
  take_refused n p =
      by_equal (length pair) pair_size
      (λ e.
      by_equal (length lent) result_size
      (λ h.
      let done = take_done tray pair lent n (take_answer tray n) e h refl refl refl refl in
      let refused : 0 < refused_by (take_answer tray n) = omega (arith, done.0) in (
        sym done.1.0 ∙ refused_left tray (Take n) refused,
        sym done.1.1.0 ∙ pair_left pair (take_answer tray n) refused,
        sym done.1.1.1 ∙ taken_left lent (take_answer tray n) refused,
      ))
      (λ h. let other = take_other_record tray pair lent n e h in (sym other.1.0, sym other.1.1.0, sym other.1.1.1)))
      (λ h. let other = take_other_pair tray pair lent n h in (sym other.1.0, sym other.1.1.0, sym other.1.1.1))

  summary_refused : 0 < summary_number tray row → summary_after tray row ≡ row
  summary_refused p =
      by_equal (length row) row_size
      (λ h.
      let done = summary_done tray row (state_of tray) h refl refl in
      sym done.1 ∙ row_left row (state_of tray) (omega (arith, done.0)))
      (λ h. sym (summary_other tray row h).1)

  pub refused_calls : RefusedCalls tray lent pair row
  refused_calls = record { put = put_refused; take = take_refused; summary = summary_refused }

  -- ---- sizes

  pub other_sizes : OtherSizes tray lent pair row
  other_sizes = record {
    put_tray = λ h n u y.
        by_equal (length lent) result_size
        (λ e. sym (put_done tray lent n u y (put_answer tray n u y) e refl refl refl refl).0 ∙ ap refused_by (sym (put_5 tray n h u y).0))
        (λ e. sym (put_other tray lent n u y e).0);
    put_record = λ h n u y. sym (put_other tray lent n u y h).0;
    take_tray = λ h n.
        by_equal (length pair) pair_size
        (λ d.
        by_equal (length lent) result_size
        (λ e. sym (take_done tray pair lent n (take_answer tray n) d e refl refl refl refl).0 ∙ ap refused_by (sym (take_5 tray n h).0))
        (λ e. sym (take_other_record tray pair lent n d e).0))
        (λ d. sym (take_other_pair tray pair lent n d).0);
    take_pair = λ h n. sym (take_other_pair tray pair lent n h).0;
    take_record = λ h n.
        by_equal (length pair) pair_size (λ d. sym (take_other_record tray pair lent n d h).0) (λ d. sym (take_other_pair tray pair lent n d).0);
    tray_summary = λ h.
        by_equal (length row) row_size
        (λ e. sym (summary_done tray row (state_of tray) e refl refl).0 ∙ ap refused_by (state_5 tray h))
        (λ e. sym (summary_other tray row e).0);
    row_summary = λ h. sym (summary_other tray row h).0;
  }

  -- ---- how many are held

  answered : summary_number tray row ≡ 0 → (refused_by (state_of tray) ≡ 0) × (summary_after tray row ≡ row_with row (state_of tray))
  answered z =
      by_equal (length row) row_size
      (λ e. let done = summary_done tray row (state_of tray) e refl refl in (done.0 ∙ z, sym done.1))
      (λ e. absurd (omega (arith, (summary_other tray row e).0)))

  pub says_how_many : (kept : state_of tray ≡ walked tray) → SaysHowMany tray row kept
  says_how_many kept = record {
    held = λ z. let is = answered z in ap first_of is.1 ∙ first_held (places_in tray) row (state_of tray) (kept_right tray kept) is.0;
    empty = λ z e. let is = answered z in is.1 ∙ row_empty (places_in tray) row (state_of tray) (kept_right tray kept) is.0 e;
  }
