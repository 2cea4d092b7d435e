-- What the calls answer and leave, by the sizes of what is lent and by what the tray answers.
use Rattle.reference.specs.declared.refusal.Refusal as of_pair
use Rattle.reference.specs.Refusal as pair
use Rattle.tray.specs.declared.refusal.Refusal.TheVariants.{NotATray, Pair}
use Prim.Native.Nat.{ℕ}
use mathlib.Core.Path.{◌≡◌, refl, sym, ap, ◌∙◌, subst}
use mathlib.Core.Bool.{Bool, false, cond}
use mathlib.Core.List.{List}
use native.Mathlib.Omega.{arith}
use borrow.Author.Tests.{eq-eqb, ne_eqb}
use lib.Dec.{eqb}
use lib.IntN.{ℤ}
use lib.ListN.{length, get_or}
use Rattle.std.specs.Prelude.{Option, Result, Ok, Err}
use mir.Syntax.{w32}
use mir.Val.{SFits}
use Rattle.index.specs.declared.answer.Index.{Index}
use Rattle.index.specs.Answer.{Answer, number_of, method_of, index_of, lower_of, upper_of, RightAnswer}
use Rattle.index.specs.ChosenAnswer.{answer_of}
use Rattle.index.proofs.Fits.{fits}
use Rattle.index.proofs.Right.{right}
use Rattle.answer_record.specs.Bytes.{number_at, twos_complement}
use Rattle.answer_record.specs.Record.{result_size, method_offset, index_offset, lower_offset, upper_offset, record_of}
use Rattle.answer_record.proofs.Fields.{laid_refusal, laid_method, laid_index, laid_lower, laid_upper}
use Rattle.answer_record.proofs.Signed.{twos_complement_fits}
use Rattle.index_summary.specs.declared.Summary.{Summary}
use Rattle.tray_places.specs.declared.samples.Place.{Place}
use Rattle.tray_places.specs.Samples.{Sample, place_of}
use Rattle.tray.specs.declared.refusal.Refusal.{Refusal}
use Rattle.tray.specs.Tray.{sample_with, Told, told_by_number, said_by}
use Rattle.tray.specs.Calls.{refused_by}
use Rattle.summary_tray.specs.SummaryTray.{tray_size, hold_answer, HoldAnswer, tray_holding, tray_holding_unless, put_answer, tray_after_put, take_answer, tray_after_take, state_of}
use Rattle.summary_tray.proofs.Parts.{put_5, place_pair, place_refused, place_held}
use Rattle.tray_calls.specs.TrayCalls.{not_its_size, record_with, place_from, put_number, tray_put, record_put, pair_size, pair_with, record_from, take_number, tray_taken, pair_taken, record_taken, row_size, row_with, summary_number, summary_after}

-- ---- putting in

module _ (tray lent : List ℕ) (n u y : ℕ) where
  abbrev pub PutLeaves : ℕ → List ℕ → List ℕ → Type 0
  PutLeaves number after recorded =
      (number ≡ put_number tray lent n u y) × ((after ≡ tray_put tray lent n u y) × (recorded ≡ record_put tray lent n u y))

  pub put_other : (length lent ≡ result_size → ⊥) → PutLeaves not_its_size tray lent
  unfolding put_number tray_put record_put
  put_other h = (simp (ne_eqb _ _ h), (simp (ne_eqb _ _ h), simp (ne_eqb _ _ h)))

  pub put_done : (a : Result Index Refusal) {number : ℕ} {after recorded : List ℕ} → length lent ≡ result_size → a ≡ put_answer tray n u y
      → after ≡ tray_after_put tray n u y → number ≡ refused_by a → recorded ≡ record_with lent a → PutLeaves number after recorded
  unfolding put_number tray_put record_put
  put_done a h e f m g =
      (simp (eq-eqb _ _ h) (m ∙ ap refused_by e), (simp (eq-eqb _ _ h) f, simp (eq-eqb _ _ h) (g ∙ ap (record_with lent) e)))

-- of a pair whose answer stands in a record
module _ (tray lent : List ℕ) (n u y : ℕ) {filled : List ℕ} (Filled-is : filled ≡ record_of (answer_of u y)) where
  small : SFits w32 (index_of (answer_of u y))
  small = record { sfits = (fits u y).index }

  number_there : get_or filled 0 0 ≡ number_of (answer_of u y)
  number_there = rw Filled-is (laid_refusal _ _ _ _ _)

  method_there : get_or filled method_offset 0 ≡ method_of (answer_of u y)
  method_there = rw Filled-is (laid_method _ _ _ _ _)

  place_there : {p : Place} → p ≡ place_from filled n u y → p ≡ place_of (sample_with n u y (answer_of u y))
  unfolding place_from place_of
  place_there {p} e =
      let i : number_at filled index_offset ≡ twos_complement (index_of (answer_of u y)) =
      rw Filled-is (laid_index _ _ _ _ _ (twos_complement_fits (index_of (answer_of u y)) small)) in
      let l : number_at filled lower_offset ≡ lower_of (answer_of u y) = rw Filled-is (laid_lower _ _ _ _ _ (fits u y).lower) in
      let h : number_at filled upper_offset ≡ upper_of (answer_of u y) = rw Filled-is (laid_upper _ _ _ _ _ (fits u y).upper) in
      e ∙ rw (method_there, i, l, h)

  pub put_no_tray : length lent ≡ result_size → (length tray ≡ tray_size → ⊥) → PutLeaves tray lent n u y not_its_size tray lent
  put_no_tray h t =
      let by = put_5 tray n t u y in
      put_done tray lent n u y (Err NotATray) h by.0 by.1 refl refl

  module _ (h : length lent ≡ result_size) (t : length tray ≡ tray_size) where
    -- what the pair's own questions said stands in the record too
    by_pair : {P : Type 0} {said : Result (Unit {0}) ℕ} → said ≡ said_by (get_or filled 0 0)
        → ((q : of_pair.Refusal) → Err q ≡ answer_of u y → RightAnswer u y (Err q) → said ≡ Err (pair.number_of_refusal q) → P)
        → ((i : Index) → Ok i ≡ answer_of u y → RightAnswer u y (Ok i) → said ≡ Ok tt → P) → P
    by_pair {P} {said} is refused answered = by_case (answer_of u y) refl
      where
        by_case : (a : Answer) → a ≡ answer_of u y → P
        by_case (Err q) e =
            let r : RightAnswer u y (Err q) = subst (RightAnswer u y) (sym e) (right u y) in
            let some : eqb (pair.number_of_refusal q) 0 ≡ false = ne_eqb _ 0 (λ (z : pair.number_of_refusal q ≡ 0). omega (arith, r.case)) in
            refused q e r (is ∙ ap said_by (number_there ∙ ap number_of (sym e)) ∙ ap (λ (b : Bool). cond b (Ok tt) (Err (pair.number_of_refusal q))) some)
        by_case (Ok i) e =
            answered i e (subst (RightAnswer u y) (sym e) (right u y)) (is ∙ ap said_by (number_there ∙ ap number_of (sym e)))

    -- a pair that its own questions refuse
    pub put_by_pair : (get_or filled 0 0 ≡ 0 → ⊥) → PutLeaves tray lent n u y (get_or filled 0 0) tray lent
    put_by_pair z = by_case (answer_of u y) refl
      where
        by_case : (a : Answer) → a ≡ answer_of u y → PutLeaves tray lent n u y (get_or filled 0 0) tray lent
        by_case (Err q) e =
            let by = place_pair tray n t u y e (subst (RightAnswer u y) (sym e) (right u y)) in
            put_done tray lent n u y (Err (Pair q)) h by.0 by.1 (number_there ∙ ap number_of (sym e)) refl
        by_case (Ok i) e = absurd (z (number_there ∙ ap number_of (sym e)))

    module _ {p : Place} {said : Result (Unit {0}) ℕ} {m : List ℕ} (said-is : said ≡ said_by (get_or filled 0 0)) (p-is : p ≡ place_from filled n u y)
        (m-is : m ≡ tray_holding_unless tray n said p) where
      place_of_index : {i : Index} → Ok i ≡ answer_of u y → p ≡ place_of (sample_with n u y (Ok i))
      place_of_index is = place_there p-is ∙ ap (λ (a : Answer). place_of (sample_with n u y a)) (sym is)

      pub put_not_held : (k : ℕ) → HoldAnswer told_by_number tray n said (Err k) → PutLeaves tray lent n u y k m lent
      put_not_held k held =
          by_pair said-is
          (λ q is is_right told.
          let by = place_pair tray n t u y is is_right in
          let number : ◌≡◌ {A = Result (Unit {0}) ℕ} (Err k) (Err (pair.number_of_refusal q)) = rw told at held in
          put_done tray lent n u y (Err (Pair q)) h by.0 ((rw told at m-is) ∙ by.1) (cc) refl)
          (λ i is is_right told. by_held i is is_right (rw told at m-is) (hold_answer tray n) refl (rw told at held))
        where
          by_held : (i : Index) → Ok i ≡ answer_of u y → RightAnswer u y (Ok i) → m ≡ tray_holding tray n 0 p → (held : Result (Unit {0}) Refusal)
              → held ≡ hold_answer tray n → Told told_by_number held (Err k) → PutLeaves tray lent n u y k m lent
          by_held i is is_right left (Err r) e told =
              let by = place_refused tray n t u y is is_right (place_of_index is) left e in
              put_done tray lent n u y (Err r) h by.0 by.1 told refl
          by_held i is is_right left (Ok done) e told = absurd cc

      pub put_in : {after : List ℕ} → HoldAnswer told_by_number tray n said (Ok tt) → after ≡ filled → PutLeaves tray lent n u y 0 m after
      put_in {after} held f =
          by_pair said-is
          (λ q is is_right told.
          let other : ◌≡◌ {A = Result (Unit {0}) ℕ} (Ok tt) (Err (pair.number_of_refusal q)) = rw told at held in
          absurd cc)
          (λ i is is_right told. by_held i is is_right (rw told at m-is) (hold_answer tray n) refl (rw told at held))
        where
          by_held : (i : Index) → Ok i ≡ answer_of u y → RightAnswer u y (Ok i) → m ≡ tray_holding tray n 0 p → (held : Result (Unit {0}) Refusal)
              → held ≡ hold_answer tray n → Told told_by_number held (Ok tt) → PutLeaves tray lent n u y 0 m after
          by_held i is is_right left (Err r) e told = absurd told
          by_held i is is_right left (Ok done) e told =
              let by = place_held tray n t u y is is_right (place_of_index is) left e in
              put_done tray lent n u y (Ok i) h by.0 by.1 refl (f ∙ Filled-is ∙ ap record_of (sym is))

-- ---- taking out

module _ (tray pair lent : List ℕ) (n : ℕ) where
  abbrev pub TakeLeaves : ℕ → List ℕ → List ℕ → List ℕ → Type 0
  TakeLeaves number after paired recorded =
      (number ≡ take_number tray pair lent n)
      × ((after ≡ tray_taken tray pair lent n) × ((paired ≡ pair_taken tray pair lent n) × (recorded ≡ record_taken tray pair lent n)))

  pub take_other_pair : (length pair ≡ pair_size → ⊥) → TakeLeaves not_its_size tray pair lent
  unfolding take_number tray_taken pair_taken record_taken
  take_other_pair h = (simp (ne_eqb _ _ h), (simp (ne_eqb _ _ h), (simp (ne_eqb _ _ h), simp (ne_eqb _ _ h))))

  pub take_other_record : length pair ≡ pair_size → (length lent ≡ result_size → ⊥) → TakeLeaves not_its_size tray pair lent
  unfolding take_number tray_taken pair_taken record_taken
  take_other_record e h = (
    simp (eq-eqb _ _ e, ne_eqb _ _ h),
    (simp (eq-eqb _ _ e, ne_eqb _ _ h), (simp (eq-eqb _ _ e, ne_eqb _ _ h), simp (eq-eqb _ _ e, ne_eqb _ _ h))),
  )

  pub take_done : (t : Result Sample Refusal) {after paired recorded : List ℕ} → length pair ≡ pair_size → length lent ≡ result_size → t ≡ take_answer tray n
      → after ≡ tray_after_take tray n → paired ≡ pair_with pair t → recorded ≡ record_from lent t → TakeLeaves (refused_by t) after paired recorded
  unfolding take_number tray_taken pair_taken record_taken
  take_done t e h is f p r = (
    simp (eq-eqb _ _ e, eq-eqb _ _ h) (ap refused_by is),
    (
      simp (eq-eqb _ _ e, eq-eqb _ _ h) f,
      (simp (eq-eqb _ _ e, eq-eqb _ _ h) (p ∙ ap (pair_with pair) is), simp (eq-eqb _ _ e, eq-eqb _ _ h) (r ∙ ap (record_from lent) is)),
    ),
  )

-- ---- the summary

module _ (tray : List ℕ) (row : List ℤ) where
  abbrev pub SummaryLeaves : ℕ → List ℤ → Type 0
  SummaryLeaves number after = (number ≡ summary_number tray row) × (after ≡ summary_after tray row)

  pub summary_other : (length row ≡ row_size → ⊥) → SummaryLeaves not_its_size row
  unfolding summary_number summary_after
  summary_other h = (simp (ne_eqb _ _ h), simp (ne_eqb _ _ h))

  pub summary_done : (st : Result (Option Summary) Refusal) {after : List ℤ} → length row ≡ row_size → st ≡ state_of tray → after ≡ row_with row st
      → SummaryLeaves (refused_by st) after
  unfolding summary_number summary_after
  summary_done st e is f = (simp (eq-eqb _ _ e) (ap refused_by is), simp (eq-eqb _ _ e) (f ∙ ap (row_with row) is))
