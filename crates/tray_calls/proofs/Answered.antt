-- The calls whose lent memories have their sizes, by what the tray's own calls do.
use Rattle.laws.proofs.Contradiction.{not_some}
use Rattle.reference.specs.Refusal as of_pair
use Rattle.reference.proofs.Refusals.{numbered_refusals}
use Rattle.index.proofs.QuestionOrder.{number_most}
use Rattle.tray_places.specs.Samples.{Sample}
use mathlib.Core.Bool.{Bool}
use Rattle.answer_record.specs.Record.{record_of}
use Prim.Native.Nat.{ℕ, ◌+◌, ◌<◌}
use mathlib.Core.Path.{◌≡◌, refl, sym, ap, ◌∙◌, subst}
use mathlib.Core.List.{List, [], ◌∷◌}
use native.Mathlib.Omega.{arith}
use lib.IntN.{ℤ, pos}
use lib.ListN.{length, replicate}
use Rattle.std.specs.Prelude.{Option, Some, None, Result, Ok, Err}
use Rattle.index.specs.Questions.{refusal}
use Rattle.index.specs.Answer.{Answer, RightAnswer}
use Rattle.index.specs.ChosenAnswer.{answer_of}
use Rattle.index.proofs.Right.{right}
use Rattle.index_summary.specs.declared.Summary.{Summary}
use Rattle.tray_places.specs.Places.{held_in}
use Rattle.tray_places.specs.Counts.{one, times}
use Rattle.tray.specs.declared.refusal.Refusal.{Refusal}
use Rattle.tray.specs.Tray.{held_as, sample_with, as_put}
use Rattle.tray.specs.State.{RightState}
use Rattle.tray.specs.Calls as places
use Rattle.tray.specs.Calls.{Call, Put, Take, refused_by}
use Rattle.tray.proofs.EveryList.{every_call}
use Rattle.summary_tray.specs.SummaryTray.{places_in, put_answer, take_answer, tray_after_take, state_of}
use Rattle.summary_tray.specs.KeptSummary.{left, walked}
use Rattle.summary_tray.proofs.Parts.{length_places}
use Rattle.summary_tray.proofs.Kept.{kept_state, put_as, take_as}
use Rattle.summary_tray.proofs.Lists.{samples_after, left_keeps, kept_summary}
use Rattle.tray_calls.specs.TrayCalls.{record_with, put_number, record_put, pair_with, record_from, row_with}
use Rattle.tray_calls.specs.AnsweredCalls.{PutIn, TakenOut, RightRow, AnsweredCalls, EveryRefresh}
use Rattle.tray_calls.proofs.Refused.{kept_right, says_how_many}
use Rattle.tray_calls.proofs.Calls.{put_done, TakeLeaves, take_done, SummaryLeaves, summary_done}

module _ (tray lent pair : List ℕ) (row : List ℤ) (t : length tray ≡ 521) (h : length lent ≡ 16) (e : length pair ≡ 2) (w : length row ≡ 7) where
  -- the places, whose own calls say what is answered and held
  abbrev q : List ℕ
  q = places_in tray

  size : length q ≡ 512
  size = length_places tray t

  number_answered : (n u y : ℕ) → put_number tray lent n u y ≡ refused_by (put_answer tray n u y)
  number_answered n u y = sym (put_done tray lent n u y (put_answer tray n u y) h refl refl refl refl).0

  record_answered : (n u y : ℕ) → record_put tray lent n u y ≡ record_with lent (put_answer tray n u y)
  record_answered n u y = sym (put_done tray lent n u y (put_answer tray n u y) h refl refl refl refl).1.1

  taken_done : (n : ℕ) → TakeLeaves tray pair lent n (refused_by (take_answer tray n)) (tray_after_take tray n) (pair_with pair (take_answer tray n))
      (record_from lent (take_answer tray n))
  taken_done n = take_done tray pair lent n (take_answer tray n) e h refl refl refl refl

  asked_done : SummaryLeaves tray row (refused_by (state_of tray)) (row_with row (state_of tray))
  asked_done = summary_done tray row (state_of tray) w refl refl

  in_put : (n u y : ℕ) → refusal u y ≡ 0 → held_as q n ≡ 0 → length (held_in q) < 64 → PutIn tray lent n u y
  in_put n u y z k f = by_case (answer_of u y) refl
    where
      both : (put_answer tray n u y ≡ as_put (answer_of u y))
          × ((test : Sample → Bool) → times test (held_in (places.after q (Put n u y))) ≡ times test (held_in q) + one (test (sample_with n u y (answer_of u y))))
      both = let of_places = (every_call q size).put_in n u y z k f in (put_as tray t n u y ∙ of_places.0, of_places.1)

      by_case : (a : Answer) → a ≡ answer_of u y → PutIn tray lent n u y
      by_case (Err q) e =
          let r : RightAnswer u y (Err q) = subst (RightAnswer u y) (sym e) (right u y) in
          not_some (of_pair.number_of_refusal q) (r.number ∙ z) r.case
      by_case (Ok i) e =
          let done = put_done tray lent n u y (put_answer tray n u y) h refl refl refl refl in
          let given : put_answer tray n u y ≡ Ok i = both.0 ∙ ap as_put (sym e) in
          record {
            answered = number_answered n u y ∙ ap refused_by given;
            filled = record {
              of_right = record {
                answer = answer_of u y;
                right = right u y;
                laid_out = record_answered n u y ∙ ap (record_with lent) given ∙ ap record_of e;
              };
              alone = refl;
            };
            more = λ test.
                ap (λ (m : List ℕ). times test (held_in (places_in m))) (sym done.1.0) ∙ ap (λ (m : List ℕ). times test (held_in m)) (samples_after tray (Put n u y) t)
                ∙ both.1 test;
          }

  out_taken : (n : ℕ) → 0 < held_as q n → TakenOut tray pair lent n
  out_taken n p =
      let g = (every_call q size).taken_out n p in
      let done = taken_done n in
      let given = take_as tray t n ∙ g.given in
      record {
        sample = g.sample;
        number_is = g.number_is;
        answered = sym done.0 ∙ ap refused_by given;
        paired = sym done.1.1.0 ∙ ap (pair_with pair) given;
        filled = sym done.1.1.1 ∙ ap (record_from lent) given;
        less = λ test.
            g.less test ∙ ap (λ (m : List ℕ). times test (held_in m) + one (test g.sample)) (sym (samples_after tray (Take n) t))
            ∙ ap (λ (m : List ℕ). times test (held_in (places_in m)) + one (test g.sample)) done.1.0;
      }

  state_0 : refused_by (state_of tray) ≡ 0
  state_0 = ap refused_by (kept_state tray t)

  right_row : (st : Result (Option Summary) Refusal) → RightState q st → 0 < length (held_in q) → RightRow tray (row_with row st)
  right_row (Err k) r p = absurd (r.1 size)
  right_row (Ok None) r p = absurd (omega (arith, ap length r.1))
  right_row (Ok (Some s)) r p = record {
    summary = s;
    right = r.1;
    row_is = ap (λ (k : ℕ). pos k ∷ s.lowest ∷ s.highest ∷ s.sum ∷ pos s.a ∷ pos s.settled ∷ pos s.near ∷ []) r.2;
  }

  pub answered_calls : AnsweredCalls tray lent pair row t h e w
  answered_calls = record {
    pair_first = λ n u y p.
        number_answered n u y ∙ ap refused_by (put_as tray t n u y ∙ (every_call q size).pair_first n u y p) ∙ numbered_refusals.of_number (refusal u y) p (number_most u y);
    number_held = λ n u y z p. number_answered n u y ∙ ap refused_by (put_as tray t n u y ∙ (every_call q size).number_held n u y z p);
    tray_full = λ n u y z k f. number_answered n u y ∙ ap refused_by (put_as tray t n u y ∙ (every_call q size).tray_full n u y z k f);
    put_in = in_put;
    not_held = λ n z.
        sym (taken_done n).0 ∙ ap refused_by (take_as tray t n ∙ (every_call q size).not_held n z);
    taken_out = out_taken;
    asked = sym asked_done.0 ∙ state_0;
    kept_none = λ e. sym asked_done.1 ∙ ap (row_with row) e;
    kept_some = λ {t} e. sym asked_done.1 ∙ ap (row_with row) e;
    row_right = λ kept p. subst (RightRow tray) asked_done.1 (right_row (state_of tray) (kept_right tray kept) p);
    as_put = λ n u y. sym (put_done tray lent n u y (put_answer tray n u y) h refl refl refl refl).1.0;
    as_taken = λ n. sym (taken_done n).1.0;
    told_put = λ n u y. (number_answered n u y, record_answered n u y);
    told_taken = λ n. (sym (taken_done n).0, sym (taken_done n).1.1.0, sym (taken_done n).1.1.1);
    told_asked = (sym asked_done.0, sym asked_done.1);
  }

-- after every list of calls from zeros
module _ (calls : List Call) (row : List ℤ) (w : length row ≡ 7) where
  known : state_of (left calls) ≡ walked (left calls)
  known = (kept_summary calls).equal

  -- the sizes of a record and of a pair that are lent to other calls
  any : AnsweredCalls (left calls) (replicate 16 0) (0 ∷ 0 ∷ []) row (left_keeps calls).size refl refl w
  any = answered_calls (left calls) (replicate 16 0) (0 ∷ 0 ∷ []) row (left_keeps calls).size refl refl w

  pub every_refresh : EveryRefresh calls row w
  every_refresh = record {
    answered = any.asked;
    some = any.row_right known;
    none = (says_how_many (left calls) (replicate 16 0) (0 ∷ 0 ∷ []) row known).empty any.asked;
  }
