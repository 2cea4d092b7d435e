-- One call on any tray: the outcomes of a put and of a take, which samples they take in and out, and what is held afterwards.
use Prim.Native.Nat.{ℕ, ◌+◌, ◌*◌, ◌≤◌, ◌<◌}
use mathlib.Core.Path.{◌≡◌, refl, ap, ◌∙◌}
use mathlib.Core.Bool.{Bool}
use mathlib.Core.List.{List, [], ◌∷◌}
use native.Mathlib.Omega.{arith}
use borrow.Author.Tests.{eqb-true}
use lib.ListN.{length}
use Rattle.std.specs.Prelude.{Ok, Err}
use Rattle.laws.proofs.Order.{by_test, by_order}
use Rattle.reference.specs.Refusal as pair
use Rattle.laws.proofs.Contradiction.{not_some}
use Rattle.index.specs.Questions.{refusal}
use Rattle.index.specs.Answer.{Answer, RightAnswer}
use Rattle.index.specs.ChosenAnswer.{answer_of}
use Rattle.index.proofs.Right.{right}
use Rattle.answer_record.specs.Bytes.{stored}
use Rattle.answer_record.proofs.Stores.{length_stored}
use Rattle.tray_places.specs.Samples.{Sample, place_of}
use Rattle.tray_places.specs.Places.{places, place_size, tray_size, numbers_of, freed, sample_at, place_of_number, free_place, held_in}
use Rattle.tray_places.specs.Counts.{one, times, numbered}
use Rattle.tray_places.proofs.Held.{times_none, times_one}
use Rattle.tray_places.proofs.Kept.{length_numbers, length_freed}
use Rattle.tray_places.proofs.Found.{every_tray, held_most, free_is_free, none_free, found_is_held, found_number, number_not_held, filled, emptied}
use Rattle.tray.specs.declared.refusal.Refusal.{Refusal}
use Rattle.tray.specs.declared.refusal.Refusal.TheVariants.{Pair, NumberHeld, TrayFull, NumberNotHeld}
use Rattle.tray.specs.Tray.{held_refusal, full_refusal, not_held_refusal, held_as, hold_refusal, put_refusal, sample_with, tray_with, as_put, put_answer, tray_after_put, take_answer, tray_after_take}
use Rattle.tray.specs.Calls.{Call, Put, Take, Ask, after, in_by, out_by, samples_taken_in, samples_taken_out}
use Rattle.tray.proofs.Questions.{no_31, no_32, room, put_sized, put_by, put_own, put_passed, no_33, held, take_by, take_passed}

-- ---- an answered pair

-- an answered pair is a sample
sample_in : (n u y : ℕ) (a : Answer) → RightAnswer u y a → refusal u y ≡ 0 → in_by n u y (as_put a) ≡ sample_with n u y a ∷ []
sample_in n u y (Err k) r e = not_some (pair.number_of_refusal k) (r.number ∙ e) r.case
sample_in n u y (Ok index) r e = refl

module _ (l : List ℕ) (h : length l ≡ tray_size) (n : ℕ) where
  -- ---- the outcomes of a put
  module _ (u y : ℕ) where
    pub pair_first : 0 < refusal u y → (put_answer l n u y ≡ Err (Pair (pair.refusal_of (refusal u y)))) × (tray_after_put l n u y ≡ l)
    pair_first p = put_own l n u y h p

    module _ (passed : refusal u y ≡ 0) where
      sized : put_refusal l n u y ≡ hold_refusal l n 0
      sized = put_sized l n u y h ∙ ap (hold_refusal l n) passed

      pub refused_31 : 0 < held_as l n → (put_answer l n u y ≡ Err NumberHeld) × (tray_after_put l n u y ≡ l)
      refused_31 k = put_by l n u y held_refusal (sized ∙ no_31 l n k) (omega arith)

      pub refused_32 : held_as l n ≡ 0 → length (held_in l) ≡ places → (put_answer l n u y ≡ Err TrayFull) × (tray_after_put l n u y ≡ l)
      refused_32 k f = put_by l n u y full_refusal (sized ∙ no_32 l n k (omega arith)) (omega arith)

      abbrev s : Sample
      s = sample_with n u y (answer_of u y)

      pub put_answered : held_as l n ≡ 0 → length (held_in l) < places → (put_answer l n u y ≡ as_put (answer_of u y)) × (tray_after_put l n u y ≡ tray_with l s)
      put_answered k f = put_passed l n u y (sized ∙ room l n k f)

      pub one_in : length (held_in l) < places → (test : Sample → Bool) → times test (held_in (tray_with l s)) ≡ times test (held_in l) + one (test s)
      one_in f test =
          let k = free_place l in
          let within : k < places = by_order k places (λ b. b) (λ b. absurd (omega (arith, none_free l b))) in
          let stores = (every_tray l).stores s k within h passed refl in
          filled l (numbers_of (place_of s)) k (omega (arith, length_numbers (place_of s))) within test (free_is_free l within) stores.0
          ∙ ap (λ (x : Sample). times test (held_in l) + one (test x)) stores.1

  -- ---- the outcomes of a take
  abbrev k : ℕ
  k = place_of_number l n

  pub refused_33 : held_as l n ≡ 0 → (take_answer l n ≡ Err NumberNotHeld) × (tray_after_take l n ≡ l)
  refused_33 z = take_by l n not_held_refusal (no_33 l n h z) (omega arith)

  pub take_answered : 0 < held_as l n → (take_answer l n ≡ Ok (sample_at l k)) × (tray_after_take l n ≡ stored l (place_size * k) freed)
  take_answered p = take_passed l n (held l n h p)

  pub found_within : 0 < held_as l n → k < places
  found_within p = by_order k places (λ b. b) (λ b. absurd (omega (arith, number_not_held l n b)))

  pub number_out : 0 < held_as l n → (sample_at l k).number ≡ n
  number_out p = found_number l n (found_within p)

  pub one_out : 0 < held_as l n → (test : Sample → Bool)
      → times test (held_in l) ≡ times test (held_in (stored l (place_size * k) freed)) + one (test (sample_at l k))
  one_out p test =
      let within = found_within p in
      emptied l freed k (omega (arith, length_freed)) within test (found_is_held l n within) ((every_tray l).frees k within h)

-- ---- what a call does, in three kinds

pub record Step (l : List ℕ) (c : Call) : Type 0 where
  pub size : length (after l c) ≡ tray_size
  pub balance : (test : Sample → Bool) →
      times test (samples_taken_in l c) + times test (held_in l) ≡ times test (samples_taken_out l c) + times test (held_in (after l c))
  pub different : ((n : ℕ) → times (numbered n) (held_in l) ≤ 1) → (n : ℕ) → times (numbered n) (held_in (after l c)) ≤ 1

module _ (l : List ℕ) (c : Call) where
  unchanged : length l ≡ tray_size → after l c ≡ l → samples_taken_in l c ≡ [] → samples_taken_out l c ≡ [] → Step l c
  unchanged h e i o = record {
    size = rw e h;
    balance = λ test. rw (e, i, o);
    different = λ d n. rw e (d n);
  }

  gained : (m : List ℕ) (s : Sample) → length m ≡ tray_size → after l c ≡ m → samples_taken_in l c ≡ s ∷ [] → samples_taken_out l c ≡ []
      → ((test : Sample → Bool) → times test (held_in m) ≡ times test (held_in l) + one (test s)) → times (numbered s.number) (held_in l) ≡ 0 → Step l c
  gained m s h e i o more new = record {
    size = rw e h;
    balance = λ test. rw (e, i, o, times_one test s, times_none test) (omega (arith, more test));
    different = λ d n.
        rw e
        (by_test (numbered n s)
        (λ y.
        let same : s.number ≡ n = eqb-true s.number n y in
        let none : times (numbered n) (held_in l) ≡ 0 = rw same at new in
        let is : one (numbered n s) ≡ 1 = ap one y in
        omega (arith, more (numbered n)))
        (λ f. let is : one (numbered n s) ≡ 0 = ap one f in omega (arith, more (numbered n), d n)));
  }

  lost : (m : List ℕ) (s : Sample) → length m ≡ tray_size → after l c ≡ m → samples_taken_in l c ≡ [] → samples_taken_out l c ≡ s ∷ []
      → ((test : Sample → Bool) → times test (held_in l) ≡ times test (held_in m) + one (test s)) → Step l c
  lost m s h e i o less = record {
    size = rw e h;
    balance = λ test. rw (e, i, o, times_one test s, times_none test) (omega (arith, less test));
    different = λ d n. rw e (omega (arith, less (numbered n), d n));
  }

put_step : (l : List ℕ) (n u y : ℕ) → length l ≡ tray_size → Step l (Put n u y)
put_step l n u y h =
    let refused : (r : Refusal) → (put_answer l n u y ≡ Err r) × (tray_after_put l n u y ≡ l) → Step l (Put n u y) =
    λ r both. unchanged l (Put n u y) h both.1 (ap (in_by n u y) both.0) refl in
    by_order 0 (refusal u y) (λ p. refused _ (pair_first l h n u y p))
    (λ z.
    let passed : refusal u y ≡ 0 = omega arith in
    by_order 0 (held_as l n) (λ p. refused NumberHeld (refused_31 l h n u y passed p))
    (λ q.
    let new : held_as l n ≡ 0 = omega arith in
    by_order (length (held_in l)) places
    (λ few.
    let both = put_answered l h n u y passed new few in
    gained l (Put n u y) (tray_with l (sample_with n u y (answer_of u y))) (sample_with n u y (answer_of u y)) (length_stored l _ _ ∙ h) both.1
    (ap (in_by n u y) both.0 ∙ sample_in n u y (answer_of u y) (right u y) passed) refl (one_in l h n u y passed few) new)
    (λ many. refused TrayFull (refused_32 l h n u y passed new (omega (arith, held_most l))))))

take_step : (l : List ℕ) (n : ℕ) → length l ≡ tray_size → Step l (Take n)
take_step l n h =
    by_order 0 (held_as l n)
    (λ p.
    let both = take_answered l h n p in
    lost l (Take n) (stored l (place_size * place_of_number l n) freed) (sample_at l (place_of_number l n)) (length_stored l _ _ ∙ h) both.1 refl
    (ap out_by both.0) (one_out l h n p))
    (λ z.
    let both = refused_33 l h n (omega arith) in
    unchanged l (Take n) h both.1 refl (ap out_by both.0))

pub call_step : (l : List ℕ) (c : Call) → length l ≡ tray_size → Step l c
call_step l (Put n u y) h = put_step l n u y h
call_step l (Take n) h = take_step l n h
call_step l Ask h = unchanged l Ask h refl refl refl
