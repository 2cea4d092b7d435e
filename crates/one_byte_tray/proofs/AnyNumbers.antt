-- A tray that holds just these samples, and what a put and a take answer and leave of it; then the two lists of calls.
use Prim.Native.Nat.{ℕ, ◌+◌, ◌<◌}
use mathlib.Core.Path.{◌≡◌, refl, sym, ap, ◌∙◌}
use mathlib.Core.Bool.{Bool, true}
use mathlib.Core.List.{List, [], ◌∷◌}
use native.Mathlib.Omega.{arith}
use borrow.Author.Tests.{eq-eqb, ne_eqb}
use lib.ListN.{length}
use Rattle.std.specs.Prelude.{None, Ok, Err}
use Rattle.laws.proofs.Order.{by_test}
use Rattle.tray.specs.declared.refusal.Refusal.TheVariants.{NumberHeld}
use Rattle.index.specs.Questions.{refusal}
use Rattle.index.specs.ChosenAnswer.{answer_of}
use Rattle.tray_places.specs.Samples.{Sample}
use Rattle.tray_places.specs.Places.{empty_tray, held_in}
use Rattle.tray_places.specs.Counts.{one, times, numbered, same}
use Rattle.tray_places.proofs.Held.{times_none, times_one}
use Rattle.tray_places.proofs.Found.{empty_size, empty_holds}
use Rattle.tray_places.proofs.Same.{itself, only}
use Rattle.tray.specs.Tray.{sample_with, put_answer, take_answer}
use Rattle.tray.specs.State.{state_after, state_of}
use Rattle.tray.specs.Calls.{Put, Take, Ask, ToPut, ToTake, ToAsk, after, answers_to}
use Rattle.tray.proofs.Steps.{call_step}
use Rattle.tray.proofs.EveryList.{length_times, every_call}
use Rattle.one_byte_tray.specs.OneByteTray as one_byte
use Rattle.one_byte_tray.specs.SameAnswers.{all_up_to_255, AnyNumbers}
use Rattle.one_byte_tray.proofs.Kept.{given_same}
use Rattle.one_byte_tray.proofs.SameAnswers.{same_answers}

-- ---- the samples that a tray holds, in whatever places

record Holds (tray : List ℕ) (samples : List Sample) : Type 0 where
  size : length tray ≡ 512
  each : (test : Sample → Bool) → times test (held_in tray) ≡ times test samples

count_held : (tray : List ℕ) (samples : List Sample) → Holds tray samples → length (held_in tray) ≡ length samples
count_held tray samples h =
    sym (length_times (held_in tray)) ∙ h.each (λ (s : Sample). true) ∙ length_times samples

times_more : (test : Sample → Bool) (s : Sample) (samples : List Sample) → times test (s ∷ samples) ≡ one (test s) + times test samples
unfolding times
times_more test s samples = refl

empty_held : Holds empty_tray []
empty_held = record { size = empty_size; each = λ test. ap (times test) empty_holds }

record PutInto (tray : List ℕ) (samples : List Sample) (number u y : ℕ) : Type 0 where
  given : put_answer tray number u y ≡ one_byte.as_put (answer_of u y)
  then : Holds (after tray (Put number u y)) (sample_with number u y (answer_of u y) ∷ samples)

put_into : (tray : List ℕ) (samples : List Sample) (number u y : ℕ) → Holds tray samples → refusal u y ≡ 0 → times (numbered number) samples ≡ 0
    → length samples < 64 → PutInto tray samples number u y
put_into tray samples number u y h passed new few =
    let both =
    (every_call tray h.size).put_in number u y passed (h.each (numbered number) ∙ new) (omega (arith, count_held tray samples h)) in
    record {
      given = both.0 ∙ given_same (answer_of u y);
      then = record {
        size = (call_step tray (Put number u y) h.size).size;
        each = λ test.
            omega (arith, both.1 test, h.each test, times_more test (sample_with number u y (answer_of u y)) samples);
      };
    }

put_empty : (number u y : ℕ) → refusal u y ≡ 0 → PutInto empty_tray [] number u y
put_empty number u y passed = put_into empty_tray [] number u y empty_held passed (times_none (numbered number)) (omega arith)

-- a number that is held under one sample alone gives that sample
record TakenFrom (tray : List ℕ) (rest : List Sample) (s : Sample) : Type 0 where
  given : take_answer tray s.number ≡ Ok s
  then : Holds (after tray (Take s.number)) rest

take_from : (tray : List ℕ) (samples rest : List Sample) (s : Sample) → Holds tray samples
    → ((test : Sample → Bool) → times test samples ≡ times test rest + one (test s))
    → ((x : Sample) → 0 < times (same x) samples → x.number ≡ s.number → x ≡ s) → TakenFrom tray rest s
take_from tray samples rest s h apart alone =
    let its : one (numbered s.number s) ≡ 1 = ap one (eq-eqb s.number s.number refl) in
    let out =
    (every_call tray h.size).taken_out s.number (omega (arith, h.each (numbered s.number), apart (numbered s.number), its)) in
    let x : Sample = out.sample in
    let there : one (same x x) ≡ 1 = ap one (itself x) in
    let is : x ≡ s = alone x (omega (arith, out.less (same x), h.each (same x), there)) out.number_is in
    record {
      given = out.given ∙ ap Ok is;
      then = record {
        size = (call_step tray (Take s.number) h.size).size;
        each = λ test.
            let same_test : one (test x) ≡ one (test s) = ap (λ (z : Sample). one (test z)) is in
            omega (arith, out.less test, h.each test, apart test, same_test);
      };
    }

-- a tray that holds none says so
no_samples : (samples : List Sample) → length samples ≡ 0 → samples ≡ []
no_samples [] e = refl
no_samples (s ∷ samples) e = absurd (omega arith)

none_held : (tray : List ℕ) → Holds tray [] → state_of tray ≡ Ok None
unfolding state_of state_after
none_held tray h = rw (eq-eqb (length tray) 512 h.size, no_samples (held_in tray) (count_held tray [] h))

-- ---- two different numbers

module _ (m n u y v z : ℕ) (different : m ≡ n → ⊥) (passed : refusal u y ≡ 0) (passed' : refusal v z ≡ 0) where
  abbrev s : Sample
  s = sample_with m u y (answer_of u y)

  abbrev t : Sample
  t = sample_with n v z (answer_of v z)

  abbrev one_in : List ℕ
  one_in = after empty_tray (Put m u y)

  abbrev both_in : List ℕ
  both_in = after one_in (Put n v z)

  put_first : PutInto empty_tray [] m u y
  put_first = put_empty m u y passed

  other_number : times (numbered n) (s ∷ []) ≡ 0
  other_number = omega (arith, times_one (numbered n) s, ap one (ne_eqb m n different))

  put_second : PutInto one_in (s ∷ []) n v z
  put_second = put_into one_in (s ∷ []) n v z put_first.then passed' other_number (omega arith)

  -- of the two, one alone has the number m
  alone : (x : Sample) → 0 < times (same x) (t ∷ s ∷ []) → x.number ≡ m → x ≡ s
  alone x p e =
      by_test (same x s) (only x s)
      (λ f. by_test (same x t)
      (λ g. absurd (different (sym e ∙ ap (λ (w : Sample). w.number) (only x t g))))
      (λ g. absurd (omega (arith, times_more (same x) t (s ∷ []), times_one (same x) s, ap one f, ap one g))))

  take_first : TakenFrom both_in (t ∷ []) s
  take_first =
      take_from both_in (t ∷ s ∷ []) (t ∷ []) s put_second.then
      (λ test. omega (arith, times_more test t (s ∷ []), times_one test s, times_one test t)) alone

  take_second : TakenFrom (after both_in (Take m)) [] t
  take_second =
      take_from (after both_in (Take m)) (t ∷ []) [] t take_first.then
      (λ test. omega (arith, times_one test t, times_none test))
      (λ x p e. by_test (same x t) (only x t) (λ g. absurd (omega (arith, times_one (same x) t, ap one g))))

  two_samples : answers_to empty_tray (Put m u y ∷ Put n v z ∷ Take m ∷ Take n ∷ Ask ∷ [])
      ≡ ToPut (one_byte.as_put (answer_of u y)) ∷ ToPut (one_byte.as_put (answer_of v z)) ∷ ToTake (Ok s) ∷ ToTake (Ok t) ∷ ToAsk (Ok None) ∷ []
  unfolding answers_to
  two_samples =
      rw (put_first.given, put_second.given, take_first.given, take_second.given, none_held (after (after both_in (Take m)) (Take n)) take_second.then)

-- ---- one number twice

module _ (n u y v z : ℕ) (passed : refusal u y ≡ 0) (passed' : refusal v z ≡ 0) where
  held_already : put_answer (after empty_tray (Put n u y)) n v z ≡ Err NumberHeld
  held_already =
      let first = put_empty n u y passed in
      let s : Sample = sample_with n u y (answer_of u y) in
      let its : one (numbered n s) ≡ 1 = ap one (eq-eqb n n refl) in
      (every_call (after empty_tray (Put n u y)) first.then.size).number_held n v z passed'
      (omega (arith, first.then.each (numbered n), times_one (numbered n) s, its))

  one_sample : answers_to empty_tray (Put n u y ∷ Put n v z ∷ []) ≡ ToPut (one_byte.as_put (answer_of u y)) ∷ ToPut (Err NumberHeld) ∷ []
  unfolding answers_to
  one_sample = rw ((put_empty n u y passed).given, held_already)

-- 257 was 1: its lowest byte
same_byte : (u y v z : ℕ)
    → one_byte.answers_to one_byte.empty_tray (Put 1 u y ∷ Put 257 v z ∷ []) ≡ one_byte.answers_to one_byte.empty_tray (Put 1 u y ∷ Put 1 v z ∷ [])
unfolding one_byte.answers_to
same_byte u y v z = refl

both_small : (u y v z : ℕ) → all_up_to_255 (Put 1 u y ∷ Put 1 v z ∷ []) ≡ true
unfolding all_up_to_255
both_small u y v z = refl

pub any_numbers : AnyNumbers
any_numbers = record {
  two = two_samples;
  same = one_sample;
  before = λ u y v z p q.
      same_byte u y v z ∙ sym (same_answers (Put 1 u y ∷ Put 1 v z ∷ []) (both_small u y v z)).from_empty ∙ one_sample 1 u y v z p q;
}
