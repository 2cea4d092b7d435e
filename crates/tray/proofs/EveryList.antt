-- Lists of calls, call by call; and what each single call does on any tray.
use Prim.Native.Nat.{ℕ, ◌+◌, ◌≤◌, ◌<◌}
use mathlib.Core.Path.{◌≡◌, refl, sym, ap, ◌∙◌, subst}
use mathlib.Core.Bool.{Bool, true, false, not, ◌&&◌}
use mathlib.Core.List.{List, [], ◌∷◌}
use native.Mathlib.Omega.{arith}
use borrow.Author.Tests.{eq-eqb}
use lib.ListN.{length}
use Rattle.std.specs.Prelude.{Result, Ok, Err}
use Rattle.laws.proofs.Contradiction.{impossible, not_some}
use Rattle.laws.proofs.Computed.{both_pass}
use Rattle.laws.proofs.Order.{by_test, by_order}
use Rattle.reference.specs.Refusal as pair
use Rattle.index.specs.declared.answer.Index.{Index}
use Rattle.index.specs.Questions.{refusal}
use Rattle.index.specs.Answer.{Answer, RightAnswer}
use Rattle.index.specs.ChosenAnswer.{answer_of}
use Rattle.index.proofs.Right.{right}
use Rattle.tray_places.specs.Samples.{Sample}
use Rattle.tray_places.specs.Places.{places, tray_size, empty_tray, sample_at, place_of_number, held_in}
use Rattle.tray_places.specs.Counts.{one, times, numbered, same}
use Rattle.tray_places.proofs.Held.{times_none, times_one, times_append}
use Rattle.tray_places.proofs.Found.{held_most, empty_size, empty_holds}
use Rattle.tray_places.proofs.Same.{itself, only, times_fewer, same_number}
use Rattle.tray.specs.declared.refusal.Refusal.{Refusal}
use Rattle.tray.specs.declared.refusal.Refusal.TheVariants.{Pair, NumberHeld, TrayFull}
use Rattle.tray.specs.Tray.{number_of_refusal, held_as, sample_with, as_put, put_answer, take_answer}
use Rattle.tray.specs.Calls.{Call, Put, Take, Ask, refused_by, call_refusal, after, after_all, in_by, samples_taken_in, samples_taken_out, all_taken_in, all_taken_out}
use Rattle.tray.specs.EveryListOfCalls.{EveryList, QuestionNumbers, OtherMemory, GivesIndex, EveryCall}
use Rattle.tray.proofs.Questions.{refusal_some, put_5, take_5}
use Rattle.tray.proofs.Steps.{pair_first, refused_31, refused_32, put_answered, one_in, refused_33, take_answered, number_out, one_out, call_step}

-- ---- a list of calls

record Run (l : List ℕ) (cs : List Call) : Type 0 where
  size : length (after_all l cs) ≡ tray_size
  balance : (test : Sample → Bool) →
      times test (all_taken_in l cs) + times test (held_in l) ≡ times test (all_taken_out l cs) + times test (held_in (after_all l cs))
  different : (n : ℕ) → times (numbered n) (held_in (after_all l cs)) ≤ 1

run : (l : List ℕ) (cs : List Call) → length l ≡ tray_size → ((n : ℕ) → times (numbered n) (held_in l) ≤ 1) → Run l cs
unfolding after_all all_taken_in all_taken_out
run l [] h d = record { size = h; balance = λ test. refl; different = d }
run l (c ∷ cs) h d =
    let step = call_step l c h in
    let rest = run (after l c) cs step.size (step.different d) in
    record {
      size = rest.size;
      balance = λ test.
          rw (times_append test (samples_taken_in l c) (all_taken_in (after l c) cs), times_append test (samples_taken_out l c) (all_taken_out (after l c) cs))
          (omega (arith, step.balance test, rest.balance test));
      different = rest.different;
    }

none_held : (test : Sample → Bool) → times test (held_in empty_tray) ≡ 0
none_held test = ap (times test) empty_holds ∙ times_none test

-- all samples of a list
pub length_times : (xs : List Sample) → times (λ (s : Sample). true) xs ≡ length xs
unfolding times
length_times [] = refl
length_times (x ∷ xs) = omega (arith, length_times xs)

-- ---- a sample that is taken in has the answer that its pair gets when asked alone

abbrev Alone : Sample → Type 0
Alone s = (refusal s.u s.y ≡ 0) × (s.answer ≡ answer_of s.u s.y) × RightAnswer s.u s.y s.answer

-- what a put answers, other than a refusal, is the pair's own answer
pub put_alone : (l : List ℕ) (n u y : ℕ) {i : Index} → length l ≡ tray_size → put_answer l n u y ≡ Ok i → (refusal u y ≡ 0) × (Ok i ≡ answer_of u y)
put_alone l n u y {i} h z =
    by_order 0 (refusal u y) (λ p. let by = ap refused_by (sym (pair_first l h n u y p).0 ∙ z) in not_refused (Pair (pair.refusal_of (refusal u y))) by)
    (λ q.
    let passed : refusal u y ≡ 0 = omega arith in
    by_order 0 (held_as l n) (λ p. let by = ap refused_by (sym (refused_31 l h n u y passed p).0 ∙ z) in absurd (omega arith))
    (λ r. by_order (length (held_in l)) places
    (λ few. (passed, own (answer_of u y) (sym (put_answered l h n u y passed (omega arith) few).0 ∙ z)))
    (λ many.
    let by = ap refused_by (sym (refused_32 l h n u y passed (omega arith) (omega (arith, held_most l))).0 ∙ z) in
    absurd (omega arith))))
  where
    not_refused : {P : Type 0} (r : Refusal) → number_of_refusal r ≡ 0 → P
    not_refused r e = let some = refusal_some r in absurd (omega arith)

    own : (a : Answer) → as_put a ≡ Ok i → Ok i ≡ a
    own (Err q) e = impossible cc
    own (Ok j) e = let same : j ≡ i = cc in ap Ok (sym same)

in_one : (s t : Sample) → Alone t → 0 < times (same s) (t ∷ []) → Alone s
in_one s t a p =
    by_test (same s t) (λ e. subst Alone (sym (only s t e)) a)
    (λ e. let is : one (same s t) ≡ 0 = ap one e in absurd (omega (arith, times_one (same s) t)))

with_right : (u y : ℕ) {a : Answer} → (refusal u y ≡ 0) × (a ≡ answer_of u y) → (refusal u y ≡ 0) × (a ≡ answer_of u y) × RightAnswer u y a
with_right u y {a} both = (both.0, both.1, subst (RightAnswer u y) (sym both.1) (right u y))

in_alone : (s : Sample) (n u y : ℕ) (a : Result Index Refusal) → ((i : Index) → a ≡ Ok i → (refusal u y ≡ 0) × (Ok i ≡ answer_of u y))
    → 0 < times (same s) (in_by n u y a) → Alone s
in_alone s n u y (Err k) f p = absurd (omega (arith, times_none (same s)))
in_alone s n u y (Ok i) f p = in_one s (sample_with n u y (Ok i)) (with_right u y (f i refl)) p

call_alone : (l : List ℕ) (c : Call) (s : Sample) → length l ≡ tray_size → 0 < times (same s) (samples_taken_in l c) → Alone s
call_alone l (Put n u y) s h p = in_alone s n u y (put_answer l n u y) (λ i. put_alone l n u y h) p
call_alone l (Take n) s h p = absurd (omega (arith, times_none (same s)))
call_alone l Ask s h p = absurd (omega (arith, times_none (same s)))

list_alone : (l : List ℕ) (cs : List Call) (s : Sample) → length l ≡ tray_size → 0 < times (same s) (all_taken_in l cs) → Alone s
unfolding all_taken_in
list_alone l [] s h p = absurd (omega (arith, times_none (same s)))
list_alone l (c ∷ cs) s h p =
    let both = times_append (same s) (samples_taken_in l c) (all_taken_in (after l c) cs) in
    by_order 0 (times (same s) (samples_taken_in l c)) (call_alone l c s h)
    (λ z. list_alone (after l c) cs s (call_step l c h).size (omega arith))

-- ---- 32

full_only : (l : List ℕ) (n u y : ℕ) → length l ≡ tray_size → put_answer l n u y ≡ Err TrayFull → length (held_in l) ≡ 64
full_only l n u y h e =
    by_order 0 (refusal u y)
    (λ p. let is : Err (Pair (pair.refusal_of (refusal u y))) ≡ Err TrayFull = sym (pair_first l h n u y p).0 ∙ e in impossible cc)
    (λ q.
    let passed : refusal u y ≡ 0 = omega arith in
    by_order 0 (held_as l n)
    (λ p. let is : Err NumberHeld ≡ Err TrayFull = sym (refused_31 l h n u y passed p).0 ∙ e in impossible cc)
    (λ r. by_order (length (held_in l)) places
    (λ some. not_full (answer_of u y) (right u y) passed (sym (put_answered l h n u y passed (omega arith) some).0 ∙ e))
    (λ many. omega (arith, held_most l))))
  where
    not_full : {P : Type 0} (a : Answer) → RightAnswer u y a → refusal u y ≡ 0 → as_put a ≡ Err TrayFull → P
    not_full (Err q) r z d = impossible cc
    not_full (Ok i) r z d = impossible cc

-- ---- the statements

pub every_list : (calls : List Call) → EveryList calls
every_list calls =
    let done = run empty_tray calls empty_size (λ n. omega (arith, none_held (numbered n))) in
    let balanced : (test : Sample → Bool) →
    times test (all_taken_in empty_tray calls) ≡ times test (all_taken_out empty_tray calls) + times test (held_in (after_all empty_tray calls)) =
    λ test. omega (arith, done.balance test, none_held test) in
    record {
      each = λ s. balanced (same s);
      once = λ s.
          omega (arith, done.different s.number, times_fewer (same s) (numbered s.number) (held_in (after_all empty_tray calls)) (same_number s));
      balanced = balanced;
      counted =
          omega (
            arith,
            balanced (λ (s : Sample). true),
            length_times (all_taken_in empty_tray calls),
            length_times (all_taken_out empty_tray calls),
            length_times (held_in (after_all empty_tray calls)),
          );
      most = held_most (after_all empty_tray calls);
      different = done.different;
      alone = λ s p. list_alone empty_tray calls s empty_size (omega (arith, balanced (same s)));
      full = λ n u y e. full_only (after_all empty_tray calls) n u y done.size e;
    }

refused_unchanged : (l : List ℕ) → length l ≡ tray_size → (call : Call) → 0 < call_refusal l call → after l call ≡ l
refused_unchanged l h (Put n u y) p =
    by_order 0 (refusal u y) (λ q. (pair_first l h n u y q).1)
    (λ z.
    let passed : refusal u y ≡ 0 = omega arith in
    by_order 0 (held_as l n) (λ q. (refused_31 l h n u y passed q).1)
    (λ r. by_order (length (held_in l)) places
    (λ some. none_refused (answer_of u y) (right u y) passed (ap refused_by (put_answered l h n u y passed (omega arith) some).0))
    (λ many. (refused_32 l h n u y passed (omega arith) (omega (arith, held_most l))).1)))
  where
    none_refused : {P : Type 0} (a : Answer) → RightAnswer u y a → refusal u y ≡ 0 → refused_by (put_answer l n u y) ≡ refused_by (as_put a) → P
    none_refused (Err q) r z e = not_some (pair.number_of_refusal q) (r.number ∙ z) r.case
    none_refused (Ok i) r z e = absurd (omega (arith, p, e))
refused_unchanged l h (Take n) p =
    by_order 0 (held_as l n)
    (λ q. let is = ap refused_by (take_answered l h n q).0 in absurd (omega arith))
    (λ z. (refused_33 l h n (omega arith)).1)
refused_unchanged l h Ask p = refl

memory_left : (l : List ℕ) → (length l ≡ tray_size → ⊥) → (c : Call) → after l c ≡ l
memory_left l h (Put n u y) = sym (put_5 l n u y h).1
memory_left l h (Take n) = sym (take_5 l n h).1
memory_left l h Ask = refl

-- what was put in is what is taken out: no other sample has its number
that_one : (a b : Bool) → a ≡ true → b ≡ true → one (a && not b) ≡ 0
that_one a b e f = rw (e, f)

another : (a b : Bool) → a ≡ true → b ≡ false → one (a && not b) ≡ 1
another a b e f = rw (e, f)

back_out : (l : List ℕ) (n u y : ℕ) → length l ≡ tray_size → refusal u y ≡ 0 → held_as l n ≡ 0 → length (held_in l) < places
    → take_answer (after l (Put n u y)) n ≡ Ok (sample_with n u y (answer_of u y))
back_out l n u y h passed new few =
    let s : Sample = sample_with n u y (answer_of u y) in
    let m : List ℕ = after l (Put n u y) in
    let size : length m ≡ tray_size = (call_step l (Put n u y) h).size in
    let both = put_answered l h n u y passed new few in
    let more : (test : Sample → Bool) → times test (held_in m) ≡ times test (held_in l) + one (test s) =
    λ test. ap (λ (k : List ℕ). times test (held_in k)) both.1 ∙ one_in l h n u y passed few test in
    let its : numbered n s ≡ true = eq-eqb n n refl in
    let counts : one (numbered n s) ≡ 1 = ap one its in
    let p : 0 < held_as m n = omega (arith, more (numbered n)) in
    let x : Sample = sample_at m (place_of_number m n) in
    let other : Sample → Bool = λ (z : Sample). numbered n z && not (same s z) in
    let none : times other (held_in l) ≤ times (numbered n) (held_in l) =
    times_fewer other (numbered n) (held_in l) (λ z e. (both_pass (numbered n z) (not (same s z)) e).0) in
    let not-s : one (other s) ≡ 0 = that_one (numbered n s) (same s s) its (itself s) in
    let gone : one (other x) ≡ 0 = omega (arith, more other, one_out m size n p other) in
    (take_answered m size n p).0
    ∙ by_test (same s x) (λ e. ap Ok (sym (only s x e)))
    (λ e.
    let its-x : numbered n x ≡ true = eq-eqb x.number n (number_out m size n p) in
    let is : one (other x) ≡ 1 = another (numbered n x) (same s x) its-x e in
    absurd (omega arith))

-- the index that a put gives is the pair's own
own_index : (l : List ℕ) (n u y : ℕ) (a : Answer) → a ≡ answer_of u y → refusal u y ≡ 0 → put_answer l n u y ≡ as_put a → GivesIndex l n u y
own_index l n u y (Err q) e passed given =
    let r : RightAnswer u y (Err q) = subst (RightAnswer u y) (sym e) (right u y) in
    not_some (pair.number_of_refusal q) (r.number ∙ passed) r.case
own_index l n u y (Ok i) e passed given = record { index = i; own = sym e; given = given }

pub question_numbers : QuestionNumbers
question_numbers = record { lent = refl; pair = λ n. refl; held = refl; full = refl; not_held = refl }

pub other_memory : (tray : List ℕ) (other : length tray ≡ 512 → ⊥) → OtherMemory tray other
other_memory l h = record {
  put = λ n u y. sym (put_5 l n u y h).0;
  take = λ n. sym (take_5 l n h).0;
  left = λ c. memory_left l h c;
}

pub every_call : (tray : List ℕ) (lent : length tray ≡ 512) → EveryCall tray lent
every_call l h = record {
  unchanged = refused_unchanged l h;
  pair_first = λ n u y p. (pair_first l h n u y p).0;
  number_held = λ n u y z p. (refused_31 l h n u y z p).0;
  tray_full = λ n u y z k f. (refused_32 l h n u y z k f).0;
  put_in = λ n u y z k f.
      let both = put_answered l h n u y z k f in
      (both.0, λ test. ap (λ (m : List ℕ). times test (held_in m)) both.1 ∙ one_in l h n u y z f test);
  index_given = λ n u y z k f. own_index l n u y (answer_of u y) refl z (put_answered l h n u y z k f).0;
  not_held = λ n z. (refused_33 l h n z).0;
  taken_out = λ n p.
      let both = take_answered l h n p in
      record {
        sample = sample_at l (place_of_number l n);
        given = both.0;
        number_is = number_out l h n p;
        less = λ test. one_out l h n p test ∙ ap (λ (m : List ℕ). times test (held_in m) + one (test (sample_at l (place_of_number l n)))) (sym both.1);
      };
  put_then_take = λ n u y z k f. back_out l n u y h z k f;
}
