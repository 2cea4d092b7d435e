-- Lists of calls, call by call; and what each single call does on any memory.
use Prim.Native.Nat.{ℕ, ◌+◌, ◌*◌, ◌≤◌, ◌<◌}
use mathlib.Core.Path.{◌≡◌, refl, sym, ap, ap₂, ◌∙◌, subst}
use mathlib.Core.Bool.{Bool, true, false}
use mathlib.Core.List.{List, [], ◌∷◌, ◌++◌, map}
use mathlib.Core.Logic.{inl, inr}
use native.Mathlib.Omega.{arith}
use borrow.Author.Tests.{eq-eqb, ne_eqb}
use lib.ListN.{length, get_or, drop, replicate, length-replicate, get_or-replicate, get_or-eq_default, replicate-append-replicate}
use lib.Seq.{take_at, drop_at}
use lib.IntN.{ℤ}
use lib.Signed.{◌≤ℤ◌}
use Rattle.std.specs.Prelude.{Option, Some, None, Result, Ok, Err}
use Rattle.laws.specs.Bits.{span32}
use Rattle.laws.proofs.Order.{by_order}
use Rattle.index.specs.declared.answer.Index.{Index}
use Rattle.index.specs.Answer.{Answer, index_of}
use Rattle.index.specs.Questions.{refusal}
use Rattle.index.specs.ChosenAnswer.{answer_of}
use Rattle.index_summary.specs.declared.Summary.{Summary}
use Rattle.index_summary.specs.Summary as answers
use Rattle.index_summary.specs.Summary.{nothing, joined_of, is_between, without_of, All, SummaryOf}
use Rattle.index_summary.specs.Preconditions.{is_within}
use Rattle.index_summary.proofs.OneLess.{lowest_kept, highest_kept}
use Rattle.summary_block.specs.Block.{block_of, summary_from}
use Rattle.summary_block.proofs.Blocks.{every_block}
use Rattle.tray_places.specs.Samples.{Sample}
use Rattle.tray_places.specs.Places as layout
use Rattle.tray_places.specs.Places.{place_at, held_in}
use Rattle.tray_places.specs.Counts.{one, times, numbered, same}
use Rattle.tray_places.proofs.Found.{held_most, empty_holds}
use Rattle.tray_places.proofs.Same.{itself}
use Rattle.tray.specs.declared.refusal.Refusal.{Refusal}
use Rattle.tray.specs.declared.refusal.Refusal.TheVariants.{NotATray}
use Rattle.tray.specs.Tray as places
use Rattle.tray.specs.State as walk
use Rattle.tray.specs.State.{with_answer, state_after, summary_in}
use Rattle.tray.specs.Calls as before
use Rattle.tray.specs.Calls.{Call, Put, Take, Ask, CallAnswer, ToPut, ToTake, ToAsk, refused_by}
use Rattle.tray.proofs.Questions.{refusal_some}
use Rattle.tray.proofs.EveryList.{length_times, every_list, every_call}
use Rattle.tray.proofs.Steps.{call_step}
use Rattle.tray.proofs.Walk.{StateOf, state_right, held_right}
use Rattle.tray.proofs.OneMore.{Small, put_walked}
use Rattle.summary_tray.specs.SummaryTray.{places_size, tray_size, empty_tray, places_in, kept_in, state_of, walk_of, with_one, without_one, put_answer, tray_after_put, take_answer, tray_after_take}
use Rattle.summary_tray.specs.Calls.{call_refusal, after, after_all, call_answer, answers_to}
use Rattle.summary_tray.specs.KeptSummary.{left, SameExtremes, KeptSummary, NoAnswerMoved, AnyMemory, OtherMemory, Zeros}
use Rattle.summary_tray.proofs.Parts.{length_places, front_small, put_unchanged, take_unchanged, put_5, take_5}
use Rattle.summary_tray.proofs.Kept.{Keeps, kept_state, keeps_equal, state_is, equal_keeps, too_large_walked, not_between_walked, in_keeps, put_as, take_as, out_held, out_walked, out_keeps, call_keeps}

-- ---- the empty tray

empty_parts : layout.empty_tray ++ replicate 9 0 ≡ empty_tray
unfolding empty_tray layout.empty_tray
empty_parts = replicate-append-replicate {A = ℕ} 512 9 0

layout_size : length layout.empty_tray ≡ places_size
unfolding layout.empty_tray
layout_size = length-replicate {A = ℕ} 512 0

empty_places : places_in empty_tray ≡ layout.empty_tray
empty_places = ap places_in (sym empty_parts) ∙ take_at layout.empty_tray (replicate 9 0) places_size layout_size

empty_kept : kept_in empty_tray ≡ nothing
empty_kept = ap kept_in (sym empty_parts) ∙ ap summary_from (drop_at layout.empty_tray (replicate 9 0) places_size layout_size) ∙ every_block.zeros

empty_size : length empty_tray ≡ tray_size
unfolding empty_tray
empty_size = length-replicate {A = ℕ} 521 0

empty_number : (j : ℕ) → get_or layout.empty_tray j 0 ≡ 0
unfolding layout.empty_tray
empty_number j =
    by_order j 512 (get_or-replicate {A = ℕ} 512 j 0 0)
    (λ b. get_or-eq_default (replicate 512 0) 0 {n = j} (omega (arith, length-replicate {A = ℕ} 512 0)))

pub empty_keeps : Keeps empty_tray
unfolding state_after
empty_keeps = record {
  size = empty_size;
  small = λ k. subst (λ (q : List ℕ). (place_at q k).index < span32) (sym empty_places) (omega (arith, empty_number (layout.place_size * k + 4)));
  kept = empty_kept ∙ sym (ap walk_of empty_places ∙ ap (λ (xs : List Sample). summary_in (state_after None xs)) empty_holds);
}

-- ---- a list of calls

list_keeps : (l : List ℕ) (cs : List Call) → Keeps l → Keeps (after_all l cs)
unfolding after_all
list_keeps l [] g = g
list_keeps l (c ∷ cs) g = list_keeps (after l c) cs (call_keeps l c g)

pub left_keeps : (cs : List Call) → Keeps (left cs)
left_keeps cs = list_keeps empty_tray cs empty_keeps

-- ---- the samples of any memory

put_samples : (l : List ℕ) (n u y : ℕ) → length l ≡ tray_size → (r : Result Index Refusal) → put_answer l n u y ≡ r
    → places_in (tray_after_put l n u y) ≡ places.tray_after_put (places_in l) n u y
unfolding tray_after_put
put_samples l n u y h (Err r) e = rw e (sym (put_unchanged (places_in l) n u y (length_places l h) (sym (put_as l h n u y) ∙ e)))
put_samples l n u y h (Ok i) e =
    rw e (take_at (places.tray_after_put (places_in l) n u y) _ places_size (call_step (places_in l) (Put n u y) (length_places l h)).size)

take_samples : (l : List ℕ) (n : ℕ) → length l ≡ tray_size → (r : Result Sample Refusal) → take_answer l n ≡ r
    → places_in (tray_after_take l n) ≡ places.tray_after_take (places_in l) n
unfolding tray_after_take
take_samples l n h (Err r) e = rw e (sym (take_unchanged (places_in l) n (length_places l h) (sym (take_as l h n) ∙ e)))
take_samples l n h (Ok s) e =
    rw e (take_at (places.tray_after_take (places_in l) n) _ places_size (call_step (places_in l) (Take n) (length_places l h)).size)

pub samples_after : (l : List ℕ) (c : Call) → length l ≡ tray_size → places_in (after l c) ≡ before.after (places_in l) c
samples_after l (Put n u y) h = put_samples l n u y h (put_answer l n u y) refl
samples_after l (Take n) h = take_samples l n h (take_answer l n) refl
samples_after l Ask h = refl

-- ---- the answers

call_same : (l : List ℕ) (c : Call) → Keeps l → call_answer l c ≡ before.call_answer (places_in l) c
call_same l (Put n u y) g = ap ToPut (put_as l g.size n u y)
call_same l (Take n) g = ap ToTake (take_as l g.size n)
call_same l Ask g = ap ToAsk (keeps_equal l g)

answers_same : (l : List ℕ) (cs : List Call) → Keeps l → answers_to l cs ≡ before.answers_to (places_in l) cs
unfolding answers_to before.answers_to
answers_same l [] g = refl
answers_same l (c ∷ cs) g =
    ap₂ (λ (x : CallAnswer) (xs : List CallAnswer). x ∷ xs) (call_same l c g)
    (answers_same (after l c) cs (call_keeps l c g) ∙ ap (λ (q : List ℕ). before.answers_to q cs) (samples_after l c g.size))

samples_same : (l : List ℕ) (cs : List Call) → Keeps l → places_in (after_all l cs) ≡ before.after_all (places_in l) cs
unfolding after_all before.after_all
samples_same l [] g = refl
samples_same l (c ∷ cs) g =
    samples_same (after l c) cs (call_keeps l c g) ∙ ap (λ (q : List ℕ). before.after_all q cs) (samples_after l c g.size)

pub no_answer_moved : (calls : List Call) → NoAnswerMoved calls
no_answer_moved calls = record {
  answers = answers_same empty_tray calls empty_keeps ∙ ap (λ (q : List ℕ). before.answers_to q calls) empty_places;
  samples = samples_same empty_tray calls empty_keeps ∙ ap (λ (q : List ℕ). before.after_all q calls) empty_places;
}

-- ---- refused calls

put_left : (l : List ℕ) (n u y : ℕ) (r : Result Index Refusal) → put_answer l n u y ≡ r → 0 < refused_by r → tray_after_put l n u y ≡ l
unfolding tray_after_put
put_left l n u y (Err r) e p = rw e
put_left l n u y (Ok i) e p = absurd (omega arith)

take_left : (l : List ℕ) (n : ℕ) (r : Result Sample Refusal) → take_answer l n ≡ r → 0 < refused_by r → tray_after_take l n ≡ l
unfolding tray_after_take
take_left l n (Err r) e p = rw e
take_left l n (Ok s) e p = absurd (omega arith)

pub refused_left : (l : List ℕ) (c : Call) → 0 < call_refusal l c → after l c ≡ l
refused_left l (Put n u y) p = put_left l n u y (put_answer l n u y) refl p
refused_left l (Take n) p = take_left l n (take_answer l n) refl p
refused_left l Ask p = refl

-- ---- any memory

numbers_small : (l : List ℕ) → length l ≡ tray_size → ((j : ℕ) → get_or l j 0 < span32) → Small (places_in l)
numbers_small l h f k = front_small l h f (layout.place_size * k + 4)

-- where the kept numbers are too large
put_too_large : (l : List ℕ) (n u y : ℕ) → length l ≡ tray_size → Small (places_in l) → is_within (kept_in l) ≡ false
    → (r : Result Index Refusal) → put_answer l n u y ≡ r → refused_by r ≡ 0 → Keeps (tray_after_put l n u y)
put_too_large l n u y h f large (Err r) e z = absurd (omega (arith, refusal_some r))
put_too_large l n u y h f large (Ok i) e z =
    in_keeps l n u y h f e (too_large_walked (kept_in l) (answer_of u y) (places.tray_after_put (places_in l) n u y) large).0

-- the kept numbers after a call that is answered are those of the summary that is kept then
put_kept : (l : List ℕ) (n u y : ℕ) {i : Index} → length l ≡ tray_size → put_answer l n u y ≡ Ok i
    → drop 512 (tray_after_put l n u y) ≡ block_of (with_one (kept_in l) (Ok i) (places.tray_after_put (places_in l) n u y))
unfolding tray_after_put
put_kept l n u y h e =
    rw e (drop_at (places.tray_after_put (places_in l) n u y) _ places_size (call_step (places_in l) (Put n u y) (length_places l h)).size)

take_kept : (l : List ℕ) (n : ℕ) {s : Sample} → length l ≡ tray_size → take_answer l n ≡ Ok s
    → drop 512 (tray_after_take l n) ≡ block_of (without_one (kept_in l) s.answer (places.tray_after_take (places_in l) n))
unfolding tray_after_take
take_kept l n h e =
    rw e (drop_at (places.tray_after_take (places_in l) n) _ places_size (call_step (places_in l) (Take n) (length_places l h)).size)

joined_kept : (kept : Summary) (a : Answer) (p : List ℕ) → is_within kept ≡ true → with_one kept a p ≡ joined_of kept a
unfolding with_one
joined_kept kept a p h = rw h

without_kept : (kept : Summary) (a : Answer) (p : List ℕ) → is_within kept ≡ true → is_between kept a ≡ true → without_one kept a p ≡ without_of kept a
unfolding without_one
without_kept kept a p h b = rw (h, b)

pub any_memory : (tray : List ℕ) (lent : length tray ≡ 521) → AnyMemory tray lent
any_memory l h = record {
  put = put_as l h;
  take = take_as l h;
  samples = λ c. samples_after l c h;
  unchanged = refused_left l;
  from_kept_alone = λ other size e. kept_state other size ∙ ap (λ (block : List ℕ). Ok (walk.state_with (summary_from block))) e ∙ sym (kept_state l h);
  added = λ w n u y {index} e. put_kept l n u y h e ∙ ap block_of (joined_kept (kept_in l) (Ok index) (places.tray_after_put (places_in l) n u y) w);
  taken_off = λ w n {s} e b. take_kept l n h e ∙ ap block_of (without_kept (kept_in l) s.answer (places.tray_after_take (places_in l) n) w b);
  stays_right = λ f e c. keeps_equal (after l c) (call_keeps l c (equal_keeps l h (numbers_small l h f) e));
  right_again = λ f n {s} o e.
      keeps_equal (after l (Take n))
      (out_keeps l n h o (numbers_small l h f) (not_between_walked (kept_in l) s.answer (places.tray_after_take (places_in l) n) e));
  too_large_put = λ f e n u y z.
      keeps_equal (after l (Put n u y))
      (put_too_large l n u y h (numbers_small l h f) e (put_answer l n u y) refl z);
  too_large_take = λ f e n {s} o.
      keeps_equal (after l (Take n))
      (out_keeps l n h o (numbers_small l h f) (too_large_walked (kept_in l) s.answer (places.tray_after_take (places_in l) n) e).1);
}

pub state_5 : (l : List ℕ) → (length l ≡ tray_size → ⊥) → state_of l ≡ Err NotATray
unfolding state_of
state_5 l h = rw (ne_eqb (length l) tray_size h)

memory_left : (l : List ℕ) → (length l ≡ tray_size → ⊥) → (c : Call) → after l c ≡ l
memory_left l h (Put n u y) = sym (put_5 l n h u y).1
memory_left l h (Take n) = sym (take_5 l n h).1
memory_left l h Ask = refl

pub other_memory : (tray : List ℕ) (other : length tray ≡ 521 → ⊥) → OtherMemory tray other
other_memory l h = record {
  put = λ n u y. sym (put_5 l n h u y).0;
  take = λ n. sym (take_5 l n h).0;
  asked = state_5 l h;
  left_alone = memory_left l h;
}

-- ---- every list of calls

-- the state is that of the samples held
held_state : (l : List ℕ) → Keeps l → state_of l ≡ Ok (state_after None (held_in (places_in l)))
unfolding walk.state_of
held_state l g = keeps_equal l g ∙ rw (eq-eqb (length (places_in l)) places_size (length_places l g.size))

after_none : {xs : List Sample} → xs ≡ [] → state_after None xs ≡ None
unfolding state_after
after_none e = rw e

none_says_so : (l : List ℕ) → Keeps l → held_in (places_in l) ≡ [] → state_of l ≡ Ok None
none_says_so l g e = held_state l g ∙ ap Ok (after_none e)

held_is : {x t : Summary} → Some x ≡ Some t → x ≡ t
held_is e = cc

sample_is : {x s : Sample} → ◌≡◌ {A = Result Sample Refusal} (Ok x) (Ok s) → x ≡ s
sample_is e = cc

no_samples : (xs : List Sample) → length xs ≡ 0 → xs ≡ []
no_samples [] h = refl
no_samples (x ∷ xs) h = absurd (omega arith)

-- an index that is among others is neither below their lowest nor above their highest
among : (P : Answer → Type 0) {Q : Type 0} (xs : List Answer) {i : ℤ} → All P xs → answers.Some (λ a. index_of a ≡ i) xs → ((x : Answer) → P x → index_of x ≡ i → Q) → Q
among P [] a e f = absurd e
among P (x ∷ xs) a (inl e) f = f x a.0 e
among P (x ∷ xs) a (inr e) f = among P xs a.1 e f

extremes_joined : (xs : List Answer) (r : Summary) (a : Answer) → SummaryOf xs r → answers.Some (λ x. index_of x ≡ index_of a) xs
    → ((joined_of r a).lowest ≡ r.lowest) × ((joined_of r a).highest ≡ r.highest)
unfolding joined_of
extremes_joined xs r a is e = (
  lowest_kept r.lowest (index_of a) (among (λ x. r.lowest ≤ℤ index_of x) xs is.lowest_least e (λ x p i. subst (λ (z : ℤ). r.lowest ≤ℤ z) i p)),
  highest_kept r.highest (index_of a) (among (λ x. index_of x ≤ℤ r.highest) xs is.highest_most e (λ x p i. subst (λ (z : ℤ). z ≤ℤ r.highest) i p)),
)

extremes : (xs : List Sample) (st : Option Summary) (a : Answer) {t : Summary} {now : Result (Option Summary) Refusal} → StateOf xs st
    → answers.Some (λ x. index_of x ≡ index_of a) (map (λ (s : Sample). s.answer) xs) → Some t ≡ with_answer st a → now ≡ Ok st → SameExtremes t now
extremes xs None a is e b n = absurd (rw is at e)
extremes xs (Some r) a {t} is e b n =
    let both = extremes_joined (map (λ (s : Sample). s.answer) xs) r a is e in
    let t-is : t ≡ joined_of r a = held_is b in
    record {
      summary = r;
      holding = n;
      lowest = sym (ap (λ (x : Summary). x.lowest) t-is ∙ both.0);
      highest = sym (ap (λ (x : Summary). x.highest) t-is ∙ both.1);
    }

module _ (l : List ℕ) (g : Keeps l) (n : ℕ) {s : Sample} (o : take_answer l n ≡ Ok s) where
  abbrev q : List ℕ
  q = places_in l

  abbrev rest : List ℕ
  rest = places.tray_after_take q n

  out_rest : places_in (after l (Take n)) ≡ rest
  out_rest = samples_after l (Take n) g.size

  -- one sample less
  less : (test : Sample → Bool) → times test (held_in q) ≡ times test (held_in rest) + one (test s)
  less test =
      let size = length_places l g.size in
      let out = (every_call q size).taken_out n (out_held l n g.size o) in
      let same : out.sample ≡ s = sample_is (sym out.given ∙ sym (take_as l g.size n) ∙ o) in
      out.less test ∙ ap (λ (x : Sample). times test (held_in rest) + one (test x)) same

  number_is : s.number ≡ n
  number_is =
      let size = length_places l g.size in
      let out = (every_call q size).taken_out n (out_held l n g.size o) in
      ap (λ (x : Sample). x.number) (sym (sample_is (sym out.given ∙ sym (take_as l g.size n) ∙ o))) ∙ out.number_is

  held_once : 0 < times (same s) (held_in q)
  held_once = let its : one (same s s) ≡ 1 = ap one (itself s) in omega (arith, less (same s))

  one_fewer : length (held_in q) ≡ length (held_in rest) + 1
  one_fewer = omega (arith, less (λ (x : Sample). true), length_times (held_in q), length_times (held_in rest))

  last_out : length (held_in q) ≡ 1 → state_of (after l (Take n)) ≡ Ok None
  last_out e =
      none_says_so (after l (Take n)) (call_keeps l (Take n) g) (ap held_in out_rest ∙ no_samples (held_in rest) (omega (arith, one_fewer)))

  -- another sample with the same index is left
  same_extremes : {t : Summary} → state_of l ≡ Ok (Some t) → answers.Some (λ a. index_of a ≡ index_of s.answer) (walk.answers_in (places_in (after l (Take n))))
      → SameExtremes t (state_of (after l (Take n)))
  same_extremes {t} e other =
      let g' = call_keeps l (Take n) g in
      let m = after l (Take n) in
      let before-is : Some t ≡ with_answer (state_after None (held_in rest)) s.answer =
      state_is (sym e ∙ held_state l g) ∙ out_walked l n g.size o g.small in
      let after_is : state_of m ≡ Ok (state_after None (held_in rest)) = held_state m g' ∙ ap (λ (p : List ℕ). Ok (state_after None (held_in p))) out_rest in
      let others : answers.Some (λ a. index_of a ≡ index_of s.answer) (walk.answers_in rest) =
      subst (λ (p : List ℕ). answers.Some (λ a. index_of a ≡ index_of s.answer) (walk.answers_in p)) out_rest other in
      extremes (held_in rest) (state_after None (held_in rest)) s.answer (held_right rest) others before-is after_is

  -- put in again: its pair's answer is the one that was held, its number is free, and so is a place
  back_in : (refusal s.u s.y ≡ 0) → s.answer ≡ answer_of s.u s.y → times (numbered n) (held_in q) ≤ 1
      → state_of (after (after l (Take n)) (Put n s.u s.y)) ≡ state_of l
  back_in passed own once =
      let size = length_places l g.size in
      let step = call_step q (Take n) size in
      let g' = call_keeps l (Take n) g in
      let held = out_held l n g.size o in
      let its : one (numbered n s) ≡ 1 = ap one (eq-eqb s.number n (number_is)) in
      let new : places.held_as rest n ≡ 0 = omega (arith, less (numbered n)) in
      let few : length (held_in rest) < 64 = omega (arith, one_fewer, held_most q) in
      let m = after (after l (Take n)) (Put n s.u s.y) in
      let there : places_in m ≡ places.tray_after_put rest n s.u s.y =
      samples_after (after l (Take n)) (Put n s.u s.y) g'.size ∙ ap (λ (p : List ℕ). places.tray_after_put p n s.u s.y) out_rest in
      held_state m (call_keeps (after l (Take n)) (Put n s.u s.y) g')
      ∙ ap Ok
      (ap (λ (p : List ℕ). state_after None (held_in p)) there
      ∙ put_walked rest step.size (subst Small out_rest g'.small) n s.u s.y passed new few
      ∙ ap (with_answer (state_after None (held_in rest))) (sym own)
      ∙ sym (out_walked l n g.size o g.small))
      ∙ sym (held_state l g)

pub kept_summary : (calls : List Call) → KeptSummary calls
kept_summary calls =
    let g = left_keeps calls in
    let l = left calls in
    let samples = (no_answer_moved calls).samples in
    let known = every_list calls in
    record {
      equal = keeps_equal l g;
      next = λ c. keeps_equal (after l c) (call_keeps l c g);
      right = subst (walk.RightState (places_in l)) (sym (keeps_equal l g)) (state_right (places_in l));
      same_index = λ n {s} {t} o e other. same_extremes l g n o e other;
      none_held = none_says_so l g;
      last_leaves = λ n o e. last_out l g n o e;
      put_back = λ n {s} o.
          let own = known.alone s (subst (λ (p : List ℕ). 0 < times (same s) (held_in p)) samples (held_once l g n o)) in
          back_in l g n o own.0 own.1 (subst (λ (p : List ℕ). times (numbered n) (held_in p) ≤ 1) (sym samples) (known.different n));
    }

pub zeros : Zeros
zeros = record { size = empty_size; places_too = empty_places; says_so = none_says_so empty_tray empty_keeps (ap held_in empty_places ∙ empty_holds) }
