-- The walk over the places of a tray: it is the walk over the samples held, its numbers fit, and what it gives is right.
use Prim.Native.Nat.{ℕ, zero, suc, ◌+◌, ◌≤◌, ◌<◌}
use mathlib.Core.Path.{◌≡◌, refl, sym, ap, ◌∙◌, subst}
use mathlib.Core.Bool.{Bool, true, false}
use mathlib.Core.List.{List, [], ◌∷◌, ◌++◌, map, map-append, append_assoc, append-nil}
use native.Mathlib.Numerals.{add-one}
use native.Mathlib.Omega.{arith}
use borrow.Author.Tests.{eqb-true, eqb-false, eq-eqb, ne_eqb, lt-ltb, le-ltb}
use lib.Dec.{eqb}
use lib.ListN.{length, length-append, get_or}
use lib.Signed.{mag}
use Rattle.std.specs.Prelude.{Option, Some, None, Ok}
use Rattle.laws.specs.Bits.{half32, span32}
use Rattle.laws.proofs.Order.{by_test, by_order}
use Rattle.index.specs.Answer.{Answer, method_of, index_of}
use Rattle.index_summary.specs.declared.Summary.{Summary}
use Rattle.index_summary.specs.Summary.{one, joined_of, count_of, SummaryOf}
use Rattle.index_summary.specs.Preconditions.{Within}
use Rattle.index_summary.proofs.Fits.{joined_within, nothing_within, within_more}
use Rattle.index_summary.proofs.Right.{count_last, alone_right, joined_nothing, joined_right}
use Rattle.answer_record.specs.Bytes.{signed_of}
use Rattle.tray_places.specs.declared.samples.Place.{Place}
use Rattle.tray_places.specs.Samples.{Sample, answer_from, sample_of}
use Rattle.tray_places.specs.Places.{places, tray_size, places_in, is_held, sample_at, among, held_in}
use Rattle.tray_places.proofs.Searches.{place_is, free_is}
use Rattle.tray_places.proofs.Held.{among_zero, next_free, next_held}
use Rattle.tray.specs.Tray.{is_tray}
use Rattle.tray.specs.State.{with_answer, state_after, state_of, RightState, summary_in, with_place, state_with}

-- ---- one place more

after_append : (st : Option Summary) (xs ys : List Sample) → state_after st (xs ++ ys) ≡ state_after (state_after st xs) ys
unfolding state_after
after_append st [] ys = refl
after_append st (x ∷ xs) ys = after_append (with_answer st x.answer) xs ys

after_none : (st : Option Summary) → state_after st [] ≡ st
unfolding state_after
after_none st = refl

after_one : (st : Option Summary) (s : Sample) → state_after st (s ∷ []) ≡ with_answer st s.answer
unfolding state_after
after_one st s = refl

module _ (h : ℕ → Bool) (s : ℕ → Sample) where
  abbrev pub walked : ℕ → Option Summary
  walked n = state_after None (among h s n)

  pub walk_zero : None ≡ walked 0
  walk_zero = sym (ap (state_after None) (among_zero h s) ∙ after_none None)

  pub walk_free : (n : ℕ) → h n ≡ false → walked (suc n) ≡ walked n
  walk_free n e = ap (state_after None) (next_free h s n e) ∙ after_append None (among h s n) [] ∙ after_none (walked n)

  pub walk_held : (n : ℕ) → h n ≡ true → walked (suc n) ≡ with_answer (walked n) (s n).answer
  walk_held n e = ap (state_after None) (next_held h s n e) ∙ after_append None (among h s n) (s n ∷ []) ∙ after_one (walked n) (s n)

-- ---- the index of a sample that is held, whatever the numbers of its place are

signed_small : (x : ℕ) → x < span32 → mag (signed_of x) < span32
signed_small x h = by_order x half32 (λ l. rw (lt-ltb x half32 l) h) (λ l. rw (le-ltb x half32 l) (omega arith))

pub answer_small : (method index lower upper : ℕ) → index < span32 → mag (index_of (answer_from method index lower upper)) < span32
unfolding answer_from
answer_small method index lower upper h =
    by_test (eqb method 1) (λ e. rw e (signed_small index h)) (λ e. rw e h)

pub index_small : (l : List ℕ) → ((j : ℕ) → get_or l j 0 < span32) → (k : ℕ) → mag (index_of (sample_at l k).answer) < span32
index_small l f k = answer_small _ _ _ _ (f _)

-- ---- what it gives is right

abbrev answers : List Sample → List Answer
answers xs = map (λ (s : Sample). s.answer) xs

-- of a list of samples
abbrev pub StateOf : List Sample → Option Summary → Type 0
StateOf xs None = xs ≡ []
StateOf xs (Some t) = SummaryOf (answers xs) t

answers_last : (xs : List Sample) (s : Sample) → answers xs ++ (s.answer ∷ []) ≡ answers (xs ++ (s ∷ []))
answers_last xs s = sym (map-append (λ (x : Sample). x.answer) xs (s ∷ []))

with_right : (xs : List Sample) (st : Option Summary) (s : Sample) → StateOf xs st → StateOf (xs ++ (s ∷ [])) (with_answer st s.answer)
with_right xs None s h = rw h (alone_right s.answer)
with_right xs (Some t) s h =
    subst (λ (xs : List Answer). SummaryOf xs (joined_of t s.answer)) (answers_last xs s) (joined_right (answers xs) t s.answer h)

after_right : (xs ys : List Sample) (st : Option Summary) → StateOf xs st → StateOf (xs ++ ys) (state_after st ys)
unfolding state_after
after_right xs [] st h = rw (append-nil xs) h
after_right xs (y ∷ ys) st h =
    subst (λ (zs : List Sample). StateOf zs (state_after (with_answer st y.answer) ys)) (append_assoc xs (y ∷ []) ys)
    (after_right (xs ++ (y ∷ [])) ys (with_answer st y.answer) (with_right xs st y h))

-- the counts of the places passed are of all that is held there
each_counted : (method index lower upper : ℕ) → let m = method_of (answer_from method index lower upper) in one m 1 + one m 2 + one m 3 ≡ 1
unfolding answer_from
each_counted method index lower upper =
    by_test (eqb method 1) (λ e. rw e) (λ e. by_test (eqb method 2) (λ f. rw (e, f)) (λ f. rw (e, f)))

abbrev Counted : List Sample → Type 0
Counted xs = count_of 1 (answers xs) + count_of 2 (answers xs) + count_of 3 (answers xs) ≡ length xs

none_counted : Counted []
unfolding count_of
none_counted = refl

counted_last : (xs : List Sample) (s : Sample) → let m = method_of s.answer in one m 1 + one m 2 + one m 3 ≡ 1 → Counted xs → Counted (xs ++ (s ∷ []))
counted_last xs s h c =
    let last : (method : ℕ) → count_of method (answers (xs ++ (s ∷ []))) ≡ count_of method (answers xs) + one (method_of s.answer) method =
    λ method. ap (count_of method) (sym (answers_last xs s)) ∙ count_last method (answers xs) s.answer in
    omega (arith, last 1, last 2, last 3, length-append xs (s ∷ []))

places_counted : (l : List ℕ) (n : ℕ) → Counted (among (is_held l) (sample_at l) n)
places_counted l zero = subst Counted (sym (among_zero (is_held l) (sample_at l))) none_counted
places_counted l (suc n) =
    by_test (is_held l n)
    (λ e.
    subst Counted (sym (next_held (is_held l) (sample_at l) n e))
    (counted_last (among (is_held l) (sample_at l) n) (sample_at l n) (each_counted _ _ _ _) (places_counted l n)))
    (λ e. subst Counted (sym (next_free (is_held l) (sample_at l) n e ∙ append-nil (among (is_held l) (sample_at l) n))) (places_counted l n))

held_counted : (l : List ℕ) → Counted (held_in l)
unfolding held_in
held_counted l = places_counted l places

right_of : (l : List ℕ) (st : Option Summary) → length l ≡ tray_size → StateOf (held_in l) st → RightState l (Ok st)
right_of l None h r = (h, r)
right_of l (Some t) h r = (h, r, omega (arith, r.a_is, r.settled_is, r.near_is, held_counted l))

-- ---- the summary that the code holds

places_right : (l : List ℕ) (n : ℕ) → StateOf (among (is_held l) (sample_at l) n) (walked (is_held l) (sample_at l) n)
places_right l n = after_right [] (among (is_held l) (sample_at l) n) None refl

-- one answer more
pub joined_in : (xs : List Sample) (st : Option Summary) (x : Answer) → StateOf xs st → mag (index_of x) < span32 → joined_of (summary_in st) x ≡ summary_in (with_answer st x)
joined_in xs None x r h = joined_nothing x h
joined_in xs (Some t) x r h = refl

module _ (l : List ℕ) (small : (k : ℕ) → mag (index_of (sample_at l k).answer) < span32) where
  abbrev passed : ℕ → Summary
  passed n = summary_in (walked (is_held l) (sample_at l) n)

  passed_held : (n : ℕ) → is_held l n ≡ true → passed (suc n) ≡ joined_of (passed n) (sample_at l n).answer
  passed_held n e =
      ap summary_in (walk_held (is_held l) (sample_at l) n e)
      ∙ sym (joined_in (among (is_held l) (sample_at l) n) (walked (is_held l) (sample_at l) n) (sample_at l n).answer (places_right l n) (small n))

  passed_free : (n : ℕ) → is_held l n ≡ false → passed (suc n) ≡ passed n
  passed_free n e = ap summary_in (walk_free (is_held l) (sample_at l) n e)

  pub walk_next : (n : ℕ) → with_place l n (passed n) ≡ passed (n + 1)
  walk_next n =
      rw (add-one n) (by_test (is_held l n) (λ e. rw e (sym (passed_held n e))) (λ e. rw e (sym (passed_free n e))))

  -- place i, by its own numbers
  pub walk_place : (n : ℕ) (d : List ℕ) {t u : Summary} → n < places → t ≡ passed n → u ≡ with_place (get_or (places_in l) n d) 0 t → u ≡ passed (n + 1)
  walk_place n d h e f =
      let free = free_is l n d h in
      let answer = ap (λ (p : Place). (sample_of p).answer) (place_is l n d h) in
      rw (e, free, answer) at f ∙ walk_next n

  -- its numbers fit
  walk_within : (n : ℕ) → Within n (passed n)
  walk_within zero = subst (Within 0) (ap summary_in (walk_zero (is_held l) (sample_at l))) nothing_within
  walk_within (suc n) =
      by_test (is_held l n)
      (λ e. subst (Within (suc n)) (sym (passed_held n e)) (joined_within n (sample_at l n).answer (small n) (passed n) (walk_within n)))
      (λ e. subst (Within (suc n)) (sym (passed_free n e)) (within_more n (suc n) (passed n) (omega arith) (walk_within n)))

  pub walk_fits : (n m : ℕ) → n ≤ m → Within m (passed n)
  walk_fits n m h = within_more n m (passed n) h (walk_within n)

-- the state is told from it: where something is held, something is counted
some_counted : (xs : List Sample) (t : Summary) → SummaryOf (answers xs) t → 0 < length xs
some_counted [] t r = absurd r.lowest_held
some_counted (x ∷ xs) t r = omega arith

told : (xs : List Sample) (st : Option Summary) → StateOf xs st → Counted xs → state_with (summary_in st) ≡ st
unfolding state_with
told xs None r c = refl
told xs (Some t) r c =
    let some : 0 < t.a + t.settled + t.near = omega (arith, r.a_is, r.settled_is, r.near_is, some_counted xs t r) in
    by_order 0 t.a (λ p. rw (ne_eqb t.a 0 (λ (z : t.a ≡ 0). omega arith)))
    (λ p. by_order 0 t.settled
    (λ q. rw (eq-eqb t.a 0 (omega arith), ne_eqb t.settled 0 (λ (z : t.settled ≡ 0). omega arith)))
    (λ q.
    rw (eq-eqb t.a 0 (omega arith), eq-eqb t.settled 0 (omega arith), ne_eqb t.near 0 (λ (z : t.near ≡ 0). omega arith))))

-- ---- of a tray

pub held_right : (l : List ℕ) → StateOf (held_in l) (state_after None (held_in l))
held_right l = after_right [] (held_in l) None refl

pub walk_told : (l : List ℕ) {t : Summary} {st : Option Summary} → t ≡ summary_in (state_after None (held_in l)) → st ≡ state_with t → st ≡ state_after None (held_in l)
walk_told l e f = f ∙ ap state_with e ∙ told (held_in l) (state_after None (held_in l)) (held_right l) (held_counted l)

pub walk_right : (l : List ℕ) {st : Option Summary} → length l ≡ tray_size → st ≡ state_after None (held_in l) → RightState l (Ok st)
walk_right l {st} h e = right_of l st h (subst (StateOf (held_in l)) (sym e) (held_right l))

pub state_right : (l : List ℕ) → RightState l (state_of l)
unfolding state_of
state_right l =
    by_test (is_tray l) (λ e. rw e (walk_right l (eqb-true (length l) tray_size e) refl)) (λ e. rw e (refl, eqb-false (length l) tray_size e))
