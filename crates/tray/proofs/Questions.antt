-- The questions to a call, and what it answers and leaves by the number that they give.
use Prim.Native.Nat.{ℕ, ◌*◌, ◌≤◌, ◌<◌}
use mathlib.Core.Path.{◌≡◌, refl, sym, ap, ◌∙◌}
use mathlib.Core.Bool.{Bool, false, cond}
use mathlib.Core.List.{List}
use native.Mathlib.Omega.{arith}
use native.Mathlib.Nat.{le_of_eq}
use borrow.Author.Tests.{lt-ltb, le-ltb, lt-leb, le-leb, eq-eqb, ne_eqb}
use lib.Dec.{eqb, ltb, leb}
use lib.ListN.{length}
use Rattle.std.specs.Prelude.{Result, Ok, Err, IsErrAnd}
use Rattle.std.specs.Result.{result_and}
use Rattle.laws.specs.Questions.{ask}
use Rattle.laws.proofs.Order.{by_order}
use Rattle.reference.specs.declared.refusal.Refusal.TheVariants.{ThinAt100, ThickAt100, ThickAt40, NotThicker}
use Rattle.reference.specs.declared.refusal.Refusal as of_pair
use Rattle.reference.specs.Refusal as pair
use Rattle.reference.proofs.Refusals.{numbered_refusals}
use Rattle.index.specs.declared.answer.Index.{Index}
use Rattle.index.specs.Questions.{refusal}
use Rattle.index.specs.Answer.{Answer, RightAnswer}
use Rattle.index.specs.ChosenAnswer.{answer_of}
use Rattle.index.proofs.QuestionOrder.{number_most}
use Rattle.answer_record.specs.Bytes.{stored}
use Rattle.tray_places.specs.declared.samples.Place.{Place}
use Rattle.tray_places.specs.Places.{places, place_size, tray_size, numbers_of, freed, sample_at, place_of_number, free_place, held_in}
use Rattle.tray_places.specs.Samples.{Sample, place_of}
use Rattle.tray_places.proofs.Found.{some_free, none_free, number_held, number_not_held}
use Rattle.tray.specs.declared.refusal.Refusal.{Refusal}
use Rattle.tray.specs.declared.refusal.Refusal.TheVariants.{NotATray, Pair, NumberHeld, TrayFull, NumberNotHeld}
use Rattle.tray.specs.Tray.{not_a_tray, held_refusal, full_refusal, not_held_refusal, number_of_refusal, refusal_of, or_else, answered, held_as, sample_with, tray_with, as_put, hold_refusal, tray_holding, hold_answer, Told, HoldAnswer, tray_holding_unless, told_by_number, number_said, HeldByNumber, put_refusal, put_answer, tray_after_put, take_refusal, take_answer, tray_after_take}

some : (k : ℕ) → 0 < k → eqb k 0 ≡ false
some k p = ne_eqb k 0 (λ (z : k ≡ 0). omega arith)

-- ---- a refusal and its number

-- a refusal has a number above 0
pair_some : (q : of_pair.Refusal) → 0 < pair.number_of_refusal q
pair_some ThinAt100 = omega arith
pair_some ThickAt100 = omega arith
pair_some ThickAt40 = omega arith
pair_some NotThicker = omega arith

pub refusal_some : (r : Refusal) → 0 < number_of_refusal r
refusal_some NotATray = omega arith
refusal_some (Pair q) = pair_some q
refusal_some NumberHeld = omega arith
refusal_some TrayFull = omega arith
refusal_some NumberNotHeld = omega arith

-- the number of one of the pair's own questions is its own
own_question : (q : of_pair.Refusal) → refusal_of (pair.number_of_refusal q) ≡ Pair q
own_question ThinAt100 = refl
own_question ThickAt100 = refl
own_question ThickAt40 = refl
own_question NotThicker = refl

pub own_number : (n : ℕ) → 0 < n → n ≤ 4 → refusal_of n ≡ Pair (pair.refusal_of n)
own_number n low high =
    let back : pair.number_of_refusal (pair.refusal_of n) ≡ n = numbered_refusals.of_number n low high in
    ap refusal_of (sym back) ∙ own_question (pair.refusal_of n)

-- what an answer says of the number
pub answered_err : {X : Type 0} (n : ℕ) (x : X) {r : Refusal} → Err r ≡ answered n x → (r ≡ refusal_of n) × (0 < n)
answered_err {X} n x {r} e =
    by_order 0 n
    (λ p. let is : ◌≡◌ {A = Result X Refusal} (Err r) (Err (refusal_of n)) = rw (some n p) at e in let same : r ≡ refusal_of n = cc in (same, p))
    (λ z. let is : ◌≡◌ {A = Result X Refusal} (Err r) (Ok x) = rw (eq-eqb n 0 (omega arith)) at e in absurd cc)

pub answered_ok : {X : Type 0} (n : ℕ) (x : X) {y : X} → Ok y ≡ answered n x → n ≡ 0
answered_ok {X} n x {y} e =
    by_order 0 n
    (λ p. let is : ◌≡◌ {A = Result X Refusal} (Ok y) (Err (refusal_of n)) = rw (some n p) at e in absurd cc)
    (λ z. omega arith)

-- where a refusal is told as it is, what is answered behind a pair that passes is what the questions answer
pub told_as_it_is : (held result : Result (Unit {0}) Refusal) → Told (λ x r. r ≡ x) held result → result ≡ held
told_as_it_is (Err r) (Err x) t = ap Err t
told_as_it_is (Err r) (Ok done) t = absurd t
told_as_it_is (Ok done) result t = t

-- what the pair's own questions said by its answer
abbrev pub said : Answer → Result (Unit {0}) Refusal
said a = result_and (as_put a) (Ok tt)

module _ (l : List ℕ) (n : ℕ) where
  -- ---- the questions to a pair of that number
  abbrev by_31 : Bool → ℕ
  by_31 new = ask new held_refusal (ask (ltb (length (held_in l)) places) full_refusal 0)

  pub no_pair : (k : ℕ) → 0 < k → hold_refusal l n k ≡ k
  unfolding hold_refusal
  no_pair k p = ap (λ (b : Bool). cond b (by_31 (eqb (held_as l n) 0)) k) (some k p)

  pub no_31 : 0 < held_as l n → hold_refusal l n 0 ≡ held_refusal
  unfolding hold_refusal
  no_31 h = ap by_31 (some (held_as l n) h)

  pub no_32 : held_as l n ≡ 0 → places ≤ length (held_in l) → hold_refusal l n 0 ≡ full_refusal
  unfolding hold_refusal
  no_32 h k = ap by_31 (eq-eqb (held_as l n) 0 h) ∙ ap (λ (b : Bool). ask b full_refusal 0) (le-ltb (length (held_in l)) places k)

  pub room : held_as l n ≡ 0 → length (held_in l) < places → hold_refusal l n 0 ≡ 0
  unfolding hold_refusal
  room h k = ap by_31 (eq-eqb (held_as l n) 0 h) ∙ ap (λ (b : Bool). ask b full_refusal 0) (lt-ltb (length (held_in l)) places k)

  -- by places, as the code asks: the place where the number is held, and the first free one
  abbrev first_no : ℕ → ℕ → ℕ → ℕ
  first_no k at free = or_else k (ask (leb places at) held_refusal (ask (ltb free places) full_refusal 0))

  is_new : eqb (held_as l n) 0 ≡ leb places (place_of_number l n)
  is_new =
      by_order (place_of_number l n) places
      (λ h. some (held_as l n) (number_held l n h) ∙ sym (lt-leb places (place_of_number l n) h))
      (λ h. eq-eqb (held_as l n) 0 (number_not_held l n h) ∙ sym (le-leb places (place_of_number l n) h))

  is_room : ltb (length (held_in l)) places ≡ ltb (free_place l) places
  is_room =
      by_order (free_place l) places
      (λ h. lt-ltb (length (held_in l)) places (some_free l h) ∙ sym (lt-ltb (free_place l) places h))
      (λ h. le-ltb (length (held_in l)) places (le_of_eq (sym (none_free l h))) ∙ sym (le-ltb (free_place l) places h))

  by_places : (k : ℕ) → first_no k (place_of_number l n) (free_place l) ≡ hold_refusal l n k
  unfolding hold_refusal
  by_places k = rw (is_new, is_room)

  -- ---- holding a place

  module _ (place : Place) {R : Type 0} (told : Refusal → R → Type 0) (pair : Result (Unit {0}) R) where
    -- what is answered and left behind what the pair's own questions said
    abbrev pub HoldLeaves : Result (Unit {0}) R → List ℕ → Type 0
    HoldLeaves result after = HoldAnswer told l n pair result × (after ≡ tray_holding_unless l n pair place)

    -- they do not refuse
    module _ (passed : pair ≡ Ok tt) where
      hold_by : (result : Result (Unit {0}) R) (k : ℕ) → hold_refusal l n 0 ≡ k → 0 < k → IsErrAnd result (told (refusal_of k)) → HoldLeaves result l
      unfolding hold_answer tray_holding
      hold_by result k e p t = rw (passed, e, some k p) (t, refl)

      pub hold_31 : (result : Result (Unit {0}) R) → place_of_number l n < places → IsErrAnd result (told NumberHeld) → HoldLeaves result l
      hold_31 result h t = hold_by result held_refusal (sym (by_places 0) ∙ rw (lt-leb places (place_of_number l n) h)) (omega arith) t

      pub hold_32 : (result : Result (Unit {0}) R) → places ≤ place_of_number l n → places ≤ free_place l → IsErrAnd result (told TrayFull) → HoldLeaves result l
      hold_32 result h k t =
          hold_by result full_refusal (sym (by_places 0) ∙ rw (le-leb places (place_of_number l n) h, le-ltb (free_place l) places k)) (omega arith) t

      pub hold_held : {i : ℕ} {m : List ℕ} → places ≤ place_of_number l n → (i ≡ free_place l) × (i < places) → m ≡ stored l (place_size * i) (numbers_of place)
          → HoldLeaves (Ok tt) m
      unfolding hold_answer tray_holding
      hold_held {i} {m} h f s =
          let free : free_place l < places = omega (arith, f.0, f.1) in
          let none : hold_refusal l n 0 ≡ 0 = sym (by_places 0) ∙ rw (le-leb places (place_of_number l n) h, lt-ltb (free_place l) places free) in
          rw (passed, none) (refl, rw f.0 at s)

  -- ---- holding a place, where a refusal is told by its number

  refused_by_number : {r : Refusal} → Err r ≡ hold_answer l n → number_of_refusal r ≡ hold_refusal l n 0
  unfolding hold_answer
  refused_by_number {r} e =
      let told = answered_err (hold_refusal l n 0) tt e in
      by_order 0 (held_as l n) (λ p. ap number_of_refusal (told.0 ∙ ap refusal_of (no_31 p)) ∙ sym (no_31 p))
      (λ z.
      let new : held_as l n ≡ 0 = omega arith in
      by_order (length (held_in l)) places (λ few. let none = room new few in absurd (omega (arith, told.1)))
      (λ many. ap number_of_refusal (told.0 ∙ ap refusal_of (no_32 new many)) ∙ sym (no_32 new many)))

  told_number : (held : Result (Unit {0}) Refusal) → held ≡ hold_answer l n → (result : Result (Unit {0}) ℕ) → Told told_by_number held result
      → number_said result ≡ hold_refusal l n 0
  unfolding hold_answer
  told_number (Err r) is (Err number) t = t ∙ refused_by_number is
  told_number (Err r) is (Ok done) t = absurd t
  told_number (Ok done) is result t = ap number_said t ∙ sym (answered_ok (hold_refusal l n 0) tt is)

  pub held_by_number : (k : ℕ) → HeldByNumber l n k
  unfolding tray_holding
  held_by_number k =
      by_order 0 k
      (λ p. record {
        answer = λ result t. ap number_said (rw (some k p) at t) ∙ sym (no_pair k p);
        numbers = λ place. rw (some k p, no_pair k p, some k p) refl;
      })
      (λ z.
      let none : k ≡ 0 = omega arith in
      record {
        answer = λ result t. rw none (told_number (hold_answer l n) refl result (rw none at t));
        numbers = λ place. rw none refl;
      })

  -- ---- putting in
  module _ (u y : ℕ) where
    put_size : (length l ≡ tray_size → ⊥) → put_refusal l n u y ≡ not_a_tray
    unfolding put_refusal
    put_size h = rw (ne_eqb (length l) tray_size h)

    pub put_sized : length l ≡ tray_size → put_refusal l n u y ≡ hold_refusal l n (refusal u y)
    unfolding put_refusal
    put_sized h = rw (eq-eqb (length l) tray_size h)

    -- by the number that the questions give
    pub put_by : (k : ℕ) → put_refusal l n u y ≡ k → 0 < k → (put_answer l n u y ≡ Err (refusal_of k)) × (tray_after_put l n u y ≡ l)
    unfolding put_answer tray_after_put
    put_by k e p = (rw (e, some k p), rw (e, some k p))

    pub put_passed : put_refusal l n u y ≡ 0
        → (put_answer l n u y ≡ as_put (answer_of u y)) × (tray_after_put l n u y ≡ tray_with l (sample_with n u y (answer_of u y)))
    unfolding put_answer tray_after_put
    put_passed e = (rw e, rw e)

    pub put_5 : (length l ≡ tray_size → ⊥) → (Err NotATray ≡ put_answer l n u y) × (l ≡ tray_after_put l n u y)
    put_5 h = let by = put_by not_a_tray (put_size h) (omega arith) in (sym by.0, sym by.1)

    -- a pair that its own questions refuse
    pub put_own : length l ≡ tray_size → 0 < refusal u y
        → (put_answer l n u y ≡ Err (Pair (pair.refusal_of (refusal u y)))) × (tray_after_put l n u y ≡ l)
    put_own h p =
        let by = put_by (refusal u y) (put_sized h ∙ no_pair (refusal u y) p) p in
        (by.0 ∙ ap Err (own_number (refusal u y) p (number_most u y)), by.1)

    pub put_pair : {q : of_pair.Refusal} → length l ≡ tray_size → Err q ≡ answer_of u y → RightAnswer u y (Err q)
        → (Err (Pair q) ≡ put_answer l n u y) × (l ≡ tray_after_put l n u y)
    put_pair {q} h e r =
        let by = put_own h (omega (arith, r.number, r.case)) in
        let same : pair.refusal_of (refusal u y) ≡ q = ap pair.refusal_of (sym r.number) ∙ numbered_refusals.of_refusal q in
        (sym (by.0 ∙ ap (λ (x : of_pair.Refusal). Err (Pair x)) same), sym by.1)

    -- from the pair's index, and what `hold` answers and leaves
    module _ {i : Index} {p : Place} {m : List ℕ} (h : length l ≡ tray_size) (i_is : Ok i ≡ answer_of u y) (is_right : RightAnswer u y (Ok i))
        (p-is : p ≡ place_of (sample_with n u y (Ok i))) (m-is : m ≡ tray_holding l n 0 p) where
      asked : hold_refusal l n 0 ≡ put_refusal l n u y
      asked = sym (put_sized h ∙ ap (hold_refusal l n) (sym is_right.number))

      pub put_refused : {r : Refusal} → Err r ≡ hold_answer l n → (Err r ≡ put_answer l n u y) × (m ≡ tray_after_put l n u y)
      unfolding hold_answer tray_holding
      put_refused {r} e =
          let told = answered_err (hold_refusal l n 0) tt e in
          let by = put_by (hold_refusal l n 0) (sym asked) told.1 in
          (ap Err told.0 ∙ sym by.0, rw (some (hold_refusal l n 0) told.1) at m-is ∙ sym by.1)

      pub put_held : Ok tt ≡ hold_answer l n → (as_put (Ok i) ≡ put_answer l n u y) × (m ≡ tray_after_put l n u y)
      unfolding hold_answer tray_holding
      put_held e =
          let none : hold_refusal l n 0 ≡ 0 = answered_ok (hold_refusal l n 0) tt e in
          let by = put_passed (sym asked ∙ none) in
          (ap as_put i_is ∙ sym by.0, rw (none, p-is, i_is) at m-is ∙ sym by.1)

    -- from the pair's answer, and what `hold` answers and leaves behind it: a refusal is told as it is
    module _ {p : Place} {m : List ℕ} (h : length l ≡ tray_size) where
      pub put_by_hold : (a : Answer) (result : Result (Unit {0}) Refusal) → a ≡ answer_of u y → RightAnswer u y a → p ≡ place_of (sample_with n u y a)
          → HoldAnswer (λ x r. r ≡ x) l n (said a) result → m ≡ tray_holding_unless l n (said a) p
          → (result_and result (as_put a) ≡ put_answer l n u y) × (m ≡ tray_after_put l n u y)
      put_by_hold (Err q) result a-is is_right p-is e m-is =
          let both = put_pair h a-is is_right in
          (ap (λ (x : Result (Unit {0}) Refusal). result_and x (as_put (Err q))) e ∙ both.0, m-is ∙ both.1)
      put_by_hold (Ok i) result a-is is_right p-is e m-is = by_result result (told_as_it_is (hold_answer l n) result e)
        where
          by_result : (result : Result (Unit {0}) Refusal) → result ≡ hold_answer l n
              → (result_and result (as_put (Ok i)) ≡ put_answer l n u y) × (m ≡ tray_after_put l n u y)
          by_result (Err r) is = put_refused h a-is is_right p-is m-is is
          by_result (Ok done) is = put_held h a-is is_right p-is m-is is

  -- ---- taking out
  take_size : (length l ≡ tray_size → ⊥) → take_refusal l n ≡ not_a_tray
  unfolding take_refusal
  take_size h = rw (ne_eqb (length l) tray_size h)

  pub no_33 : length l ≡ tray_size → held_as l n ≡ 0 → take_refusal l n ≡ not_held_refusal
  unfolding take_refusal
  no_33 h k = rw (eq-eqb (length l) tray_size h, k)

  pub held : length l ≡ tray_size → 0 < held_as l n → take_refusal l n ≡ 0
  unfolding take_refusal
  held h k = rw (eq-eqb (length l) tray_size h, lt-ltb 0 (held_as l n) k)

  -- by the number that the questions give
  pub take_by : (k : ℕ) → take_refusal l n ≡ k → 0 < k → (take_answer l n ≡ Err (refusal_of k)) × (tray_after_take l n ≡ l)
  unfolding take_answer tray_after_take
  take_by k e p = (rw (e, some k p), rw (e, some k p))

  pub take_passed : take_refusal l n ≡ 0
      → (take_answer l n ≡ Ok (sample_at l (place_of_number l n))) × (tray_after_take l n ≡ stored l (place_size * place_of_number l n) freed)
  unfolding take_answer tray_after_take
  take_passed e = (rw e, rw e)

  pub take_5 : (length l ≡ tray_size → ⊥) → (Err NotATray ≡ take_answer l n) × (l ≡ tray_after_take l n)
  take_5 h = let by = take_by not_a_tray (take_size h) (omega arith) in (sym by.0, sym by.1)

  pub take_33 : length l ≡ tray_size → places ≤ place_of_number l n → (Err NumberNotHeld ≡ take_answer l n) × (l ≡ tray_after_take l n)
  take_33 h k = let by = take_by not_held_refusal (no_33 h (number_not_held l n k)) (omega arith) in (sym by.0, sym by.1)

  pub take_out : {i : ℕ} {s : Sample} {m : List ℕ} → length l ≡ tray_size → (i ≡ place_of_number l n) × (i < places) → s ≡ sample_at l i
      → m ≡ stored l (place_size * i) freed → (Ok s ≡ take_answer l n) × (m ≡ tray_after_take l n)
  take_out {i} {s} {m} h e f g =
      let by = take_passed (held h (number_held l n (rw e.0 at e.1))) in
      (ap Ok (rw e.0 at f) ∙ sym by.0, rw e.0 at g ∙ sym by.1)
