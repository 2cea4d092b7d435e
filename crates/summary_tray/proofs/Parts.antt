-- A tray as its places and its kept numbers: what is read of each, and what is left where a call has changed the places and the summary is kept anew.
use Prim.Native.Nat.{ℕ, ◌<◌}
use mathlib.Core.Path.{◌≡◌, refl, sym, ap, ap₂, ◌∙◌, subst}
use mathlib.Core.Bool.{true, false}
use mathlib.Core.List.{List, ◌++◌}
use native.Mathlib.Omega.{arith}
use borrow.Author.Tests.{eq-eqb, ne_eqb}
use lib.Dec.{eqb}
use lib.ListN.{length, get_or, drop, get_or-eq_default, length-drop, take-append-drop}
use lib.Seq.{length-take-le, take_at, drop_at, get_or-take}
use lib.Signed.{mag}
use Rattle.std.specs.Prelude.{Result, Ok, Err}
use Rattle.laws.specs.Bits.{span32}
use Rattle.laws.proofs.Computed.{both_pass}
use Rattle.laws.proofs.Order.{by_test, by_order}
use Rattle.reference.specs.declared.refusal.Refusal as of_pair
use Rattle.index.specs.declared.answer.Index.{Index}
use Rattle.index.specs.Questions.{refusal}
use Rattle.index.specs.Answer.{Answer, index_of, RightAnswer}
use Rattle.index.specs.ChosenAnswer.{answer_of}
use Rattle.index.proofs.Fits.{fits}
use Rattle.index_summary.specs.declared.Summary.{Summary}
use Rattle.index_summary.specs.Summary.{is_between}
use Rattle.index_summary.specs.Preconditions.{most, Within, is_within}
use Rattle.index_summary.proofs.OneLess.{passes}
use Rattle.answer_record.proofs.Stores.{length_stored}
use Rattle.summary_block.specs.Block.{block_length, block_of, summary_from}
use Rattle.tray_places.specs.declared.samples.Place.{Place}
use Rattle.tray_places.specs.Samples.{Sample, place_of, sample_of}
use Rattle.tray_places.specs.Places.{sample_at, place_of_number}
use Rattle.tray_places.proofs.SamplesBack.{sample_again}
use Rattle.tray.specs.declared.refusal.Refusal.{Refusal}
use Rattle.tray.specs.declared.refusal.Refusal.TheVariants.{NotATray, Pair}
use Rattle.tray.specs.Tray as places
use Rattle.tray.specs.Calls.{Put, Take, refused_by}
use Rattle.tray.proofs.EveryList.{put_alone, every_call}
use Rattle.tray.proofs.Questions.{refusal_some, answered_err, answered_ok}
use Rattle.tray.proofs.Questions as questions
use Rattle.tray.proofs.Steps.{refused_33, take_answered, call_step}
use Rattle.summary_tray.specs.SummaryTray.{places_size, tray_size, places_in, kept_in, with_one, says_rest, without_one, put_answer, tray_with, tray_putting, tray_after_put, hold_refusal, hold_answer, HoldAnswer, tray_holding, tray_holding_unless, take_answer, tray_without, tray_after_take}

-- ---- the parts of the lent memory

module _ (l : List ℕ) (h : length l ≡ tray_size) where
  pub length_places : length (places_in l) ≡ places_size
  length_places = length-take-le places_size l (omega arith)

  block_size : length (drop places_size l) ≡ block_length
  block_size = length-drop places_size l ∙ omega arith

  -- other places before the kept numbers
  module _ (p : List ℕ) (p-size : length p ≡ places_size) where
    abbrev changed : List ℕ
    changed = p ++ drop places_size l

    front : places_in changed ≡ p
    front = take_at p (drop places_size l) places_size p-size

    behind : kept_in changed ≡ kept_in l
    behind = ap summary_from (drop_at p (drop places_size l) places_size p-size)

    pub kept_with : (a : Answer) → places_in changed ++ block_of (with_one (kept_in changed) a (places_in changed)) ≡ tray_with l p a
    kept_with a = ap₂ (λ (q : List ℕ) (t : Summary). q ++ block_of (with_one t a q)) front behind

    pub kept_without : (s : Sample) → places_in changed ++ block_of (without_one (kept_in changed) s.answer (places_in changed)) ≡ tray_without l p (Ok s)
    kept_without s = ap₂ (λ (q : List ℕ) (t : Summary). q ++ block_of (without_one t s.answer q)) front behind

-- ---- the numbers of the places, the index that is put in, the sample that is taken out, and what the kept numbers may say

pub front_small : (l : List ℕ) → length l ≡ tray_size → ((j : ℕ) → get_or l j 0 < span32) → (j : ℕ) → get_or (places_in l) j 0 < span32
front_small l h f j =
    by_order j places_size (λ b. rw (get_or-take places_size l j 0 b) (f j))
    (λ b. rw (get_or-eq_default (places_in l) 0 {n = j} (omega (arith, length_places l h))) (omega arith))

-- the index that the places answer a put with: its magnitude is below 2^32
pub put_small : (q : List ℕ) (n u y : ℕ) {i : Index} → length q ≡ places_size → Ok i ≡ places.put_answer q n u y → mag (index_of {R = of_pair.Refusal} (Ok i)) < span32
put_small q n u y {i} h is =
    let small : mag (index_of (answer_of u y)) < span32 = omega (arith, (fits u y).index) in
    subst (λ (a : Answer). mag (index_of a) < span32) (sym (put_alone q n u y h (sym is)).1) small

pub taken_is : (q : List ℕ) (n : ℕ) {s : Sample} → length q ≡ places_size → places.take_answer q n ≡ Ok s → s ≡ sample_at q (place_of_number q n)
taken_is q n {s} h e =
    by_order 0 (places.held_as q n)
    (λ p. let same : ◌≡◌ {A = Result Sample Refusal} (Ok s) (Ok (sample_at q (place_of_number q n))) = sym e ∙ (take_answered q h n p).0 in cc)
    (λ z. let by = ap refused_by (sym e ∙ (refused_33 q h n (omega arith)).0) in absurd (omega arith))

pub says_within : (t : Summary) (a : Answer) → says_rest t a ≡ true → Within most t
says_within t a h = passes t (both_pass (is_within t) (is_between t a) h).0

-- ---- holding a place behind the number of the pair's own questions

-- what is left is what the questions say behind that number, whichever it is; what is answered is the places' own answer, so that it goes by their `HeldByNumber`
pub held_by_number : (l : List ℕ) (n k : ℕ) (place : Place) → tray_holding_unless l n (places.said_by k) place ≡ tray_holding l n k place
unfolding tray_holding
held_by_number l n k place =
    by_order 0 k
    (λ p.
    let some : eqb k 0 ≡ false = ne_eqb k 0 (λ (z : k ≡ 0). omega arith) in
    rw (some, questions.no_pair (places_in l) n k p, some) refl)
    (λ z. let none : k ≡ 0 = omega arith in rw none refl)

-- ---- what a call answers and leaves

-- a call that the places refuse leaves them
pub put_unchanged : (q : List ℕ) (n u y : ℕ) {r : Refusal} → length q ≡ places_size → places.put_answer q n u y ≡ Err r → places.tray_after_put q n u y ≡ q
put_unchanged q n u y {r} h e = (every_call q h).unchanged (Put n u y) (omega (arith, refusal_some r, ap refused_by e))

pub take_unchanged : (q : List ℕ) (n : ℕ) {r : Refusal} → length q ≡ places_size → places.take_answer q n ≡ Err r → places.tray_after_take q n ≡ q
take_unchanged q n {r} h e = (every_call q h).unchanged (Take n) (omega (arith, refusal_some r, ap refused_by e))

module _ (l : List ℕ) (n : ℕ) where
  module _ (h : length l ≡ tray_size) where
    -- the places as they were, before the kept numbers, are the tray
    whole : {p : List ℕ} → p ≡ places_in l → p ++ drop places_size l ≡ l
    whole same = ap (λ (q : List ℕ). q ++ drop places_size l) same ∙ take-append-drop places_size l

    -- ---- a place that is stored
    module _ (place : Place) where
      abbrev held_places : List ℕ
      held_places = places.tray_holding (places_in l) n 0 place

      pub hold_size : length held_places ≡ places_size
      unfolding places.tray_holding
      hold_size =
          by_test (eqb (places.hold_refusal (places_in l) n 0) 0)
          (λ e. rw e (length_stored (places_in l) _ _ ∙ length_places l h))
          (λ e. rw e (length_places l h))

      questions_refuse : {r : Refusal} → Err r ≡ hold_answer l n → (held_places ≡ places_in l) × (tray_holding l n 0 place ≡ l)
      unfolding places.hold_answer tray_holding places.tray_holding
      questions_refuse {r} e =
          let told = answered_err (hold_refusal l n 0) tt e in
          let no = ne_eqb (hold_refusal l n 0) 0 (λ (z : hold_refusal l n 0 ≡ 0). omega (arith, told.1)) in
          (rw no refl, rw no refl)

      questions_pass : Ok tt ≡ hold_answer l n → tray_holding l n 0 place ≡ tray_with l held_places (sample_of place).answer
      unfolding places.hold_answer tray_holding
      questions_pass z = let none : hold_refusal l n 0 ≡ 0 = answered_ok (hold_refusal l n 0) tt z in rw none refl

      -- behind what the pair's own questions said
      module _ {R : Type 0} (told : Refusal → R → Type 0) where
        pub hold_refused : (pair : Result (Unit {0}) R) (refusal : R) {p : List ℕ} → HoldAnswer told l n pair (Err refusal)
            → p ≡ places.tray_holding_unless (places_in l) n pair place → p ++ drop places_size l ≡ tray_holding_unless l n pair place
        hold_refused (Err q) refusal t p-is = whole p-is
        hold_refused (Ok done) refusal {p} t p-is = by_held (hold_answer l n) refl t
          where
            by_held : (held : Result (Unit {0}) Refusal) → held ≡ hold_answer l n → places.Told told held (Err refusal)
                → p ++ drop places_size l ≡ tray_holding l n 0 place
            by_held (Err r) is t = let both = questions_refuse is in whole (p-is ∙ both.0) ∙ sym both.1
            by_held (Ok done) is t = absurd cc

        pub hold_kept : (pair : Result (Unit {0}) R) (a : Answer) {p after : List ℕ} → HoldAnswer told l n pair (Ok tt)
            → p ≡ places.tray_holding_unless (places_in l) n pair place → a ≡ (sample_of place).answer
            → after ≡ places_in (p ++ drop places_size l) ++ block_of (with_one (kept_in (p ++ drop places_size l)) a (places_in (p ++ drop places_size l)))
            → after ≡ tray_holding_unless l n pair place
        hold_kept (Err q) a t p-is a_is e = absurd cc
        hold_kept (Ok done) a {p} {after} t p-is a_is e = by_held (hold_answer l n) refl t
          where
            by_held : (held : Result (Unit {0}) Refusal) → held ≡ hold_answer l n → places.Told told held (Ok tt) → after ≡ tray_holding l n 0 place
            by_held (Err r) is t = absurd t
            by_held (Ok done) is t =
                e ∙ kept_with l h p (ap length p-is ∙ hold_size) a ∙ ap₂ (tray_with l) p-is a_is ∙ sym (questions_pass is)

    -- ---- the place of an answered pair: what its questions answer is what a put answers
    module _ (u y : ℕ) where
      put_as : put_answer l n u y ≡ places.put_answer (places_in l) n u y
      unfolding put_answer
      put_as = rw (eq-eqb (length l) tray_size h)

      -- by what the places answer
      put_by : (r : Result Index Refusal) → r ≡ places.put_answer (places_in l) n u y
          → (r ≡ put_answer l n u y) × (tray_putting l (places.tray_after_put (places_in l) n u y) r ≡ tray_after_put l n u y)
      unfolding tray_after_put
      put_by r e =
          let is : r ≡ put_answer l n u y = e ∙ sym put_as in
          (is, ap (tray_putting l (places.tray_after_put (places_in l) n u y)) is)

      pub place_pair : {q : of_pair.Refusal} → Err q ≡ answer_of u y → RightAnswer u y (Err q)
          → (Err (Pair q) ≡ put_answer l n u y) × (l ≡ tray_after_put l n u y)
      place_pair {q} e is_right = put_by (Err (Pair q)) (questions.put_pair (places_in l) n u y (length_places l h) e is_right).0

      module _ {i : Index} {place : Place} {m : List ℕ} (i_is : Ok i ≡ answer_of u y) (is_right : RightAnswer u y (Ok i))
          (place_is : place ≡ place_of (places.sample_with n u y (Ok i))) (m-is : m ≡ tray_holding l n 0 place) where
        pub place_refused : {r : Refusal} → Err r ≡ hold_answer l n → (Err r ≡ put_answer l n u y) × (m ≡ tray_after_put l n u y)
        unfolding places.hold_answer tray_holding
        place_refused {r} e =
            let by = put_by (Err r) (questions.put_refused (places_in l) n u y (length_places l h) i_is is_right place_is refl e).0 in
            let told = answered_err (hold_refusal l n 0) tt e in
            let no = ne_eqb (hold_refusal l n 0) 0 (λ (z : hold_refusal l n 0 ≡ 0). omega (arith, told.1)) in
            (by.0, rw no at m-is ∙ by.1)

        pub place_held : Ok tt ≡ hold_answer l n → (Ok i ≡ put_answer l n u y) × (m ≡ tray_after_put l n u y)
        unfolding places.hold_answer tray_holding
        place_held e =
            let held = questions.put_held (places_in l) n u y (length_places l h) i_is is_right place_is refl e in
            let by = put_by (Ok i) held.0 in
            let none : hold_refusal l n 0 ≡ 0 = answered_ok (hold_refusal l n 0) tt e in
            let passed : refusal u y ≡ 0 = sym is_right.number in
            let again = ap (λ (s : Sample). s.answer) (ap sample_of place_is ∙ sample_again (places.sample_with n u y (Ok i)) passed i_is) in
            (by.0, rw none at m-is ∙ ap₂ (tray_with l) held.1 again ∙ by.1)

      -- ---- a sample that is put in
      module _ {p : List ℕ} (p-is : p ≡ places.tray_after_put (places_in l) n u y) where
        pub put_size : length p ≡ places_size
        put_size = ap length p-is ∙ (call_step (places_in l) (Put n u y) (length_places l h)).size

        pub put_refused : {r : Refusal} → Err r ≡ places.put_answer (places_in l) n u y
            → (Err r ≡ put_answer l n u y) × (p ++ drop places_size l ≡ tray_after_put l n u y)
        put_refused {r} e =
            let by = put_by (Err r) e in
            (by.0, whole (p-is ∙ put_unchanged (places_in l) n u y (length_places l h) (sym e)) ∙ by.1)

        pub put_kept : {i : Index} {after : List ℕ} → Ok i ≡ places.put_answer (places_in l) n u y
            → after ≡ places_in (p ++ drop places_size l) ++ block_of (with_one (kept_in (p ++ drop places_size l)) (Ok i) (places_in (p ++ drop places_size l)))
            → (Ok i ≡ put_answer l n u y) × (after ≡ tray_after_put l n u y)
        put_kept {i} z e =
            let by = put_by (Ok i) z in
            (by.0, e ∙ kept_with l h p put_size (Ok i) ∙ ap (λ (q : List ℕ). tray_with l q (Ok i)) p-is ∙ by.1)

    -- ---- a sample that is taken out
    take_by : (r : Result Sample Refusal) → r ≡ places.take_answer (places_in l) n
        → (r ≡ take_answer l n) × (tray_without l (places.tray_after_take (places_in l) n) r ≡ tray_after_take l n)
    unfolding take_answer tray_after_take
    take_by r e =
        let is : r ≡ take_answer l n = e ∙ rw (eq-eqb (length l) tray_size h) refl in
        (is, ap (tray_without l (places.tray_after_take (places_in l) n)) is)

    module _ {p : List ℕ} (p-is : p ≡ places.tray_after_take (places_in l) n) where
      pub take_size : length p ≡ places_size
      take_size = ap length p-is ∙ (call_step (places_in l) (Take n) (length_places l h)).size

      pub take_refused : {r : Refusal} → Err r ≡ places.take_answer (places_in l) n
          → (Err r ≡ take_answer l n) × (p ++ drop places_size l ≡ tray_after_take l n)
      take_refused {r} e =
          let by = take_by (Err r) e in
          (by.0, whole (p-is ∙ take_unchanged (places_in l) n (length_places l h) (sym e)) ∙ by.1)

      pub take_kept : {s : Sample} {after : List ℕ} → Ok s ≡ places.take_answer (places_in l) n
          → after ≡ places_in (p ++ drop places_size l) ++ block_of (without_one (kept_in (p ++ drop places_size l)) s.answer (places_in (p ++ drop places_size l)))
          → (Ok s ≡ take_answer l n) × (after ≡ tray_after_take l n)
      take_kept {s} o e =
          let by = take_by (Ok s) o in
          (by.0, e ∙ kept_without l h p take_size s ∙ ap (λ (q : List ℕ). tray_without l q (Ok s)) p-is ∙ by.1)

  -- ---- other memory
  module _ (other : length l ≡ tray_size → ⊥) where
    pub put_5 : (u y : ℕ) → (Err NotATray ≡ put_answer l n u y) × (l ≡ tray_after_put l n u y)
    unfolding put_answer tray_after_put
    put_5 u y = let no = ne_eqb (length l) tray_size other in (rw no, rw no)

    pub take_5 : (Err NotATray ≡ take_answer l n) × (l ≡ tray_after_take l n)
    unfolding take_answer tray_after_take
    take_5 = let no = ne_eqb (length l) tray_size other in (rw no, rw no)
