-- One call: a tray that keeps the summary of its samples keeps it still.
use Prim.Native.Nat.{ℕ, ◌≤◌, ◌<◌}
use mathlib.Core.Path.{◌≡◌, refl, sym, ap, ◌∙◌, subst}
use mathlib.Core.Bool.{true, false}
use mathlib.Core.List.{List}
use native.Mathlib.Omega.{arith}
use borrow.Author.Tests.{eq-eqb}
use lib.ListN.{length, drop, length-append}
use lib.Seq.{take_at, drop_at}
use lib.Signed.{mag}
use Rattle.std.specs.Prelude.{Option, Some, None, Result, Ok, Err}
use Rattle.laws.specs.Bits.{span32}
use Rattle.laws.proofs.Contradiction.{both_ways}
use Rattle.laws.proofs.Order.{by_test, by_order}
use Rattle.index.specs.Questions.{refusal}
use Rattle.index.specs.declared.answer.Index.{Index}
use Rattle.index.specs.Answer.{Answer, index_of}
use Rattle.index.specs.ChosenAnswer.{answer_of}
use Rattle.index.proofs.Fits.{fits}
use Rattle.index_summary.specs.declared.Summary.{Summary}
use Rattle.index_summary.specs.Summary.{nothing, is_of_none, is_between, without_of}
use Rattle.index_summary.specs.Preconditions.{most, Within, is_within}
use Rattle.index_summary.proofs.OneLess.{fits_passes, alone_not_between, joined_without}
use Rattle.summary_block.specs.Block.{block_of, summary_from}
use Rattle.summary_block.proofs.Blocks.{every_block, none_is_nothing}
use Rattle.tray_places.specs.Samples.{Sample}
use Rattle.tray_places.specs.Places.{held_in}
use Rattle.tray_places.proofs.Found.{held_most}
use Rattle.tray.specs.declared.refusal.Refusal.{Refusal}
use Rattle.tray.specs.Tray as places
use Rattle.tray.specs.State as walk
use Rattle.tray.specs.State.{with_answer, state_after, summary_in, state_with}
use Rattle.tray.specs.Calls.{Call, Put, Take, Ask, refused_by}
use Rattle.tray.proofs.EveryList.{put_alone}
use Rattle.tray.proofs.Steps.{refused_31, refused_32, refused_33, call_step}
use Rattle.tray.proofs.Walk.{StateOf, walk_told, walk_fits, joined_in, held_right}
use Rattle.tray.proofs.OneMore.{Small, small_index, put_walked, put_small, take_walked, take_small}
use Rattle.summary_tray.specs.SummaryTray.{places_size, tray_size, places_in, kept_in, state_of, walk_of, with_one, says_rest, without_one, keeping, put_answer, tray_after_put, take_answer, tray_after_take}
use Rattle.summary_tray.specs.Calls.{after}
use Rattle.summary_tray.specs.KeptSummary.{walked}
use Rattle.summary_tray.proofs.Parts.{length_places, taken_is}

-- ---- a walk's summary in the kept numbers

module _ (q : List ℕ) (f : Small q) where
  walk_within : (m : ℕ) → 64 ≤ m → Within m (walk_of q)
  unfolding held_in
  walk_within m h = walk_fits q (small_index q f) 64 m h

  pub walk_passes : is_within (walk_of q) ≡ true
  walk_passes = fits_passes 64 (walk_of q) (omega arith) (walk_within 64 (omega arith))

  walk_none : is_of_none (walk_of q) ≡ true → walk_of q ≡ nothing
  unfolding state_with
  walk_none e = let told : ◌≡◌ {A = Option Summary} None (state_after None (held_in q)) = rw e at (walk_told q refl refl) in ap summary_in (sym told)

  pub walk_back : summary_from (block_of (walk_of q)) ≡ walk_of q
  walk_back = every_block.back (walk_of q) (walk_within most (omega arith)) walk_none

-- ---- a tray that keeps the summary of its samples

pub record Keeps (l : List ℕ) : Type 0 where
  pub size : length l ≡ tray_size
  pub small : Small (places_in l)
  pub kept : kept_in l ≡ walk_of (places_in l)

-- a state is told from it
pub kept_state : (l : List ℕ) → length l ≡ tray_size → state_of l ≡ Ok (state_with (kept_in l))
unfolding state_of
kept_state l h = rw (eq-eqb (length l) tray_size h)

walked_state : (l : List ℕ) → length l ≡ tray_size → walked l ≡ Ok (state_after None (held_in (places_in l)))
unfolding walk.state_of
walked_state l h = rw (eq-eqb (length (places_in l)) places_size (length_places l h))

pub keeps_equal : (l : List ℕ) → Keeps l → state_of l ≡ walked l
keeps_equal l g = kept_state l g.size ∙ ap Ok (walk_told (places_in l) g.kept refl) ∙ sym (walked_state l g.size)

-- and it from the state
back_from : (block : List ℕ) → summary_in (state_with (summary_from block)) ≡ summary_from block
unfolding state_with
back_from block =
    by_test (is_of_none (summary_from block)) (λ e. rw e (sym (none_is_nothing block e))) (λ e. rw e)

pub state_is : {st now : Option Summary} → ◌≡◌ {A = Result (Option Summary) Refusal} (Ok st) (Ok now) → st ≡ now
state_is e = cc

pub equal_keeps : (l : List ℕ) → length l ≡ tray_size → Small (places_in l) → state_of l ≡ walked l → Keeps l
equal_keeps l h f e = record {
  size = h;
  small = f;
  kept = sym (back_from (drop places_size l)) ∙ ap summary_in (state_is (sym (kept_state l h) ∙ e ∙ walked_state l h));
}

-- ---- places and the summary of their samples, put together

keeps_of : (p : List ℕ) {t : Summary} → length p ≡ places_size → Small p → t ≡ walk_of p → Keeps (keeping p t)
keeps_of p {t} h f e =
    let front : places_in (keeping p t) ≡ p = take_at p (block_of t) places_size h in
    record {
      size = length-append p (block_of t) ∙ omega (arith, every_block.nine t);
      small = subst Small (sym front) f;
      kept =
          ap summary_from (drop_at p (block_of t) places_size h) ∙ ap (λ (s : Summary). summary_from (block_of s)) e ∙ walk_back p f
          ∙ ap walk_of (sym front);
    }

-- ---- one more

with_walked : (kept : Summary) (a : Answer) (q p : List ℕ) → Small q → mag (index_of a) < span32 → kept ≡ walk_of q
    → state_after None (held_in p) ≡ with_answer (state_after None (held_in q)) a → with_one kept a p ≡ walk_of p
unfolding with_one
with_walked kept a q p f small e w =
    rw (e, walk_passes q f)
    (joined_in (held_in q) (state_after None (held_in q)) a (held_right q) small ∙ ap summary_in (sym w))

-- ---- one less

less_state : (xs : List Sample) (st : Option Summary) (a : Answer) → StateOf xs st → is_between (summary_in (with_answer st a)) a ≡ true
    → without_of (summary_in (with_answer st a)) a ≡ summary_in st
less_state xs None a r h = both_ways h (alone_not_between a)
less_state xs (Some t) a r h = joined_without t a h

-- where the kept numbers are too large, the samples are walked
pub too_large_walked : (kept : Summary) (a : Answer) (p : List ℕ) → is_within kept ≡ false → (with_one kept a p ≡ walk_of p) × (without_one kept a p ≡ walk_of p)
unfolding with_one without_one
too_large_walked kept a p h = (rw h, rw h)

pub not_between_walked : (kept : Summary) (a : Answer) (p : List ℕ) → is_between kept a ≡ false → without_one kept a p ≡ walk_of p
unfolding without_one
not_between_walked kept a p h = by_test (is_within kept) (λ e. rw (e, h)) (λ e. rw e)

less_walked : (kept : Summary) (a : Answer) (p : List ℕ) → says_rest kept a ≡ true → without_of kept a ≡ walk_of p → without_one kept a p ≡ walk_of p
unfolding without_one
less_walked kept a p h e = rw h e

without_walked : (kept : Summary) (a : Answer) (q p : List ℕ) → Small q → kept ≡ walk_of q
    → state_after None (held_in q) ≡ with_answer (state_after None (held_in p)) a → without_one kept a p ≡ walk_of p
without_walked kept a q p f e w =
    let is : kept ≡ summary_in (with_answer (state_after None (held_in p)) a) = e ∙ ap summary_in w in
    by_test (is_between kept a)
    (λ b.
    let passes : is_within kept ≡ true = ap is_within e ∙ walk_passes q f in
    let less = less_state (held_in p) (state_after None (held_in p)) a (held_right p) (rw is at b) in
    less_walked kept a p (rw (passes, b)) (ap (λ (t : Summary). without_of t a) is ∙ less))
    (not_between_walked kept a p)

-- ---- the calls

-- a put of the places that is answered
record PutIn (q : List ℕ) (n u y : ℕ) : Type 0 where
  passed : refusal u y ≡ 0
  new : places.held_as q n ≡ 0
  few : length (held_in q) < 64

put_in : (q : List ℕ) (n u y : ℕ) {i : Index} → length q ≡ places_size → places.put_answer q n u y ≡ Ok i → PutIn q n u y
put_in q n u y h z =
    let passed : refusal u y ≡ 0 = (put_alone q n u y h z).0 in
    let none = ap refused_by z in
    by_order 0 (places.held_as q n) (λ p. let by = ap refused_by (refused_31 q h n u y passed p).0 in absurd (omega arith))
    (λ r. by_order (length (held_in q)) 64 (λ few. record { passed = passed; new = omega arith; few = few })
    (λ many.
    let by = ap refused_by (refused_32 q h n u y passed (omega arith) (omega (arith, held_most q))).0 in
    absurd (omega arith)))

module _ (l : List ℕ) (h : length l ≡ tray_size) where
  pub put_as : (n u y : ℕ) → put_answer l n u y ≡ places.put_answer (places_in l) n u y
  unfolding put_answer
  put_as n u y = rw (eq-eqb (length l) tray_size h)

  pub take_as : (n : ℕ) → take_answer l n ≡ places.take_answer (places_in l) n
  unfolding take_answer
  take_as n = rw (eq-eqb (length l) tray_size h)

module _ (l : List ℕ) (n u y : ℕ) (h : length l ≡ tray_size) (f : Small (places_in l)) {i : Index} (z : put_answer l n u y ≡ Ok i) where
  abbrev p : List ℕ
  p = places.tray_after_put (places_in l) n u y

  given : places.put_answer (places_in l) n u y ≡ Ok i
  given = sym (put_as l h n u y) ∙ z

  in_it : PutIn (places_in l) n u y
  in_it = put_in (places_in l) n u y (length_places l h) given

  in_walked : state_after None (held_in p) ≡ with_answer (state_after None (held_in (places_in l))) (answer_of u y)
  in_walked = put_walked (places_in l) (length_places l h) f n u y in_it.passed in_it.new in_it.few

  -- by what is kept with one more
  pub in_keeps : with_one (kept_in l) (answer_of u y) p ≡ walk_of p → Keeps (tray_after_put l n u y)
  unfolding tray_after_put
  in_keeps e =
      let own : Ok i ≡ answer_of u y = (put_alone (places_in l) n u y (length_places l h) given).1 in
      rw z
      (keeps_of p (call_step (places_in l) (Put n u y) (length_places l h)).size
      (put_small (places_in l) (length_places l h) f n u y in_it.passed in_it.new in_it.few)
      (ap (λ (a : Answer). with_one (kept_in l) a p) own ∙ e))

put_keeps : (l : List ℕ) (n u y : ℕ) → Keeps l → (r : Result Index Refusal) → put_answer l n u y ≡ r → Keeps (tray_after_put l n u y)
unfolding tray_after_put
put_keeps l n u y g (Err r) e = rw e g
put_keeps l n u y g (Ok i) e =
    in_keeps l n u y g.size g.small e
    (with_walked (kept_in l) (answer_of u y) (places_in l) (places.tray_after_put (places_in l) n u y) g.small (omega (arith, (fits u y).index)) g.kept
    (in_walked l n u y g.size g.small e))

-- a take of the places that is answered
take_held : (q : List ℕ) (n : ℕ) {s : Sample} → length q ≡ places_size → places.take_answer q n ≡ Ok s → 0 < places.held_as q n
take_held q n {s} h e =
    by_order 0 (places.held_as q n) (λ p. p)
    (λ z. let by = ap refused_by (sym e ∙ (refused_33 q h n (omega arith)).0) in absurd (omega arith))

module _ (l : List ℕ) (n : ℕ) (h : length l ≡ tray_size) {s : Sample} (o : take_answer l n ≡ Ok s) where
  abbrev q : List ℕ
  q = places_in l

  out : places.take_answer q n ≡ Ok s
  out = sym (take_as l h n) ∙ o

  pub out_held : 0 < places.held_as q n
  out_held = take_held q n (length_places l h) out

  pub out_walked : Small q → state_after None (held_in q) ≡ with_answer (state_after None (held_in (places.tray_after_take q n))) s.answer
  out_walked f =
      take_walked q (length_places l h) f n out_held
      ∙ ap (λ (x : Sample). with_answer (state_after None (held_in (places.tray_after_take q n))) x.answer) (sym (taken_is q n (length_places l h) out))

  -- by what is kept of the rest
  pub out_keeps : Small q → without_one (kept_in l) s.answer (places.tray_after_take q n) ≡ walk_of (places.tray_after_take q n) → Keeps (tray_after_take l n)
  unfolding tray_after_take
  out_keeps f e =
      rw o
      (keeps_of (places.tray_after_take q n) (call_step q (Take n) (length_places l h)).size (take_small q (length_places l h) f n out_held) e)

take_keeps : (l : List ℕ) (n : ℕ) → Keeps l → (r : Result Sample Refusal) → take_answer l n ≡ r → Keeps (tray_after_take l n)
unfolding tray_after_take
take_keeps l n g (Err r) e = rw e g
take_keeps l n g (Ok s) e =
    out_keeps l n g.size e g.small
    (without_walked (kept_in l) s.answer (places_in l) (places.tray_after_take (places_in l) n) g.small g.kept (out_walked l n g.size e g.small))

pub call_keeps : (l : List ℕ) (c : Call) → Keeps l → Keeps (after l c)
call_keeps l (Put n u y) g = put_keeps l n u y g (put_answer l n u y) refl
call_keeps l (Take n) g = take_keeps l n g (take_answer l n) refl
call_keeps l Ask g = g
