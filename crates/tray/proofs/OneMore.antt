-- The walk over the samples held, with one more: it is the walk without it and then this one, wherever its place is; and what a put and a take leave of it.
use Prim.Native.Nat.{ℕ, zero, suc, ◌+◌, ◌*◌, ◌≤◌, ◌<◌}
use mathlib.Core.Path.{◌≡◌, refl, sym, ap, ap₂, ◌∙◌, subst}
use mathlib.Core.Bool.{Bool, true, false}
use mathlib.Core.List.{List}
use mathlib.Core.Logic.{inr}
use native.Mathlib.Omega.{arith}
use borrow.Author.Rules.{sfits_of}
use borrow.Author.Tests.{eqb-true, eqb-false}
use lib.Dec.{eqb}
use lib.ListN.{length}
use lib.Signed.{mag}
use Rattle.std.specs.Prelude.{Option, Some, None}
use Rattle.laws.specs.Bits.{span32}
use Rattle.laws.proofs.Order.{by_test, by_order}
use Rattle.index.specs.Answer.{Answer, index_of}
use Rattle.index.specs.Questions.{refusal}
use Rattle.index.specs.ChosenAnswer.{answer_of}
use Rattle.index.proofs.Fits.{fits}
use Rattle.answer_record.specs.Bytes.{twos_complement, stored}
use Rattle.answer_record.proofs.Signed.{twos_complement_fits}
use Rattle.answer_record.proofs.Stores.{byte_kept}
use Rattle.index_summary.specs.declared.Summary.{Summary}
use Rattle.index_summary.proofs.OneLess.{joined_swapped, alone_swapped}
use Rattle.tray_places.specs.declared.samples.Place.{Place}
use Rattle.tray_places.specs.Samples.{Sample, place_of, sample_of}
use Rattle.tray_places.specs.Places.{places, place_size, tray_size, numbers_of, freed, place_at, is_held, sample_at, place_of_number, free_place, held_in}
use Rattle.tray_places.proofs.Kept.{place_same, held_same, length_numbers, place_there, length_freed}
use Rattle.tray_places.proofs.Found.{every_tray, none_free, free_is_free, found_is_held, apart}
use Rattle.tray.specs.Tray.{held_as, sample_with, tray_after_put, tray_after_take}
use Rattle.tray.specs.State.{with_answer, state_after}
use Rattle.tray.proofs.Steps.{put_answered, take_answered, found_within}
use Rattle.tray.proofs.Walk.{walked, walk_zero, walk_free, walk_held, answer_small}

-- ---- two answers more, in either order

swapped : (st : Option Summary) (x y : Answer) → with_answer (with_answer st x) y ≡ with_answer (with_answer st y) x
swapped None x y = ap Some (alone_swapped x y)
swapped (Some t) x y = ap Some (joined_swapped t x y)

-- ---- two trays that agree at the places below n, and at all but place k

module _ (h h' : ℕ → Bool) (s s' : ℕ → Sample) where
  abbrev Agree : ℕ → Type 0
  Agree i = (h' i ≡ h i) × (s' i ≡ s i)

  pub walked_same : (n : ℕ) → ((i : ℕ) → i < n → Agree i) → walked h' s' n ≡ walked h s n
  walked_same zero f = sym (walk_zero h' s') ∙ walk_zero h s
  walked_same (suc n) f =
      let agree = f n (omega arith) in
      let before = walked_same n (λ i l. f i (omega arith)) in
      by_test (h n)
      (λ e.
      let answer = ap (λ (x : Sample). x.answer) agree.1 in
      walk_held h' s' n (agree.0 ∙ e) ∙ ap₂ with_answer before answer ∙ sym (walk_held h s n e))
      (λ e. walk_free h' s' n (agree.0 ∙ e) ∙ before ∙ sym (walk_free h s n e))

  -- place k is free in the first and held in the second
  pub walked_more : (k n : ℕ) → k < n → ((i : ℕ) → i < n → (i ≡ k → ⊥) → Agree i) → h k ≡ false → h' k ≡ true
      → walked h' s' n ≡ with_answer (walked h s n) (s' k).answer
  walked_more k zero l f e e' = absurd (omega arith)
  walked_more k (suc n) l f e e' =
      by_order k n
      (λ b.
      let agree = f n (omega arith) (λ (z : n ≡ k). omega arith) in
      let before = walked_more k n b (λ i m. f i (omega arith)) e e' in
      let x = (s' k).answer in
      by_test (h n)
      (λ y.
      let answer = ap (λ (x : Sample). x.answer) agree.1 in
      walk_held h' s' n (agree.0 ∙ y) ∙ ap₂ with_answer before answer ∙ swapped (walked h s n) x (s n).answer
      ∙ ap (λ (st : Option Summary). with_answer st x) (sym (walk_held h s n y)))
      (λ z.
      walk_free h' s' n (agree.0 ∙ z) ∙ before ∙ ap (λ (st : Option Summary). with_answer st x) (sym (walk_free h s n z))))
      (λ b.
      let is : k ≡ n = omega arith in
      let below : walked h' s' n ≡ walked h s n =
      walked_same n (λ (i : ℕ) (m : i < n). f i (omega arith) (λ (z : i ≡ k). omega arith)) in
      let free : walked h s (suc n) ≡ walked h s n = walk_free h s n (rw is at e) in
      walk_held h' s' n (rw is at e') ∙ ap₂ with_answer (below ∙ sym free) (ap (λ (i : ℕ). (s' i).answer) (sym is)))

-- ---- a store in place k of a tray

module _ (l vs : List ℕ) (k : ℕ) (short : length vs ≤ place_size) (within : k < places) where
  abbrev after : List ℕ
  after = stored l (place_size * k) vs

  agree : (i : ℕ) → (i ≡ k → ⊥) → (is_held after i ≡ is_held l i) × (sample_at after i ≡ sample_at l i)
  agree i d = (held_same l vs i k short (apart i k d), ap sample_of (place_same l vs i k short (apart i k d)))

  filled : is_held l k ≡ false → is_held after k ≡ true → state_after None (held_in after) ≡ with_answer (state_after None (held_in l)) (sample_at after k).answer
  unfolding held_in
  filled e e' = walked_more (is_held l) (is_held after) (sample_at l) (sample_at after) k places within (λ i b d. agree i d) e e'

  emptied : is_held l k ≡ true → is_held after k ≡ false → state_after None (held_in l) ≡ with_answer (state_after None (held_in after)) (sample_at l k).answer
  unfolding held_in
  emptied e e' =
      walked_more (is_held after) (is_held l) (sample_at after) (sample_at l) k places within (λ i b d. let both = agree i d in (sym both.0, sym both.1)) e' e

-- ---- the index in each place is a number of 32 bits

abbrev pub Small : List ℕ → Type 0
Small l = (k : ℕ) → (place_at l k).index < span32

pub small_index : (l : List ℕ) → Small l → (k : ℕ) → mag (index_of (sample_at l k).answer) < span32
small_index l f k = answer_small _ _ _ _ (f k)

pub by_equal : {P : Type 0} (a b : ℕ) → (a ≡ b → P) → ((a ≡ b → ⊥) → P) → P
by_equal a b f g = by_test (eqb a b) (λ e. f (eqb-true a b e)) (λ e. g (eqb-false a b e))

index_as : {p q : Place} → p ≡ q → q.index < span32 → p.index < span32
index_as e h = subst (λ (r : Place). r.index < span32) (sym e) h

module _ (l : List ℕ) (h : length l ≡ tray_size) (f : Small l) (n : ℕ) where
  -- ---- a put that is answered
  module _ (u y : ℕ) (passed : refusal u y ≡ 0) (new : held_as l n ≡ 0) (few : length (held_in l) < places) where
    abbrev s : Sample
    s = sample_with n u y (answer_of u y)

    free_within : free_place l < places
    free_within = by_order (free_place l) places (λ b. b) (λ b. absurd (omega (arith, none_free l b)))

    short_place : length (numbers_of (place_of s)) ≤ place_size
    short_place = omega (arith, length_numbers (place_of s))

    pub put_walked : state_after None (held_in (tray_after_put l n u y)) ≡ with_answer (state_after None (held_in l)) (answer_of u y)
    put_walked =
        let stores = (every_tray l).stores s (free_place l) free_within h passed refl in
        ap (λ (m : List ℕ). state_after None (held_in m)) (put_answered l h n u y passed new few).1
        ∙ filled l (numbers_of (place_of s)) (free_place l) short_place free_within (free_is_free l free_within) stores.0
        ∙ ap (λ (x : Sample). with_answer (state_after None (held_in l)) x.answer) stores.1

    pub put_small : Small (tray_after_put l n u y)
    unfolding place_of
    put_small i =
        let index : twos_complement (index_of (answer_of u y)) < span32 = twos_complement_fits (index_of (answer_of u y)) (sfits_of (fits u y).index) in
        let m : List ℕ = stored l (place_size * free_place l) (numbers_of (place_of s)) in
        let stored-small : (place_at m i).index < span32 =
        by_equal i (free_place l)
        (λ e. index_as (ap (place_at m) e ∙ place_there (place_of s) l (free_place l) (omega (arith, free_within))) index)
        (λ d. index_as (place_same l (numbers_of (place_of s)) i (free_place l) short_place (apart i (free_place l) d)) (f i)) in
        subst (λ (q : List ℕ). (place_at q i).index < span32) (sym (put_answered l h n u y passed new few).1) stored-small

  -- ---- a take that is answered
  module _ (held : 0 < held_as l n) where
    short_freed : length freed ≤ place_size
    short_freed = omega (arith, length_freed)

    pub take_walked : state_after None (held_in l) ≡ with_answer (state_after None (held_in (tray_after_take l n))) (sample_at l (place_of_number l n)).answer
    take_walked =
        let within = found_within l h n held in
        let at = place_of_number l n in
        emptied l freed at short_freed within (found_is_held l n within) ((every_tray l).frees at within h)
        ∙ ap (λ (m : List ℕ). with_answer (state_after None (held_in m)) (sample_at l at).answer) (sym (take_answered l h n held).1)

    pub take_small : Small (tray_after_take l n)
    take_small i =
        let at = place_of_number l n in
        let m : List ℕ = stored l (place_size * at) freed in
        let index : (place_at m at).index ≡ (place_at l at).index = byte_kept l freed (place_size * at) (place_size * at + 4) (inr (omega (arith, length_freed))) in
        let left-small : (place_at m i).index < span32 =
        by_equal i at
        (λ e. subst (λ (x : ℕ). x < span32) (sym (ap (λ (j : ℕ). (place_at m j).index) e ∙ index)) (f at))
        (λ d. index_as (place_same l freed i at short_freed (apart i at d)) (f i)) in
        subst (λ (q : List ℕ). (place_at q i).index < span32) (sym (take_answered l h n held).1) left-small
