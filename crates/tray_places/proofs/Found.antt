-- What finding a place says of the samples held, and what is held after a store in a place.
use Prim.Native.Nat.{ℕ, ◌+◌, ◌*◌, ◌≤◌, ◌<◌}
use mathlib.Core.Path.{◌≡◌, sym, ap}
use mathlib.Core.Bool.{Bool, true, false, not}
use mathlib.Core.List.{List, []}
use mathlib.Core.Logic.{◌⊎◌, inl, inr}
use native.Mathlib.Omega.{arith}
use borrow.Author.Tests.{eqb-true}
use lib.Dec.{eqb}
use lib.ListN.{length, replicate, length-replicate, get_or-replicate}
use Rattle.laws.proofs.Computed.{both_pass}
use Rattle.laws.proofs.Order.{by_order}
use Rattle.answer_record.specs.Bytes.{stored}
use Rattle.tray_places.specs.Samples.{Sample, sample_of}
use Rattle.tray_places.specs.Places.{places, place_size, tray_size, empty_tray, is_free, is_held, has_number, is_held_as, number_in, sample_at, place_of_number, free_place, held_in, EveryTray, Zeros}
use Rattle.tray_places.specs.Counts.{one, times, numbered}
use Rattle.tray_places.proofs.First.{first_passes, none_passes, none_before}
use Rattle.tray_places.proofs.Held.{none_among, some_among, most_among, free_among, all_among, none_held, one_more}
use Rattle.tray_places.proofs.Kept.{place_same, held_same, free_there}
use Rattle.tray_places.proofs.SamplesBack.{stored_held, stored_sample}

-- ---- finding a place

module _ (l : List ℕ) where
  pub held_most : length (held_in l) ≤ places
  unfolding held_in
  held_most = most_among (is_held l) (sample_at l) places

  pub free_is_free : free_place l < places → is_held l (free_place l) ≡ false
  unfolding free_place
  free_is_free k = ap not (first_passes (is_free l) places k)

  -- a place is free, and none is
  pub some_free : free_place l < places → length (held_in l) < places
  unfolding held_in
  some_free k = free_among (is_held l) (sample_at l) (free_place l) places k (free_is_free k)

  pub none_free : places ≤ free_place l → length (held_in l) ≡ places
  unfolding free_place held_in
  none_free k =
      all_among (is_held l) (sample_at l) places (λ (i : ℕ) (b : i < places). ap not (none_passes (is_free l) places k i b))

  module _ (n : ℕ) where
    found : place_of_number l n < places → is_held_as l n (place_of_number l n) ≡ true
    unfolding place_of_number
    found k = first_passes (is_held_as l n) places k

    pub found_is_held : place_of_number l n < places → is_held l (place_of_number l n) ≡ true
    found_is_held k = (both_pass (is_held l (place_of_number l n)) (has_number l n (place_of_number l n)) (found k)).0

    found_by_number : place_of_number l n < places → eqb (number_in l (place_of_number l n)) n ≡ true
    found_by_number k = (both_pass (is_held l (place_of_number l n)) (has_number l n (place_of_number l n)) (found k)).1

    pub found_number : place_of_number l n < places → (sample_at l (place_of_number l n)).number ≡ n
    found_number k = eqb-true (number_in l (place_of_number l n)) n (found_by_number k)

    -- the number is held, and it is not
    pub number_held : place_of_number l n < places → 0 < times (numbered n) (held_in l)
    unfolding held_in
    number_held k = some_among (is_held l) (sample_at l) (numbered n) (place_of_number l n) places k (found_is_held k) (found_by_number k)

    pub number_not_held : places ≤ place_of_number l n → times (numbered n) (held_in l) ≡ 0
    unfolding place_of_number held_in
    number_not_held k =
        none_among (is_held l) (sample_at l) (numbered n) places
        (λ (i : ℕ) (b : i < places) (e : is_held l i ≡ true). rw e at (none_passes (is_held_as l n) places k i b))

-- ---- storing in a place

pub apart : (i k : ℕ) → (i ≡ k → ⊥) → (i < k) ⊎ (k < i)
apart i k h = by_order i k inl (λ m. by_order k i inr (λ n. absurd (h (omega arith))))

module _ (l vs : List ℕ) (k : ℕ) (short : length vs ≤ place_size) (within : k < places) (test : Sample → Bool) where
  abbrev after : List ℕ
  after = stored l (place_size * k) vs

  sample_same : (i : ℕ) → (i ≡ k → ⊥) → sample_at after i ≡ sample_at l i
  sample_same i d = ap sample_of (place_same l vs i k short (apart i k d))

  -- one more, and one less
  pub filled : is_held l k ≡ false → is_held after k ≡ true → times test (held_in after) ≡ times test (held_in l) + one (test (sample_at after k))
  unfolding held_in
  filled e e' =
      one_more (is_held l) (is_held after) (sample_at l) (sample_at after) test k places within
      (λ i b d. (held_same l vs i k short (apart i k d), sample_same i d)) e e'

  pub emptied : is_held l k ≡ true → is_held after k ≡ false → times test (held_in l) ≡ times test (held_in after) + one (test (sample_at l k))
  unfolding held_in
  emptied e e' =
      one_more (is_held after) (is_held l) (sample_at after) (sample_at l) test k places within
      (λ i b d. (sym (held_same l vs i k short (apart i k d)), sym (sample_same i d))) e' e

-- ---- the empty tray

pub empty_size : length empty_tray ≡ tray_size
unfolding empty_tray
empty_size = length-replicate {A = ℕ} tray_size 0

pub empty_holds : held_in empty_tray ≡ []
unfolding empty_tray held_in
empty_holds =
    none_held (is_held (replicate tray_size 0)) (sample_at (replicate tray_size 0)) places
    (λ (k : ℕ) (b : k < places). rw (get_or-replicate {A = ℕ} tray_size (place_size * k) 0 0 (omega arith)))

pub zeros : Zeros
zeros = record { size = empty_size; holds = empty_holds }

-- ---- every tray

all_held : (l : List ℕ) → ((i : ℕ) → i < 64 → is_held l i ≡ true) → length (held_in l) ≡ 64
unfolding held_in
all_held l f = all_among (is_held l) (sample_at l) places f

free_first : (l : List ℕ) (i : ℕ) → i < free_place l → is_held l i ≡ true
unfolding free_place
free_first l i h = ap not (none_before (is_free l) places i h)

number_first : (l : List ℕ) (n i : ℕ) → i < place_of_number l n → is_held_as l n i ≡ false
unfolding place_of_number
number_first l n i h = none_before (is_held_as l n) places i h

pub every_tray : (l : List ℕ) → EveryTray l
every_tray l = record {
  sixty_four = all_held l;
  at_most = held_most l;
  first_free = free_first l;
  first_numbered = number_first l;
  its_number = found_number l;
  frees = λ i b h. free_there l i (omega arith);
  stores = λ s i b h passed alone. (stored_held s passed alone l i (omega arith), stored_sample s passed alone l i (omega arith));
}
