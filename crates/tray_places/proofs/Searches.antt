-- The places of a tray, each as its eight numbers, and the first of them that passes a test.
use Prim.Native.Nat.{ℕ, zero, suc, ◌+◌, ◌*◌, ◌≤◌, ◌<◌}
use mathlib.Core.Path.{◌≡◌, refl, ap, ◌∙◌}
use mathlib.Core.Bool.{Bool, true, false}
use mathlib.Core.List.{List, []}
use native.Mathlib.Omega.{arith}
use borrow.Author.Tests.{lt-ltb, le-ltb}
use lib.ListN.{length, get_or, take, drop}
use Rattle.std.proofs.lemmas.List.{get_or-take, get_or-drop, drop-drop}
use Rattle.std.proofs.lemmas.List.Sums.{position_or_len_is}
use Rattle.std.specs.Prelude.{Option, Some, None}
use Rattle.std.specs.Option.{is_some}
use Rattle.std.specs.List.{position, position_or_len}
use Rattle.std.specs.Simd.{first_chunks}
use Rattle.laws.proofs.Order.{by_order}
use Rattle.tray_places.specs.declared.samples.Place.{Place}
use Rattle.tray_places.specs.Places.{places, place_size, places_in, place_at, is_free, is_held_as, first, found, place_of_number, free_place}
use Rattle.tray_places.proofs.First.{first_most, first_passes, none_before}

-- ---- a list cut into pieces

module _ {X : Type 0} (n : ℕ) where
  piece_at : (k : ℕ) (xs : List X) (i : ℕ) (d : List X) → i < k → get_or (first_chunks n k xs) i d ≡ take n (drop (n * i) xs)
  piece_at zero xs i d h = absurd (omega arith)
  piece_at (suc k) xs zero d h = let none : n * 0 ≡ 0 = omega arith in rw none
  piece_at (suc k) xs (suc i) d h =
      let past : n + n * i ≡ n * suc i = omega arith in
      piece_at k (drop n xs) i d (omega arith) ∙ ap (take n) (drop-drop (n * i) n xs ∙ ap (λ (at : ℕ). drop at xs) past)

  length_pieces : (k : ℕ) (xs : List X) → length (first_chunks n k xs) ≡ k
  length_pieces zero xs = refl
  length_pieces (suc k) xs = ap suc (length_pieces k (drop n xs))

-- ---- the places

module _ (tray : List ℕ) where
  -- as the code makes them
  pub all_pieces : {k : ℕ} {xs : List (List ℕ)} → k ≡ places → xs ≡ first_chunks place_size k tray → xs ≡ places_in tray
  unfolding places_in
  all_pieces {k} h e = rw h at e

  pub length_places : length (places_in tray) ≡ places
  unfolding places_in
  length_places = length_pieces place_size places tray

  numbers_at : (i : ℕ) (d : List ℕ) → i < places → get_or (places_in tray) i d ≡ take place_size (drop (place_size * i) tray)
  unfolding places_in
  numbers_at i d h = piece_at place_size places tray i d h

  number_at : (i j : ℕ) (d : List ℕ) → i < places → j < place_size → get_or (get_or (places_in tray) i d) j 0 ≡ get_or tray (place_size * i + j) 0
  number_at i j d h k =
      ap (λ (xs : List ℕ). get_or xs j 0) (numbers_at i d h)
      ∙ get_or-take place_size (drop (place_size * i) tray) j 0 k
      ∙ get_or-drop (place_size * i) tray j 0

  pub place_is : (i : ℕ) (d : List ℕ) → i < places → place_at (get_or (places_in tray) i d) 0 ≡ place_at tray i
  place_is i d h =
      let none : place_size * i + 0 ≡ place_size * i = omega arith in
      rw (
        rw none at (number_at i 0 d h (omega arith)),
        number_at i 1 d h (omega arith),
        number_at i 2 d h (omega arith),
        number_at i 3 d h (omega arith),
        number_at i 4 d h (omega arith),
        number_at i 5 d h (omega arith),
        number_at i 6 d h (omega arith),
      )

  -- by the method and the number of a place, so that it also holds where a number says whether a place is free
  pub free_is : (i : ℕ) (d : List ℕ) → i < places → is_free (get_or (places_in tray) i d) 0 ≡ is_free tray i
  free_is i d h =
      let method = ap (λ (p : Place). p.method) (place_is i d h) in
      let number = ap (λ (p : Place). p.number) (place_is i d h) in
      cc

  held_as_is : (number i : ℕ) (d : List ℕ) → i < places → is_held_as (get_or (places_in tray) i d) number 0 ≡ is_held_as tray number i
  held_as_is n i d h =
      let method = ap (λ (p : Place). p.method) (place_is i d h) in
      let number = ap (λ (p : Place). p.number) (place_is i d h) in
      cc

-- ---- the first that passes

module _ {X : Type 0} (p : X → Bool) (xs : List X) (t : ℕ → Bool) (d : X) (same : (i : ℕ) → i < length xs → p (get_or xs i d) ≡ t i) where
  first_position : position_or_len p xs ≡ first t (length xs)
  first_position =
      let most : first t (length xs) ≤ length xs = first_most t (length xs) in
      position_or_len_is p xs (first t (length xs)) d most (λ k h. same k (omega arith) ∙ none_before t (length xs) k h)
      (λ h. same (first t (length xs)) h ∙ first_passes t (length xs) h)

  position_first : length xs ≡ places → position p xs ≡ found (first t places)
  position_first h = let at : position_or_len p xs ≡ first t places = rw h at first_position in rw (at, h)

module _ (tray : List ℕ) where
  within : {i : ℕ} → i < length (places_in tray) → i < places
  within h = omega (arith, length_places tray)

  pub first_free : position (λ (xs : List ℕ). is_free xs 0) (places_in tray) ≡ found (free_place tray)
  unfolding free_place
  first_free =
      position_first (λ (xs : List ℕ). is_free xs 0) (places_in tray) (is_free tray) [] (λ i h. free_is tray i [] (within h)) (length_places tray)

  pub first_held_as : (number : ℕ) → position (λ (xs : List ℕ). is_held_as xs number 0) (places_in tray) ≡ found (place_of_number tray number)
  unfolding place_of_number
  first_held_as number =
      position_first (λ (xs : List ℕ). is_held_as xs number 0) (places_in tray) (is_held_as tray number) []
      (λ i h. held_as_is tray number i [] (within h)) (length_places tray)

-- ---- what a search answered

pub found_some : (i : ℕ) {j : ℕ} → Some j ≡ found i → (j ≡ i) × (j < places)
found_some i {j} e =
    by_order i places
    (λ h.
    let is : Some j ≡ Some i = rw (lt-ltb i places h) at e in
    let same : j ≡ i = cc in
    (same, omega arith))
    (λ h. let is : ◌≡◌ {A = Option ℕ} (Some j) None = rw (le-ltb i places h) at e in absurd cc)

pub found_none : (i : ℕ) → None ≡ found i → places ≤ i
found_none i e =
    by_order i places (λ h. let is : ◌≡◌ {A = Option ℕ} None (Some i) = rw (lt-ltb i places h) at e in absurd cc) (λ h. h)

pub found_held : (i : ℕ) → is_some (found i) ≡ true → i < places
found_held i e = by_order i places (λ h. h) (λ h. let no : false ≡ true = rw (le-ltb i places h) at e in absurd cc)

pub found_not : (i : ℕ) → is_some (found i) ≡ false → places ≤ i
found_not i e = by_order i places (λ h. let yes : true ≡ false = rw (lt-ltb i places h) at e in absurd cc) (λ h. h)
