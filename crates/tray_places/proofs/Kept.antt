-- The places of a tray after a store in one of them.
use Prim.Native.Nat.{ℕ, ◌+◌, ◌*◌, ◌≤◌, ◌<◌}
use mathlib.Core.Path.{◌≡◌, refl, sym, ap, ◌∙◌}
use mathlib.Core.Bool.{true, false}
use mathlib.Core.List.{List, ◌++◌}
use mathlib.Core.Logic.{◌⊎◌, inl, inr, ⊎_elim}
use native.Mathlib.Nat.{add-zero}
use native.Mathlib.Omega.{arith}
use borrow.Author.Tests.{ne_eqb}
use borrow.Rule.Slice.PartMut.{put_mid}
use lib.ListN.{length, get_or, take, drop, get_or-append}
use lib.Seq.{get_or-append-add, length-take-le}
use Rattle.std.proofs.lemmas.List.{drop-drop}
use Rattle.answer_record.specs.Bytes.{stored}
use Rattle.answer_record.proofs.Stores.{stored_parts, byte_kept}
use Rattle.tray_places.specs.declared.samples.Place.{Place}
use Rattle.tray_places.specs.Places.{place_size, numbers_of, freed, place_at, is_held}

-- ---- another place

module _ (l vs : List ℕ) (i k : ℕ) (short : length vs ≤ place_size) (other : (i < k) ⊎ (k < i)) where
  number_same : (at : ℕ) → place_size * i ≤ at → at < place_size * i + place_size → get_or (stored l (place_size * k) vs) at 0 ≡ get_or l at 0
  number_same at a b =
      byte_kept l vs (place_size * k) at (⊎_elim (λ (h : i < k). inl (omega arith)) (λ (h : k < i). inr (omega arith)) other)

  pub place_same : place_at (stored l (place_size * k) vs) i ≡ place_at l i
  place_same =
      rw (
        number_same (place_size * i) (omega arith) (omega arith),
        number_same (place_size * i + 1) (omega arith) (omega arith),
        number_same (place_size * i + 2) (omega arith) (omega arith),
        number_same (place_size * i + 3) (omega arith) (omega arith),
        number_same (place_size * i + 4) (omega arith) (omega arith),
        number_same (place_size * i + 5) (omega arith) (omega arith),
        number_same (place_size * i + 6) (omega arith) (omega arith),
      )

  -- by the method and the number of a place, so that it also holds where a number says whether a place is held
  pub held_same : is_held (stored l (place_size * k) vs) i ≡ is_held l i
  held_same =
      let method = ap (λ (p : Place). p.method) place_same in
      let number = ap (λ (p : Place). p.number) place_same in
      cc

-- ---- the place itself

stored_number : (l vs : List ℕ) (i j : ℕ) → i + length vs ≤ length l → j < length vs → get_or (stored l i vs) (i + j) 0 ≡ get_or vs j 0
stored_number l vs i j h k =
    let front : length (take i l) ≡ i = length-take-le i l (omega arith) in
    let rest = drop (i + length vs) l in
    let past : get_or (take i l ++ (vs ++ rest)) (i + j) 0 ≡ get_or (vs ++ rest) j 0 =
    rw front at (get_or-append-add (take i l) (vs ++ rest) j 0) in
    rw (stored_parts l vs i h) (past ∙ get_or-append vs rest 0 j k)

pub length_numbers : (p : Place) → length (numbers_of p) ≡ place_size
unfolding numbers_of
length_numbers p = refl

-- as the code stores them, n numbers from `at` on
pub numbers_stored : (p : Place) (l : List ℕ) (at : ℕ) {n : ℕ} {vs : List ℕ} → at + place_size ≤ length l → n ≡ place_size → vs ≡ numbers_of p
    → put_mid at n l vs ≡ stored l at (numbers_of p)
numbers_stored p l at {n} {vs} h k e =
    let long : length (numbers_of p) ≡ n = length_numbers p ∙ sym k in
    let rest : drop n (drop at l) ≡ drop (at + n) l = drop-drop n at l in
    rw (e, rest, ← long) (sym (stored_parts l (numbers_of p) at (omega arith)))

module _ (p : Place) (l : List ℕ) (k : ℕ) (fits : place_size * k + place_size ≤ length l) where
  abbrev after : List ℕ
  after = stored l (place_size * k) (numbers_of p)

  at : (j : ℕ) → j < place_size → get_or after (place_size * k + j) 0 ≡ get_or (numbers_of p) j 0
  at j h = stored_number l (numbers_of p) (place_size * k) j (omega (arith, length_numbers p)) (omega (arith, length_numbers p))

  first_there : get_or after (place_size * k) 0 ≡ p.method
  unfolding numbers_of
  first_there = rw (add-zero (place_size * k)) at (at 0 (omega arith))

  pub place_there : place_at after k ≡ p
  unfolding numbers_of
  place_there =
      rw (first_there, at 1 (omega arith), at 2 (omega arith), at 3 (omega arith), at 4 (omega arith), at 5 (omega arith), at 6 (omega arith))

  pub held_there : (p.method ≡ 0 → ⊥) → is_held after k ≡ true
  held_there h = rw (first_there, ne_eqb p.method 0 h)

-- a place that is set free
pub length_freed : length freed ≡ 1
unfolding freed
length_freed = refl

freed_first : get_or freed 0 0 ≡ 0
unfolding freed
freed_first = refl

pub free_there : (l : List ℕ) (k : ℕ) → place_size * k < length l → is_held (stored l (place_size * k) freed) k ≡ false
free_there l k h =
    let first : get_or (stored l (place_size * k) freed) (place_size * k) 0 ≡ 0 =
    rw (add-zero (place_size * k)) at (stored_number l freed (place_size * k) 0 (omega (arith, length_freed)) (omega (arith, length_freed)))
    ∙ freed_first in
    rw first
