-- The samples held in the places: how many pass a test, and what changes when one place does.
use Prim.Native.Nat.{ℕ, zero, suc, ◌+◌, ◌≤◌, ◌<◌}
use mathlib.Core.Path.{◌≡◌, refl, sym, ap, ◌∙◌}
use mathlib.Core.Bool.{Bool, true, false}
use mathlib.Core.List.{List, [], ◌∷◌, ◌++◌}
use native.Mathlib.Omega.{arith}
use lib.ListN.{length, length-append}
use Rattle.laws.proofs.Order.{by_test, by_order}
use Rattle.tray_places.specs.Samples.{Sample}
use Rattle.tray_places.specs.Places.{among}
use Rattle.tray_places.specs.Counts.{one, times}

pub times_none : (test : Sample → Bool) → times test [] ≡ 0
unfolding times
times_none test = refl

pub times_one : (test : Sample → Bool) (s : Sample) → times test (s ∷ []) ≡ one (test s)
unfolding times
times_one test s = omega arith

pub times_append : (test : Sample → Bool) (xs ys : List Sample) → times test (xs ++ ys) ≡ times test xs + times test ys
unfolding times
times_append test [] ys = omega arith
times_append test (x ∷ xs) ys = omega (arith, times_append test xs ys)

module _ (h : ℕ → Bool) (s : ℕ → Sample) where
  -- the next place, free or held
  pub next_free : (i : ℕ) → h i ≡ false → among h s (suc i) ≡ among h s i ++ []
  unfolding among
  next_free i e = rw e

  pub next_held : (i : ℕ) → h i ≡ true → among h s (suc i) ≡ among h s i ++ (s i ∷ [])
  unfolding among
  next_held i e = rw e

  pub among_zero : among h s 0 ≡ []
  unfolding among
  among_zero = refl

  module _ (test : Sample → Bool) where
    times_free : (i : ℕ) → h i ≡ false → times test (among h s (suc i)) ≡ times test (among h s i)
    times_free i e =
        ap (times test) (next_free i e) ∙ times_append test (among h s i) [] ∙ omega (arith, times_none test)

    times_held : (i : ℕ) → h i ≡ true → times test (among h s (suc i)) ≡ times test (among h s i) + one (test (s i))
    times_held i e =
        ap (times test) (next_held i e) ∙ times_append test (among h s i) (s i ∷ []) ∙ ap (λ (n : ℕ). times test (among h s i) + n) (times_one test (s i))

    -- none that passes the test
    pub none_among : (n : ℕ) → ((k : ℕ) → k < n → h k ≡ true → test (s k) ≡ false) → times test (among h s n) ≡ 0
    none_among zero f = ap (times test) among_zero ∙ times_none test
    none_among (suc n) f =
        let before : times test (among h s n) ≡ 0 = none_among n (λ k l. f k (omega arith)) in
        by_test (h n)
        (λ e.
        let no : one (test (s n)) ≡ 0 = ap one (f n (omega arith) e) in
        times_held n e ∙ omega arith)
        (λ e. times_free n e ∙ before)

    -- one that passes it
    pub some_among : (k n : ℕ) → k < n → h k ≡ true → test (s k) ≡ true → 0 < times test (among h s n)
    some_among k zero l e t = absurd (omega arith)
    some_among k (suc n) l e t =
        by_order k n
        (λ b.
        let before : 0 < times test (among h s n) = some_among k n b e t in
        by_test (h n) (λ y. omega (arith, times_held n y)) (λ z. omega (arith, times_free n z)))
        (λ b.
        let is : k ≡ n = omega arith in
        let passes : one (test (s n)) ≡ 1 = ap one (rw is at t) in
        omega (arith, times_held n (rw is at e)))

  length_free : (i : ℕ) → h i ≡ false → length (among h s (suc i)) ≡ length (among h s i)
  length_free i e = ap length (next_free i e) ∙ length-append (among h s i) [] ∙ omega arith

  length_held : (i : ℕ) → h i ≡ true → length (among h s (suc i)) ≡ suc (length (among h s i))
  length_held i e = ap length (next_held i e) ∙ length-append (among h s i) (s i ∷ []) ∙ omega arith

  pub most_among : (n : ℕ) → length (among h s n) ≤ n
  most_among zero = omega (arith, ap length among_zero)
  most_among (suc n) =
      by_test (h n) (λ e. omega (arith, length_held n e, most_among n)) (λ e. omega (arith, length_free n e, most_among n))

  -- one place is free
  pub free_among : (k n : ℕ) → k < n → h k ≡ false → length (among h s n) < n
  free_among k zero l e = absurd (omega arith)
  free_among k (suc n) l e =
      by_order k n
      (λ b.
      let before = free_among k n b e in
      by_test (h n) (λ y. omega (arith, length_held n y)) (λ z. omega (arith, length_free n z)))
      (λ b.
      let is : k ≡ n = omega arith in
      omega (arith, length_free n (rw is at e), most_among n))

  -- all are held, and none is
  pub all_among : (n : ℕ) → ((k : ℕ) → k < n → h k ≡ true) → length (among h s n) ≡ n
  all_among zero f = ap length among_zero
  all_among (suc n) f =
      let before : length (among h s n) ≡ n = all_among n (λ k l. f k (omega arith)) in
      omega (arith, length_held n (f n (omega arith)))

  pub none_held : (n : ℕ) → ((k : ℕ) → k < n → h k ≡ false) → among h s n ≡ []
  none_held zero f = among_zero
  none_held (suc n) f = next_free n (f n (omega arith)) ∙ ap (λ (xs : List Sample). xs ++ []) (none_held n (λ k l. f k (omega arith)))

-- two trays that agree at the places below n, and at all but place k
module _ (h h' : ℕ → Bool) (s s' : ℕ → Sample) (test : Sample → Bool) where
  abbrev Agree : ℕ → Type 0
  Agree i = (h' i ≡ h i) × (s' i ≡ s i)

  same_place : (n a : ℕ) → Agree n → times test (among h' s' n) ≡ times test (among h s n) + a
      → times test (among h' s' (suc n)) ≡ times test (among h s (suc n)) + a
  same_place n a e f =
      by_test (h n)
      (λ y.
      let left = times_held h' s' test n (e.0 ∙ y) in
      let right = times_held h s test n y in
      let same : one (test (s' n)) ≡ one (test (s n)) = ap (λ (x : Sample). one (test x)) e.1 in
      omega arith)
      (λ z.
      let left = times_free h' s' test n (e.0 ∙ z) in
      let right = times_free h s test n z in
      omega arith)

  same_below : (n : ℕ) → ((i : ℕ) → i < n → Agree i) → times test (among h' s' n) ≡ times test (among h s n) + 0
  same_below zero f = ap (times test) (among_zero h' s' ∙ sym (among_zero h s)) ∙ omega arith
  same_below (suc n) f = same_place n 0 (f n (omega arith)) (same_below n (λ i l. f i (omega arith)))

  -- place k is free in the first and held in the second
  pub one_more : (k n : ℕ) → k < n → ((i : ℕ) → i < n → (i ≡ k → ⊥) → Agree i) → h k ≡ false → h' k ≡ true
      → times test (among h' s' n) ≡ times test (among h s n) + one (test (s' k))
  one_more k zero l f e e' = absurd (omega arith)
  one_more k (suc n) l f e e' =
      by_order k n
      (λ b. same_place n _ (f n (omega arith) (λ (z : n ≡ k). omega arith)) (one_more k n b (λ i m. f i (omega arith)) e e'))
      (λ b.
      let is : k ≡ n = omega arith in
      let below : times test (among h' s' n) ≡ times test (among h s n) + 0 =
      same_below n (λ (i : ℕ) (m : i < n). f i (omega arith) (λ (z : i ≡ k). omega arith)) in
      let left = times_held h' s' test n (rw is at e') in
      let right = times_free h s test n (rw is at e) in
      let here : one (test (s' k)) ≡ one (test (s' n)) = ap (λ (i : ℕ). one (test (s' i))) is in
      omega arith)
