-- The first place that passes a test.
use Prim.Native.Nat.{ℕ, zero, suc, ◌≤◌, ◌<◌}
use mathlib.Core.Path.{◌≡◌, refl, sym, ◌∙◌}
use mathlib.Core.Bool.{Bool, true, false}
use native.Mathlib.Omega.{arith}
use borrow.Author.Tests.{lt-ltb, le-ltb}
use Rattle.laws.proofs.Order.{by_test, by_order}
use Rattle.tray_places.specs.Places.{first}

module _ (t : ℕ → Bool) where
  pub first_zero : first t 0 ≡ 0
  unfolding first
  first_zero = refl

  module _ (n : ℕ) where
    earlier : first t n < n → first t (suc n) ≡ first t n
    unfolding first
    earlier h = rw (lt-ltb (first t n) n h)

    here : n ≤ first t n → t n ≡ true → first t (suc n) ≡ n
    unfolding first
    here h e = rw (le-ltb (first t n) n h, e)

    pub not_here : n ≤ first t n → t n ≡ false → first t (suc n) ≡ suc n
    unfolding first
    not_here h e = rw (le-ltb (first t n) n h, e)

  pub first_most : (n : ℕ) → first t n ≤ n
  first_most zero = rw first_zero (omega arith)
  first_most (suc n) =
      by_order (first t n) n (λ l. rw (earlier n l) (omega arith))
      (λ m. by_test (t n) (λ e. rw (here n m e) (omega arith)) (λ e. rw (not_here n m e) (omega arith)))

  -- none passes below i, and i passes
  pub first_found : (i n : ℕ) → first t i ≡ i → t i ≡ true → i < n → first t n ≡ i
  first_found i zero h e l = absurd (omega arith)
  first_found i (suc n) h e l =
      by_order i n
      (λ k. let before : first t n ≡ i = first_found i n h e k in earlier n (omega arith) ∙ before)
      (λ k. let same : i ≡ n = omega arith in here n (omega (arith, rw same at h)) (rw same at e) ∙ sym same)

  pub first_passes : (n : ℕ) → first t n < n → t (first t n) ≡ true
  first_passes zero h = absurd (omega arith)
  first_passes (suc n) h =
      by_order (first t n) n (λ l. rw (earlier n l) (first_passes n l))
      (λ m.
      by_test (t n) (λ e. rw (here n m e) e)
      (λ e. absurd (omega (arith, not_here n m e))))

  pub none_passes : (n : ℕ) → n ≤ first t n → (k : ℕ) → k < n → t k ≡ false
  none_passes zero h k l = absurd (omega arith)
  none_passes (suc n) h k l =
      by_order (first t n) n (λ a. absurd (omega (arith, earlier n a)))
      (λ m.
      by_test (t n) (λ e. absurd (omega (arith, here n m e)))
      (λ e. by_order k n (λ b. none_passes n m k b) (λ b. let same : k ≡ n = omega arith in rw same e)))

  pub none_before : (n i : ℕ) → i < first t n → t i ≡ false
  none_before zero i l = absurd (omega (arith, first_zero))
  none_before (suc n) i l =
      by_order (first t n) n (λ a. none_before n i (omega (arith, earlier n a)))
      (λ m.
      by_test (t n) (λ e. none_passes n m i (omega (arith, here n m e)))
      (λ e. none_passes (suc n) (omega (arith, not_here n m e)) i (omega (arith, not_here n m e))))
