-- A sequence that falls nowhere from one number to the next falls nowhere.
use Prim.Native.Nat.{ℕ, zero, suc, ◌+◌, ◌-◌, ◌<◌, ◌≤◌}
use mathlib.Core.Path.{◌≡◌, sym}
use native.Mathlib.Omega.{arith}
use native.Mathlib.Nat.{le_refl, le_trans, add-zero, add-suc}
use native.Mathlib.Numerals.{add-one}

module _ (f : ℕ → ℕ) (n : ℕ) (next : (i : ℕ) → i < n → f i ≤ f (i + 1)) where
  climb : (i d : ℕ) → i + d ≤ n → f i ≤ f (i + d)
  climb i zero h = rw (add-zero i) (le_refl _)
  climb i (suc d) h =
      let one : suc (i + d) ≡ i + d + 1 = sym (add-one (i + d)) in
      le_trans (climb i d (omega arith)) (rw (add-suc i d, one) (next (i + d) (omega arith)))

  pub never_falls : (i j : ℕ) → i ≤ j → j ≤ n → f i ≤ f j
  never_falls i j a b = let e : i + (j - i) ≡ j = omega arith in rw e at (climb i (j - i) (omega arith))
