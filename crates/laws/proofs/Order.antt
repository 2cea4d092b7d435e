-- A proof by cases on a test and on the order of two numbers, and that a quotient does not fall as its dividend rises and its divisor falls.
use Prim.Native.Nat.{ℕ, ◌/◌, ◌<◌, ◌≤◌}
use mathlib.Core.Path.{◌≡◌, refl}
use mathlib.Core.Bool.{Bool, true, false}
use lib.Dec.{ltb}
use native.Mathlib.Nat.{div-mul-le_self, le-div_iff_mul-le, mul-le-mul_left, le_trans}
use borrow.Author.Tests.{ltb-true, ltb-false}

pub by_test : {P : Type 0} (b : Bool) → (b ≡ true → P) → (b ≡ false → P) → P
by_test true f g = f refl
by_test false f g = g refl

pub by_order : {P : Type 0} (a b : ℕ) → (a < b → P) → (b ≤ a → P) → P
by_order a b f g = by_test (ltb a b) (λ e. f (ltb-true a b e)) (λ e. g (ltb-false a b e))

pub quotient_le : (a b d e : ℕ) → a ≤ b → d ≤ e → 0 < d → a / e ≤ b / d
quotient_le a b d e h l p = (le-div_iff_mul-le p).1 (le_trans (mul-le-mul_left (a / e) l) (le_trans (div-mul-le_self a e) h))
