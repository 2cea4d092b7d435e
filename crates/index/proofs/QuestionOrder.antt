-- The order of questions 1 to 4: which number a refused pair gets, and what holds of a pair that passes all of them.
use Prim.Native.Nat.{ℕ, ◌<◌, ◌≤◌}
use mathlib.Core.Path.{◌≡◌}
use native.Mathlib.Omega.{arith}
use borrow.Author.Tests.{le-leb, lt-leb, lt-ltb, le-ltb}
use Rattle.laws.proofs.Order.{by_order}
use Rattle.reference.specs.Viscosity.{least100, greatest100, greatest40}
use Rattle.index.specs.Questions.{refusal}
use Rattle.index.specs.Preconditions.{Passes}

pub refused_1 : (u y : ℕ) → y < least100 → refusal u y ≡ 1
refused_1 u y a = simp (lt-leb least100 y a)

pub refused_2 : (u y : ℕ) → least100 ≤ y → greatest100 < y → refusal u y ≡ 2
refused_2 u y a b = simp (le-leb least100 y a, lt-leb y greatest100 b)

pub refused_3 : (u y : ℕ) → least100 ≤ y → y ≤ greatest100 → greatest40 < u → refusal u y ≡ 3
refused_3 u y a b d = simp (le-leb least100 y a, le-leb y greatest100 b, lt-leb u greatest40 d)

pub refused_4 : (u y : ℕ) → least100 ≤ y → y ≤ greatest100 → u ≤ greatest40 → u ≤ y → refusal u y ≡ 4
refused_4 u y a b d e = simp (le-leb least100 y a, le-leb y greatest100 b, le-leb u greatest40 d, le-ltb y u e)

pub none_refuses : (u y : ℕ) → Passes u y → refusal u y ≡ 0
none_refuses u y a = simp (le-leb least100 y a.least, le-leb y greatest100 a.most, le-leb u greatest40 a.thickest, lt-ltb y u a.thicker)

-- the questions one after the other: one of them refuses, or the pair passes
pub by_questions : {P : Type 0} (u y : ℕ) → ((n : ℕ) → refusal u y ≡ n → 0 < n → P) → (Passes u y → P) → P
by_questions u y refused all =
    by_order y least100 (λ a. refused 1 (refused_1 u y a) (omega arith))
    (λ a. by_order greatest100 y (λ b. refused 2 (refused_2 u y a b) (omega arith))
    (λ b. by_order greatest40 u (λ d. refused 3 (refused_3 u y a b d) (omega arith))
    (λ d. by_order y u
    (λ e. all (record { least = a; most = b; thickest = d; thicker = e }))
    (λ e. refused 4 (refused_4 u y a b d e) (omega arith)))))

pub passes : (u y : ℕ) → refusal u y ≡ 0 → Passes u y
passes u y e = by_questions u y (λ n r p. absurd (omega arith)) (λ a. a)

-- a refused pair's number is one of 1 to 4
pub number_most : (u y : ℕ) → refusal u y ≤ 4
number_most u y =
    by_order y least100 (λ a. omega (arith, refused_1 u y a))
    (λ a. by_order greatest100 y (λ b. omega (arith, refused_2 u y a b))
    (λ b. by_order greatest40 u (λ d. omega (arith, refused_3 u y a b d))
    (λ d. by_order y u
    (λ e. omega (arith, none_refuses u y (record { least = a; most = b; thickest = d; thicker = e })))
    (λ e. omega (arith, refused_4 u y a b d e)))))
