-- From enclosed logarithms to orders of powers, and back, over any scale S and any exponents p and q.
-- An upper logarithm of x is an A with x^S ≤ 2^A, a lower one is an a with 2^a ≤ x^S; take 1 and 0 where a factor is missing.
use mathlib.Core.Path.{◌≡◌, sym, ap₂, ◌∙◌}
use Prim.Native.Nat.{ℕ, ◌+◌, ◌*◌, ◌^◌, ◌≤◌, ◌<◌}
use native.Mathlib.Nat.{le_trans, le_of_eq, pow-le-pow_left, mul-le-mul}
use native.Mathlib.Omega.{arith}
use lib.Pow.{pow-add, pow_mono}
use Rattle.laws.proofs.Powers.{mul_pow, pow_mul, pow_swap, one_pow, root, exponents_le}
use Rattle.logarithm.specs.Scale.{scale, scale_is}

raised : (x y p q S : ℕ) → (x ^ p * y ^ q) ^ S ≡ (x ^ S) ^ p * (y ^ S) ^ q
raised x y p q S = mul_pow (x ^ p) (y ^ q) S ∙ ap₂ ◌*◌ (pow_swap x p S) (pow_swap y q S)

twos : (a b p q : ℕ) → (2 ^ a) ^ p * (2 ^ b) ^ q ≡ 2 ^ (a * p + b * q)
twos a b p q = sym (pow-add 2 (a * p) (b * q) ∙ ap₂ ◌*◌ (pow_mul 2 a p) (pow_mul 2 b q))

-- From logarithms to powers: A and B are upper logarithms of x and y, c and d lower ones of z and w.
pub powers_le :
    (S p q x y z w A B c d : ℕ) → 0 < S → x ^ S ≤ 2 ^ A → y ^ S ≤ 2 ^ B → 2 ^ c ≤ z ^ S → 2 ^ d ≤ w ^ S
    → A * p + B * q ≤ c * p + d * q → x ^ p * y ^ q ≤ z ^ p * w ^ q
powers_le S p q x y z w A B c d s hx hy hz hw h =
    root S s
    (le_trans (le_of_eq (raised x y p q S))
    (le_trans (mul-le-mul (pow-le-pow_left hx p) (pow-le-pow_left hy q))
    (le_trans (le_of_eq (twos A B p q))
    (le_trans (pow_mono h)
    (le_trans (le_of_eq (sym (twos c d p q)))
    (le_trans (mul-le-mul (pow-le-pow_left hz p) (pow-le-pow_left hw q)) (le_of_eq (sym (raised z w p q S)))))))))

-- From powers to logarithms: a and b are lower logarithms of x and y, C and D upper ones of z and w.
pub logs_le :
    (S p q x y z w a b C D : ℕ) → 2 ^ a ≤ x ^ S → 2 ^ b ≤ y ^ S → z ^ S ≤ 2 ^ C → w ^ S ≤ 2 ^ D
    → x ^ p * y ^ q ≤ z ^ p * w ^ q → a * p + b * q ≤ C * p + D * q
logs_le S p q x y z w a b C D hx hy hz hw h =
    exponents_le 2 _ _ (omega arith)
    (le_trans (le_of_eq (sym (twos a b p q)))
    (le_trans (mul-le-mul (pow-le-pow_left hx p) (pow-le-pow_left hy q))
    (le_trans (le_of_eq (sym (raised x y p q S)))
    (le_trans (pow-le-pow_left h S)
    (le_trans (le_of_eq (raised z w p q S))
    (le_trans (mul-le-mul (pow-le-pow_left hz p) (pow-le-pow_left hw q)) (le_of_eq (twos C D p q))))))))

-- the scale that `log2_of` has
pub scale_positive : 0 < scale
scale_positive = rw scale_is (omega arith)

-- the logarithm of a missing factor
pub one_above : (S : ℕ) → 1 ^ S ≤ 2 ^ 0
one_above S = le_of_eq (one_pow S)

pub one_below : (S : ℕ) → 2 ^ 0 ≤ 1 ^ S
one_below S = le_of_eq (sym (one_pow S))
