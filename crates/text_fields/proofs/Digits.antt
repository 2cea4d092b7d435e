-- Decimal digits: those of the definition are those that the library prints, of any number of 64 bits; and how many digits a number has.
use Rattle.std.proofs.Common.{ℕ, zero, suc, ◌+◌, ◌-◌, ◌/◌, ◌^◌, ◌≤◌, ◌<◌, ◌≡◌, ap, ◌∙◌, ℤ, pos, negsuc, List, [], ◌∷◌, ◌++◌, length, length-append, arith}
use mathlib.Core.Bool.{cond}
use native.Mathlib.Numerals.{add-one}
use borrow.Author.Tests.{lt-ltb, le-ltb}
use lib.Dec.{ltb}
use lib.Signed.{mag}
use Rattle.std.specs.Fmt as printed
use Rattle.std.proofs.lemmas.Fmt.{decimal_by_steps}
use Rattle.laws.specs.Bits.{span32, half32}
use Rattle.laws.proofs.Order.{by_order}
use Rattle.text_fields.specs.Fields.{digit, digits, decimal, signed_decimal}

-- the digits do not depend on how many are allowed, once they are enough
enough : (most more n : ℕ) → n < most → n < more → digits most n ≡ digits more n
enough zero more n h k = absurd (omega arith)
enough (suc most) zero n h k = absurd (omega arith)
enough (suc most) (suc more) n h k =
    by_order n 10
    (λ (l : n < 10). simp (lt-ltb _ _ l))
    (λ (l : 10 ≤ n).
    ap (λ (front : List ℕ). cond (ltb n 10) (digit n) (front ++ digit n)) (enough most more (n / 10) (omega arith) (omega arith)))

one_digit : (n : ℕ) → n < 10 → decimal n ≡ digit n
unfolding decimal
one_digit n h = rw add-one (simp (lt-ltb _ _ h))

more_digits : (n : ℕ) → 10 ≤ n → decimal n ≡ decimal (n / 10) ++ digit n
unfolding decimal
more_digits n h =
    rw (add-one n, le-ltb _ _ h) (ap (λ (front : List ℕ). front ++ digit n) (enough n (n / 10 + 1) (n / 10) (omega arith) (omega arith)))

pub length_one : (n : ℕ) → n < 10 → length (decimal n) ≡ 1
length_one n h = ap length (one_digit n h)

pub length_more : (n : ℕ) → 10 ≤ n → length (decimal n) ≡ length (decimal (n / 10)) + 1
length_more n h = ap length (more_digits n h) ∙ length-append (decimal (n / 10)) _

pub as_printed : (n : ℕ) → n < 2 ^ 64 → decimal n ≡ printed.decimal n
as_printed =
    decimal_by_steps (λ n text. decimal n ≡ text)
    (λ n h. one_digit n h ∙ ap (λ (d : ℕ). (48 + d) ∷ []) (omega arith))
    (λ n front h e. more_digits n h ∙ ap (λ (text : List ℕ). text ++ digit n) e)

pub signed_as_printed : (z : ℤ) → mag z < 2 ^ 63 → signed_decimal z ≡ printed.signed_decimal z
signed_as_printed (pos n) h = as_printed n (omega arith)
signed_as_printed (negsuc n) h = rw add-one (ap (λ (text : List ℕ). 45 ∷ text) (as_printed (suc n) (omega arith)))

-- a number below 10^(k + 1) has at most k + 1 digits
pub few_digits : (k n : ℕ) → n < 10 ^ suc k → length (decimal n) ≤ suc k
few_digits zero n h = omega (arith, length_one n (omega arith))
few_digits (suc k) n h =
    by_order n 10
    (λ (l : n < 10). omega (arith, length_one n l))
    (λ (l : 10 ≤ n). omega (arith, length_more n l, few_digits k (n / 10) (omega arith)))

-- a number of 32 bits, an index behind its minus sign, and the whole part of a viscosity
pub digits_of_32_bits : (n : ℕ) → n < 2 ^ 32 → length (decimal n) ≤ 10
digits_of_32_bits n h = few_digits 9 n (omega arith)

ten_below : (bits : ℕ) → half32 ≤ bits → length (decimal (span32 - 1 - bits + 1)) ≤ 10
ten_below bits h = digits_of_32_bits _ (omega arith)

pub digits_of_whole : (x : ℕ) → x < 2 ^ 32 → length (decimal (x / 1000)) ≤ 7
digits_of_whole x h = few_digits 6 (x / 1000) (omega arith)
