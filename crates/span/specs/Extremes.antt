-- "the least index over all y .. and the greatest over all y" (#107): what it is for a number to be the least, or the greatest, of what f gives to the whole
-- numbers from one to another; and that number.
use Rattle.std.specs.Prelude.{ℕ, zero, suc, ◌+◌, ◌-◌, ◌≤◌, ◌≡◌, Bool, ℤ, ◌≤ℤ◌}
use Rattle.std.specs.Int.{int_min, int_max}
use Rattle.std.specs.Int.Signed.{lt_z}
use Rattle.span.specs.declared.extreme.Extreme.{Extreme}
use Rattle.span.specs.declared.extreme.Extreme.TheVariants.{Least, Greatest}

-- j is not beyond k: not lower than k, the least; not higher than k, the greatest
abbrev pub NotBeyond : Extreme → ℤ → ℤ → Type 0
NotBeyond Least k j = k ≤ℤ j
NotBeyond Greatest k j = j ≤ℤ k

-- k is one of the numbers that f gives, and none of them is beyond k
pub record IsExtreme (which : Extreme) (f : ℕ → ℤ) (from to : ℕ) (k : ℤ) : Type 0 where
  pub at : ℕ
  pub first : from ≤ at
  pub last : at ≤ to
  pub is : f at ≡ k
  pub none_beyond : (n : ℕ) → from ≤ n → n ≤ to → NotBeyond which k (f n)

-- it is one of them, and none is lower; it is one of them, and none is higher
abbrev pub IsLeast : (ℕ → ℤ) → ℕ → ℕ → ℤ → Type 0
IsLeast = IsExtreme Least

abbrev pub IsGreatest : (ℕ → ℤ) → ℕ → ℕ → ℤ → Type 0
IsGreatest = IsExtreme Greatest

-- ---- the number that is so

-- the lesser of two, or the greater
abbrev pub of_two : Extreme → ℤ → ℤ → ℤ
of_two Least a b = int_min a b
of_two Greatest a b = int_max a b

-- of what f gives to `from` and to the n numbers after it
unfoldable pub extreme_after : Extreme → (ℕ → ℤ) → ℕ → ℕ → ℤ
extreme_after which f from zero = f from
extreme_after which f from (suc n) = of_two which (extreme_after which f from n) (f (from + suc n))

unfoldable pub extreme_of : Extreme → (ℕ → ℤ) → ℕ → ℕ → ℤ
extreme_of which f from to = extreme_after which f from (to - from)

-- it is the least, or the greatest, and no other number is. proofs/Extremes.antt shows it
pub record Extremes : Type 0 where
  pub is : (which : Extreme) (f : ℕ → ℤ) (from to : ℕ) → from ≤ to → IsExtreme which f from to (extreme_of which f from to)
  pub only : (which : Extreme) (f : ℕ → ℤ) (from to : ℕ) (k : ℤ) → IsExtreme which f from to k → k ≡ extreme_of which f from to

-- ---- for inner functions alone

-- is a beyond b?
abbrev pub is_beyond : Extreme → ℤ → ℤ → Bool
is_beyond Least a b = lt_z a b
is_beyond Greatest a b = lt_z b a
