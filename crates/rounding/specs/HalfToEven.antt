-- Change request #106: "Exact halves go to the even number." What `nearest` is, without saying how it is computed: it is at most a half away from the fraction,
-- and where it is exactly a half away it is even; no other whole number is that; and a greater fraction has no lower one. proofs/HalfToEven.antt shows it.
use Rattle.std.specs.Prelude.{ℕ, ◌*◌, ◌%◌, ◌<◌, ◌≤◌, ◌≡◌, ℤ, pos, ◌-ℤ◌, ◌*ℤ◌, ◌≤ℤ◌, nat_abs}
use Rattle.rounding.specs.Nearest.{nearest}

-- how far the whole number k is from z / d, counted in parts of 1 / d
abbrev pub distance : ℤ → ℕ → ℤ → ℕ
distance z d k = nat_abs (z -ℤ k *ℤ pos d)

-- k is z / d to the nearest, exactly a half to the even number
pub record HalfToEven (z : ℤ) (d : ℕ) (k : ℤ) : Type 0 where
  pub within_half : 2 * distance z d k ≤ d
  pub even_at_half : 2 * distance z d k ≡ d → nat_abs k % 2 ≡ 0

pub record EveryQuotient : Type 0 where
  -- `nearest` is such a number,
  pub is : (z : ℤ) (d : ℕ) → 0 < d → HalfToEven z d (nearest z d)
  -- it is the only one,
  pub only : (z : ℤ) (d : ℕ) (k : ℤ) → 0 < d → HalfToEven z d k → k ≡ nearest z d
  -- and where z / d is at most z' / d', `nearest z d` is at most `nearest z' d'`
  pub rises : (z z' : ℤ) (d d' : ℕ) → 0 < d → 0 < d' → (z *ℤ pos d') ≤ℤ (z' *ℤ pos d) → nearest z d ≤ℤ nearest z' d'
