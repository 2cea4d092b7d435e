-- What the inner functions ask of their callers.
use Rattle.std.specs.Prelude.{ℕ, ◌+◌, ◌*◌, ◌%◌, ◌<◌, ◌≤◌, ◌≡◌}
use Rattle.laws.specs.Bits.{half32}

-- a quarter of the numbers that 64 bits hold
abbrev pub quarter64 : ℕ
quarter64 = 4611686018427387904

-- w − x / d, rounded, fits 32 bits, and what is computed on the way fits 64; w less an even number is even
pub record QuotientFits (w x d : ℕ) : Type 0 where
  pub some : 0 < d
  pub even_w : w % 2 ≡ 0
  pub small_w : w < half32
  pub small_x : x ≤ quarter64
  pub small_d : d ≤ quarter64
  pub fits : x + d ≤ half32 * d
