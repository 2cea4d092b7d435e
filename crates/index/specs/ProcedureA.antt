-- Document 01, 'Procedure A, u at or above H': "Index = 100·(L − U)/(L − H), with U = u·10^7, rounded to the nearest whole number .. It may be
-- negative." Exactly a half, which went to the greater there, goes to the even number since change request #106. How a quotient is rounded stands in crate
-- rounding (`nearest`).
use Rattle.std.specs.Prelude.{ℕ, ◌-◌, ℤ, pos, ◌-ℤ◌, ◌*ℤ◌}
use Rattle.reference.specs.Viscosity.{in_units}
use Rattle.reference.specs.Basis.{l_at, h_at}
use Rattle.rounding.specs.Nearest.{nearest}

-- the index from L, H and U
unfoldable pub rounded_a : ℕ → ℕ → ℕ → ℤ
rounded_a l h u = nearest (pos 100 *ℤ (pos l -ℤ pos u)) (l - h)

-- the index of a pair; the paper's U, u in the units of L and H, is `in_units u`
unfoldable pub index_a : ℕ → ℕ → ℤ
index_a u y = rounded_a (l_at y) (h_at y) (in_units u)
