-- Fractions over Q, and when one of them is at or below, or at or above, the logarithm to the base 10 of x / u, told by whole powers.
--
-- f / Q ≤ log10(x / u) says 10^f ≤ (x / u)^Q, which is 10^f · u^Q ≤ x^Q. Where f is 0 that is u^Q ≤ x^Q; where f is below zero, the power of ten
-- stands on the other side, with the exponent −f. (`negsuc n` is −(n + 1).) A fraction at or above the logarithm is the same the other way round.
use Rattle.std.specs.Prelude.{◌≡◌, refl, ℕ, zero, suc, ◌*◌, ◌^◌, ◌≤◌, ℤ, pos, negsuc}

-- Document 01, 'Procedure B, u below H': "Put Q = 16,777,216"; change request #101: "two fractions over 16,777,216". The name is shut, so that
-- nothing ever computes a power to it: laws are stated over any exponent and used at Q, and `Q_is` is used only where what is left is linear
pub Q : ℕ
Q = 16777216

pub Q_is : Q ≡ 16777216
unfolding Q
Q_is = refl

-- the same as a power, so that no slip in its digits goes unseen
pub Q_power : Q ≡ 2 ^ 24
unfolding Q
Q_power = refl

-- Q as the code holds it, for products that are computed
abbrev pub Q_number : ℕ
Q_number = 16777216

-- f / Q ≤ log10(x / u)
abbrev pub AtOrBelowLog : ℕ → ℕ → ℤ → Type 0
AtOrBelowLog x u (pos zero) = u ^ Q ≤ x ^ Q
AtOrBelowLog x u (pos (suc n)) = 10 ^ suc n * u ^ Q ≤ x ^ Q
AtOrBelowLog x u (negsuc n) = u ^ Q ≤ 10 ^ suc n * x ^ Q

-- log10(x / u) ≤ f / Q
abbrev pub AtOrAboveLog : ℕ → ℕ → ℤ → Type 0
AtOrAboveLog x u (pos zero) = x ^ Q ≤ u ^ Q
AtOrAboveLog x u (pos (suc n)) = x ^ Q ≤ 10 ^ suc n * u ^ Q
AtOrAboveLog x u (negsuc n) = 10 ^ suc n * x ^ Q ≤ u ^ Q
