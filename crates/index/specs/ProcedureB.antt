-- Document 01, 'Procedure B, u below H': "index = (10^N − 1)/0.00715 + 100, with Y^N = H/U", enclosed by whole-number powers of two fractions.
-- r is an index in hundredths; p and P are the numerators of the two fractions over Q. Q and c(r) stand in crate shown_index.
use Rattle.std.specs.Prelude.{ℕ, ◌+◌, ◌*◌, ◌-◌, ◌^◌, ◌≤◌}
use Rattle.reference.specs.Viscosity.{in_units}
use Rattle.reference.specs.Basis.{h_at}
use Rattle.logarithm.specs.Fractions.{Q}
use Rattle.shown_index.specs.Terms.{c}
use Rattle.shown_index.specs.declared.Mark.{Mark}
use Rattle.shown_index.specs.declared.Mark.TheVariants as mark

-- "'At least r' is shown by p when c(r)^Q ≤ 10^p · 10^(7Q) and y^p · U^Q ≤ 1000^p · H^Q."
pub record AtLeast (u y r p : ℕ) : Type 0 where
  pub index : c r ^ Q ≤ 10 ^ p * 10 ^ (7 * Q)
  pub viscosity : y ^ p * in_units u ^ Q ≤ 1000 ^ p * h_at y ^ Q

-- "'At most r' is shown by P when 10^P · 10^(7Q) ≤ c(r)^Q and 1000^P · H^Q ≤ y^P · U^Q."
pub record AtMost (u y r P : ℕ) : Type 0 where
  pub index : 10 ^ P * 10 ^ (7 * Q) ≤ c r ^ Q
  pub viscosity : 1000 ^ P * h_at y ^ Q ≤ y ^ P * in_units u ^ Q

-- "Settled k: at least 100k − 50 and at most 100k + 50."
pub record SettledAt (u y k p P : ℕ) : Type 0 where
  pub at_least : AtLeast u y (100 * k - 50) p
  pub at_most : AtMost u y (100 * k + 50) P

-- "Near k: at least 100k − 51 and at most 100k − 49."
pub record NearAt (u y k p P : ℕ) : Type 0 where
  pub at_least : AtLeast u y (100 * k - 51) p
  pub at_most : AtMost u y (100 * k - 49) P

-- what a mark says of k, p and P
abbrev pub Marked : Mark → ℕ → ℕ → ℕ → ℕ → ℕ → Type 0
Marked mark.Settled u y k p P = SettledAt u y k p P
Marked mark.Near u y k p P = NearAt u y k p P
