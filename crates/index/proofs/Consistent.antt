-- What p and P show is never contradicted by another p and P: the two viscosity inequalities give p ≤ P, since Y is above 1, and the two index inequalities
-- then give c(r) ≤ c(s). Of a thicker oil they give p < P and c(r) < c(s).
use Prim.Native.Nat.{ℕ, suc, ◌*◌, ◌^◌, ◌≤◌, ◌<◌}
use native.Mathlib.Omega.{arith}
use native.Mathlib.Nat.{le_trans, mul-le-mul_right, one-le-pow, pow-le-pow_left, pow-le-pow_right, pow-suc, pow-lt-pow_left}
use Rattle.laws.proofs.Order.{by_order}
use Rattle.laws.proofs.Powers.{ring, root, exponents_in_order, exponents_apart}
use Rattle.reference.specs.Viscosity.{in_units}
use Rattle.reference.specs.Basis.{h_at}
use Rattle.logarithm.specs.Fractions.{Q, Q_is}
use Rattle.shown_index.specs.Terms.{c}
use Rattle.index.specs.ProcedureB.{AtLeast, AtMost}
use Rattle.index.specs.Consistent.{Consistent}

pub lower_at_most_upper : (u y r s p P : ℕ) → 1000 < y → 0 < u → AtLeast u y r p → AtMost u y s P → p ≤ P
lower_at_most_upper u y r s p P l z a b =
    exponents_in_order 1000 y (in_units u ^ Q) (h_at y ^ Q) p P l (one-le-pow Q (in_units u) (omega arith)) a.viscosity b.viscosity

-- what 10^p · 10^(7Q) is at least and 10^P · 10^(7Q) is at most, with p below P: every power is a variable
apart_algebra : (a b p P t : ℕ) → 0 < a → a ≤ p * t → P * t ≤ b → p * 10 ≤ P → a < b
apart_algebra a b p P t z i j k = omega (arith, z, i, j, simp ring at (mul-le-mul_right t k))

pub consistent : Consistent
consistent =
    record {
      in_order = λ u y r s p P l z a b.
          let t : 10 ^ p * 10 ^ (7 * Q) ≤ 10 ^ P * 10 ^ (7 * Q) =
          mul-le-mul_right (10 ^ (7 * Q)) (pow-le-pow_right (omega arith) (lower_at_most_upper u y r s p P l z a b)) in
          let x : c r ≤ c s = root Q (omega (arith, Q_is)) (le_trans a.index (le_trans t b.index)) in
          omega arith;
      thicker = λ u v y r s p P l h a b.
          let more : in_units u ^ Q < in_units v ^ Q = pow-lt-pow_left (omega arith) (λ e. omega (arith, Q_is)) in
          let n : p < P = exponents_apart 1000 y (in_units u ^ Q) (in_units v ^ Q) (h_at y ^ Q) p P (omega arith) l more a.viscosity b.viscosity in
          let up : 10 ^ suc p ≤ 10 ^ P = pow-le-pow_right (omega arith) n in
          let x : c r ^ Q < c s ^ Q =
          apart_algebra (c r ^ Q) (c s ^ Q) (10 ^ p) (10 ^ P) (10 ^ (7 * Q)) (one-le-pow Q (c r) (omega arith)) a.index b.index (rw pow-suc at up) in
          by_order r s (λ less. less) (λ most. let back : c s ^ Q ≤ c r ^ Q = pow-le-pow_left (omega arith) Q in absurd (omega arith));
    }
