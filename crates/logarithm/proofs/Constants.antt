-- The logarithms that code holds as constants, certified: each is at most 1 below the logarithm in units of 1 / E.
use Prim.Native.Nat.{ℕ, ◌+◌, ◌*◌, ◌^◌, ◌≤◌}
use mathlib.Core.Path.{sym, ◌∙◌, ap}
use native.Mathlib.Nat.{le_of_eq}
use lib.Dec.{T}
use Rattle.laws.proofs.Powers.{pow_mul}
use Rattle.logarithm.specs.Scale.{scale, scale_is, scale_number, log10, log1000, log10000000}
use Rattle.logarithm.proofs.Certificate.{least, most, at_least, at_most, whole_least, whole_most}

pub record CertifiedLogarithm (x l : ℕ) : Type 0 where
  pub below : 2 ^ l ≤ x ^ scale
  pub above : x ^ scale ≤ 2 ^ (l + 1)

-- x, the whole part s of its logarithm, and the scaled logarithm l
pub certified : (s x l : ℕ) → T (at_least 36 s x 1 l) → T (at_most 36 s x 1 (l + 1)) → CertifiedLogarithm x l
certified s x l a b = record { below = whole_least 36 s x l scale scale_is a; above = whole_most 36 s x (l + 1) scale scale_is b }

pub ten : CertifiedLogarithm 10 log10
unfolding at_least at_most least most
ten = certified 3 10 log10 tt tt

pub thousand : CertifiedLogarithm 1000 log1000
unfolding at_least at_most least most
thousand = certified 9 1000 log1000 tt tt

pub ten_million : CertifiedLogarithm 10000000 log10000000
unfolding at_least at_most least most
ten_million = certified 23 10000000 log10000000 tt tt

-- 2 and 128, whose logarithms are whole
pub two_below : 2 ^ scale_number ≤ 2 ^ scale
two_below = le_of_eq (ap (λ (n : ℕ). 2 ^ n) (sym scale_is))

pub one_two_eight_above : 128 ^ scale ≤ 2 ^ (7 * scale_number)
one_two_eight_above = le_of_eq (sym (pow_mul 2 7 scale) ∙ ap (λ (n : ℕ). 2 ^ (7 * n)) scale_is)
