-- The refusals have the numbers of document 01, and the two are one and the same list.
use Prim.Native.Nat.{ℕ, zero, suc, ◌<◌, ◌≤◌}
use mathlib.Core.Path.{◌≡◌, refl}
use native.Mathlib.Omega.{arith}
use Rattle.reference.specs.declared.refusal.Refusal.{Refusal}
use Rattle.reference.specs.declared.refusal.Refusal.TheVariants.{ThinAt100, ThickAt100, ThickAt40, NotThicker}
use Rattle.reference.specs.Refusal.{number_of_refusal, refusal_of, NumberedRefusals}

of_number : (n : ℕ) → 0 < n → n ≤ 4 → number_of_refusal (refusal_of n) ≡ n
of_number zero low high = absurd (omega (arith, low))
of_number (suc zero) low high = refl
of_number (suc (suc zero)) low high = refl
of_number (suc (suc (suc zero))) low high = refl
of_number (suc (suc (suc (suc zero)))) low high = refl
of_number (suc (suc (suc (suc (suc n))))) low high = absurd (omega (arith, high))

of_refusal : (r : Refusal) → refusal_of (number_of_refusal r) ≡ r
of_refusal ThinAt100 = refl
of_refusal ThickAt100 = refl
of_refusal ThickAt40 = refl
of_refusal NotThicker = refl

pub numbered_refusals : NumberedRefusals
numbered_refusals =
    record { thin_at_100 = refl; thick_at_100 = refl; thick_at_40 = refl; not_thicker = refl; of_number = of_number; of_refusal = of_refusal }
