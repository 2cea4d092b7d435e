-- The order of questions 21 and 22: which number an oil that they refuse gets, and what holds of an oil that passes them.
use Prim.Native.Nat.{ℕ, ◌<◌, ◌≤◌}
use mathlib.Core.Path.{◌≡◌}
use native.Mathlib.Omega.{arith}
use borrow.Author.Tests.{le-leb, lt-leb}
use Rattle.laws.proofs.Order.{by_order}
use Rattle.gravity_constant.specs.declared.questions.Refusal.{Refusal}
use Rattle.gravity_constant.specs.declared.questions.Refusal.TheVariants.{ViscosityOutside, DensityOutside, DivisorNotAboveZero}
use Rattle.gravity_constant.specs.declared.questions.Temperature.{Temperature}
use Rattle.gravity_constant.specs.Questions.{least_viscosity, greatest_viscosity, least_density, greatest_density, refusal, number_of_refusal}
use Rattle.gravity_constant.specs.Preconditions.{Passes}

module _ (t : Temperature) (v d : ℕ) where
  pub refused_low : v < least_viscosity t → refusal t v d ≡ 21
  refused_low a = simp (lt-leb (least_viscosity t) v a)

  pub refused_high : least_viscosity t ≤ v → greatest_viscosity t < v → refusal t v d ≡ 21
  refused_high a b = simp (le-leb (least_viscosity t) v a, lt-leb v (greatest_viscosity t) b)

  module _ (a : least_viscosity t ≤ v) (b : v ≤ greatest_viscosity t) where
    pub refused_light : d < least_density → refusal t v d ≡ 22
    refused_light e = simp (le-leb (least_viscosity t) v a, le-leb v (greatest_viscosity t) b, lt-leb least_density d e)

    pub refused_heavy : least_density ≤ d → greatest_density < d → refusal t v d ≡ 22
    refused_heavy e f = simp (le-leb (least_viscosity t) v a, le-leb v (greatest_viscosity t) b, le-leb least_density d e, lt-leb d greatest_density f)

  pub none_refuses : Passes t v d → refusal t v d ≡ 0
  none_refuses a =
      simp (le-leb (least_viscosity t) v a.least, le-leb v (greatest_viscosity t) a.most, le-leb least_density d a.lightest, le-leb d greatest_density a.heaviest)

-- the questions one after the other: one of them refuses, or the oil passes
pub by_questions : {P : Type 0} (t : Temperature) (v d : ℕ) → ((r : Refusal) → refusal t v d ≡ number_of_refusal r → P) → (Passes t v d → P) → P
by_questions t v d refused all =
    by_order v (least_viscosity t) (λ a. refused ViscosityOutside (refused_low t v d a))
    (λ a. by_order (greatest_viscosity t) v (λ b. refused ViscosityOutside (refused_high t v d a b))
    (λ b. by_order d least_density (λ e. refused DensityOutside (refused_light t v d a b e))
    (λ e. by_order greatest_density d (λ f. refused DensityOutside (refused_heavy t v d a b e f))
    (λ f. all (record { least = a; most = b; lightest = e; heaviest = f })))))

pub some_number : (r : Refusal) → 0 < number_of_refusal r
some_number ViscosityOutside = omega arith
some_number DensityOutside = omega arith
some_number DivisorNotAboveZero = omega arith

pub passes : (t : Temperature) (v d : ℕ) → refusal t v d ≡ 0 → Passes t v d
passes t v d e = by_questions t v d (λ r f. absurd (omega (arith, some_number r))) (λ a. a)
