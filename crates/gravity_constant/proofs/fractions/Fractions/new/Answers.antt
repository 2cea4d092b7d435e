-- The logarithm and the lower n are within what the code asks for (proofs/Enclosure.antt).
use Prim.Native.Nat.{ℕ, ◌≤◌, ◌+◌}
use mathlib.Core.Path.{sym, ap, subst₂}
use native.Mathlib.Omega.{arith}
use Rattle.gravity_constant.specs.Viscosity.{KinematicViscosity}
use Rattle.gravity_constant.specs.declared.questions.Temperature.{Temperature}
use Rattle.gravity_constant.specs.Chosen.{apart, most_upper}
use Rattle.gravity_constant.proofs.Enclosure.{limits}
use Rattle.gravity_constant.proofs.fractions.Fractions.new.Goals as goal

pub lower_from-requires : goal.lower_from-requires
lower_from-requires c = (limits c.args.viscosity.temperature _ _ c.argument.ensures.2 c.log2_scaled.ensures).0

pub invariant_of-lower : goal.invariant_of-lower
invariant_of-lower c =
    let same = ap (λ (v : KinematicViscosity). v.temperature) c.viscosity.view_is in
    let room = subst₂ (λ (n : ℕ) (t : Temperature). n + apart ≤ most_upper t) (sym c.lower_from.ensures) (sym same)
    (limits c.args.viscosity.temperature _ _ c.argument.ensures.2 c.log2_scaled.ensures).1 in
    record { within = omega (arith, room) }

pub invariant_of-result : goal.invariant_of-result
invariant_of-result c =
    let same = ap (λ (v : KinematicViscosity). v.temperature) c.viscosity.view_is in
    record {
      room =
          subst₂ (λ (n : ℕ) (t : Temperature). n + apart ≤ most_upper t) (sym c.lower_from.ensures) (sym same)
          (limits c.args.viscosity.temperature _ _ c.argument.ensures.2 c.log2_scaled.ensures).1;
    }
