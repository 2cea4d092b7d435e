-- An index by A is `nearest` of the standard's fraction, and of that every_quotient of crate rounding says what it is.
use Prim.Native.Nat.{ℕ, ◌<◌, ◌≤◌}
use mathlib.Core.Path.{◌≡◌, sym, subst}
use native.Mathlib.Omega.{arith}
use lib.IntN.{ℤ}
use Rattle.std.specs.Prelude.{Ok}
use Rattle.reference.specs.Viscosity.{in_units}
use Rattle.reference.specs.Basis.{l_at, h_at}
use Rattle.reference.proofs.Bounds.{bounds}
use Rattle.rounding.proofs.HalfToEven.{every_quotient}
use Rattle.index.specs.declared.answer.Index.TheVariants.{A}
use Rattle.index.specs.Questions.{refusal}
use Rattle.index.specs.ProcedureA.{rounded_a, index_a}
use Rattle.index.specs.Answer.{RightAnswer}
use Rattle.index.specs.NearestIndex.{NearestToFraction, NearestIndex}
use Rattle.index.proofs.QuestionOrder.{passes}

divisor : (u y : ℕ) → refusal u y ≡ 0 → h_at y < l_at y
divisor u y e =
    let q = passes u y e in
    omega (arith, (bounds y q.least q.most).apart)

is : (u y : ℕ) (i : ℤ) → RightAnswer u y (Ok (A i)) → NearestToFraction u y i
unfolding index_a rounded_a
is u y i r =
    subst (NearestToFraction u y) (sym r.case.1) (every_quotient.is _ _ (omega (arith, divisor u y (sym r.number))))

only : (u y : ℕ) (i : ℤ) → refusal u y ≡ 0 → h_at y ≤ in_units u → NearestToFraction u y i → RightAnswer u y (Ok (A i))
unfolding index_a rounded_a
only u y i e h n =
    record { number = sym e; case = (h, every_quotient.only _ _ i (omega (arith, divisor u y e)) n) }

pub nearest_index : NearestIndex
nearest_index = record { divisor = divisor; is = is; only = only }
