-- The numbers of a right answer fit 32 bits: the index with its sign, p and P. By B, c(r) is below 10^9, so that P is at most 2Q, and p is at most P.
use Prim.Native.Nat.{ℕ, ◌+◌, ◌*◌, ◌^◌, ◌≤◌, ◌<◌}
use mathlib.Core.Path.{sym}
use native.Mathlib.Omega.{arith}
use native.Mathlib.Nat.{pow-le-pow_left, le_trans, le_of_eq}
use lib.Pow.{pow-add}
use lib.Signed.{mag}
use Rattle.std.specs.Prelude.{Ok, Err}
use Rattle.laws.specs.Bits.{half32, span32}
use Rattle.laws.proofs.Powers.{pow_mul, exponents_le}
use Rattle.shown_index.specs.declared.ByB.{ByB}
use Rattle.logarithm.specs.Fractions.{Q, Q_is}
use Rattle.shown_index.specs.Terms.{most_index}
use Rattle.index.specs.declared.answer.Index.TheVariants.{A, B}
use Rattle.index.specs.ProcedureB.{AtMost}
use Rattle.index.specs.Answer.{Answer, index_of, lower_of, upper_of, RightB, RightAnswer}
use Rattle.index.specs.ChosenAnswer.{answer_of}
use Rattle.index.specs.Preconditions.{Passes}
use Rattle.index.proofs.QuestionOrder.{passes}
use Rattle.index.proofs.ProcedureA.{index_fits}
use Rattle.index.proofs.Consistent.{lower_at_most_upper}
use Rattle.index.proofs.Determined.{b_least, b_most}
use Rattle.index.proofs.Right.{right}

pub record Fits (a : Answer) : Type 0 where
  pub index : mag (index_of a) < half32
  pub lower : lower_of a < span32
  pub upper : upper_of a < span32

upper_most : (u y k P : ℕ) → k ≤ most_index → AtMost u y (100 * k + 50) P → P ≤ 2 * Q
upper_most u y k P h a =
    let powers : 10 ^ (P + 7 * Q) ≤ 10 ^ (9 * Q) =
    le_trans (le_of_eq (pow-add 10 P (7 * Q))) (le_trans a.index (le_trans (pow-le-pow_left (omega arith) Q) (le_of_eq (sym (pow_mul 10 9 Q))))) in
    omega (arith, exponents_le 10 (P + 7 * Q) (9 * Q) (omega arith) powers)

b_fits : (u y : ℕ) (b : ByB) → Passes u y → RightB u y b → Fits (Ok (B b))
b_fits u y b q r =
    let up = upper_most u y b.index b.upper r.most (b_most u y b r) in
    let low = lower_at_most_upper u y _ _ b.lower b.upper (omega (arith, q.least)) (omega (arith, q.least, q.thicker)) (b_least u y b r) (b_most u y b r) in
    record { index = omega (arith, r.most); lower = omega (arith, low, up, Q_is); upper = omega (arith, up, Q_is) }

pub right_fits : (u y : ℕ) (a : Answer) → RightAnswer u y a → Fits a
right_fits u y (Err n) r = record { index = omega arith; lower = omega arith; upper = omega arith }
right_fits u y (Ok (A i)) r =
    record { index = rw r.case.1 (index_fits u y (passes u y (sym r.number)) r.case.0); lower = omega arith; upper = omega arith }
right_fits u y (Ok (B b)) r = b_fits u y b (passes u y (sym r.number)) r.case

pub fits : (u y : ℕ) → Fits (answer_of u y)
fits u y = right_fits u y (answer_of u y) (right u y)
