-- Every answer is right: the one proof that document 01's words hold of what the program chooses.
use Prim.Native.Nat.{ℕ, ◌*◌, ◌^◌, ◌≤◌, ◌<◌}
use mathlib.Core.Path.{refl, sym, subst}
use Rattle.reference.specs.Viscosity.{in_units}
use Rattle.reference.specs.Basis.{h_at}
use Rattle.logarithm.specs.Log2.{log2_of}
use Rattle.shown_index.specs.declared.Mark.{Mark}
use Rattle.shown_index.specs.declared.Mark.TheVariants as mark
use Rattle.logarithm.specs.Fractions.{Q}
use Rattle.shown_index.specs.RightIndex.{IndexShown}
use Rattle.shown_index.specs.ChosenIndex.{chosen_index}
use Rattle.shown_index.proofs.Marks.{right_index, numerators_kept}
use Rattle.index.specs.ProcedureB.{Marked}
use Rattle.index.specs.Answer.{RightB, RightAnswer}
use Rattle.index.specs.ChosenFractions.{lower_of_oil, upper_of_oil, by_b_of, oil_of_pair, answer_by_b}
use Rattle.index.specs.ChosenAnswer.{answer_of}
use Rattle.index.specs.Preconditions.{Passes}
use Rattle.index.proofs.QuestionOrder.{none_refuses}
use Rattle.index.proofs.Cases.{by_answer}
use Rattle.index.proofs.Numerators.{lower_shows, upper, upper_shows}
use Rattle.index.proofs.OilLogarithms.{logarithms, pair_below}
use Rattle.index.proofs.OilNumerators.{oil_numerators}

-- ---- procedure B

-- what the fractions show of the index, with what they show of the viscosities
module _ (u y k p P : ℕ) (lower : y ^ p * in_units u ^ Q ≤ 1000 ^ p * h_at y ^ Q) (upper : 1000 ^ P * h_at y ^ Q ≤ y ^ P * in_units u ^ Q) where
  marked : (m : Mark) → IndexShown m k p P → Marked m u y k p P
  marked mark.Settled s =
      record { at_least = record { index = s.at_least; viscosity = lower }; at_most = record { index = s.at_most; viscosity = upper } }
  marked mark.Near s =
      record { at_least = record { index = s.at_least; viscosity = lower }; at_most = record { index = s.at_most; viscosity = upper } }

-- what the p and the P of a pair show of its viscosities
lower_viscosity : (u y : ℕ) → Passes u y → in_units u < h_at y
    → y ^ lower_of_oil (oil_of_pair u y) * in_units u ^ Q ≤ 1000 ^ lower_of_oil (oil_of_pair u y) * h_at y ^ Q
unfolding lower_of_oil
lower_viscosity u y a l = lower_shows y (in_units u) (h_at y) (log2_of y) (log2_of (in_units u)) (log2_of (h_at y)) (logarithms (oil_of_pair u y) (pair_below u y a l))

upper_viscosity : (u y : ℕ) → Passes u y → in_units u < h_at y
    → 1000 ^ upper_of_oil (oil_of_pair u y) * h_at y ^ Q ≤ y ^ upper_of_oil (oil_of_pair u y) * in_units u ^ Q
unfolding lower_of_oil upper_of_oil
upper_viscosity u y a l =
    let o = logarithms (oil_of_pair u y) (pair_below u y a l) in
    upper_shows y (in_units u) (h_at y) (log2_of y) (log2_of (in_units u)) (log2_of (h_at y)) o _
    (upper y (in_units u) (h_at y) (log2_of y) (log2_of (in_units u)) (log2_of (h_at y)) o)

pub by_b_right : (u y : ℕ) → Passes u y → in_units u < h_at y → RightB u y (answer_by_b u y)
unfolding by_b_of
by_b_right u y a l =
    let p = lower_of_oil (oil_of_pair u y) in
    let P = upper_of_oil (oil_of_pair u y) in
    let f = oil_numerators (oil_of_pair u y) (pair_below u y a l) in
    let b = chosen_index p P in
    let r = right_index p P f.lower_fits f.next in
    let n = numerators_kept p P in
    record {
      below = l;
      least = r.least;
      most = r.most;
      marked =
          marked u y b.index b.lower b.upper
          (subst (λ (k : ℕ). y ^ k * in_units u ^ Q ≤ 1000 ^ k * h_at y ^ Q) (sym n.0) (lower_viscosity u y a l))
          (subst (λ (k : ℕ). 1000 ^ k * h_at y ^ Q ≤ y ^ k * in_units u ^ Q) (sym n.1) (upper_viscosity u y a l))
          b.mark r.shown;
    }

-- ---- every pair

pub right : (u y : ℕ) → RightAnswer u y (answer_of u y)
right u y =
    by_answer u y
    (λ r e. subst (RightAnswer u y) (sym e.answer) (record { number = sym e.number; case = e.some }))
    (λ a l is. subst (RightAnswer u y) (sym is) (record { number = sym (none_refuses u y a); case = by_b_right u y a l }))
    (λ a h is. subst (RightAnswer u y) (sym is) (record { number = sym (none_refuses u y a); case = (h, refl) }))
