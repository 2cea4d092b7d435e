-- At one y the index never rises with u: of any two right answers, neither marked near; and of the answers that are given, whatever their marks.
use Prim.Native.Nat.{ℕ, ◌+◌, ◌*◌, ◌-◌, ◌≤◌, ◌<◌}
use mathlib.Core.Path.{◌≡◌, refl, sym, ◌∙◌, subst₂}
use native.Mathlib.Omega.{arith}
use lib.Signed.{◌≤ℤ◌}
use Rattle.std.specs.Prelude.{Ok, Err}
use Rattle.laws.proofs.Contradiction.{not_some}
use Rattle.reference.specs.Viscosity.{in_units}
use Rattle.reference.specs.Basis.{h_at}
use Rattle.reference.proofs.Bounds.{bounds}
use Rattle.logarithm.specs.Log2.{log2_of}
use Rattle.logarithm.proofs.Rise.{log2_rises}
use Rattle.shown_index.specs.declared.Mark.{Mark}
use Rattle.shown_index.specs.declared.Mark.TheVariants as mark
use Rattle.reference.specs.Refusal.{number_of_refusal}
use Rattle.index.specs.declared.answer.Index.TheVariants.{A, B}
use Rattle.index.specs.Questions.{refusal}
use Rattle.index.specs.Preconditions.{Passes}
use Rattle.index.specs.ProcedureB.{SettledAt, Marked}
use Rattle.index.specs.Answer.{Answer, method_of_mark, index_of, RightAnswer}
use Rattle.index.specs.Order.{MarkedNear, InOrder}
use Rattle.shown_index.specs.Terms.{least_index}
use Rattle.index.specs.ChosenFractions.{lower_from, lower_of_oil, upper_of_oil, by_b_of, oil_of_pair, answer_by_b}
use Rattle.index.specs.ChosenAnswer.{answer_of}
use Rattle.laws.proofs.Difference.{pos_le, order_joins}
use Rattle.index.proofs.QuestionOrder.{passes}
use Rattle.index.proofs.Consistent.{consistent}
use Rattle.index.proofs.ProcedureA.{index_falls, index_most}
use Rattle.shown_index.proofs.Marks.{index_falls as index-of-b-falls}
use Rattle.index.proofs.Numerators.{lower_falls, upper_falls}
use Rattle.index.proofs.OilLogarithms.{at_least_two, pair_below}
use Rattle.index.proofs.OilNumerators.{oil_numerators}
use Rattle.index.proofs.Cases.{by_answer}
use Rattle.index.proofs.Right.{by_b_right}

-- ---- every two pairs with equal y

b_falls : (u v y : ℕ) → u ≤ v → Passes u y → Passes v y → in_units v < h_at y → (answer_by_b v y).index ≤ (answer_by_b u y).index
unfolding by_b_of lower_of_oil upper_of_oil
b_falls u v y h a b below =
    let ly = log2_of y in
    let lU = log2_of (in_units u) in
    let lV = log2_of (in_units v) in
    let lH = log2_of (h_at y) in
    let fits = bounds y a.least a.most in
    let l : log2_of (in_units u) ≤ log2_of (in_units v) = log2_rises (in_units u) (in_units v) (omega (arith, a.thicker)) (omega arith) (omega (arith, fits.h_at_most)) in
    let p : lower_from ly lV lH ≤ lower_from ly lU lH = lower_falls ly lU lH ly lV lH (omega arith) l (omega arith) (omega (arith, at_least_two y a.least a.most)) in
    index-of-b-falls _ _ _ _ (oil_numerators (oil_of_pair u y) (pair_below u y a (omega arith))).lower_fits p (upper_falls ly lU lH ly lV lH (omega arith) l (omega arith) _ _ p)

pub never_rises : (u v y : ℕ) → u ≤ v → refusal u y ≡ 0 → refusal v y ≡ 0 → index_of (answer_of v y) ≤ℤ index_of (answer_of u y)
never_rises u v y h e f =
    by_answer v y (λ r k. not_some (number_of_refusal r) (sym k.number ∙ f) k.some)
    (λ b l v-is. by_answer u y (λ r k. not_some (number_of_refusal r) (sym k.number ∙ e) k.some)
    (λ a m u_is. indices v-is u_is (pos_le (answer_by_b v y).index (answer_by_b u y).index (b_falls u v y h a b l)))
    (λ a m u_is. absurd (omega arith)))
    (λ b l v-is. by_answer u y (λ r k. not_some (number_of_refusal r) (sym k.number ∙ e) k.some)
    (λ a m u_is. indices v-is u_is (order_joins (index_most y v b.least b.most l) (pos_le least_index (answer_by_b u y).index (by_b_right u y a m).least)))
    (λ a m u_is. indices v-is u_is (index_falls y u v b.least b.most h)))
  where
    indices : {x z : Answer} → answer_of v y ≡ x → answer_of u y ≡ z → index_of x ≤ℤ index_of z → index_of (answer_of v y) ≤ℤ index_of (answer_of u y)
    indices d g o = subst₂ (λ (x z : Answer). index_of x ≤ℤ index_of z) (sym d) (sym g) o

-- ---- any two right answers

only_settled : (m : Mark) (u y k p P : ℕ) → (method_of_mark m ≡ method_of_mark mark.Near → ⊥) → Marked m u y k p P → SettledAt u y k p P
only_settled mark.Settled u y k p P n h = h
only_settled mark.Near u y k p P n h = absurd (n refl)

-- two settled indices: the exact value of the thicker oil is the lower one
settled_falls : (u v y k m p P p' P' : ℕ) → Passes u y → u < v → SettledAt u y k p P → SettledAt v y m p' P' → m ≤ k
settled_falls u v y k m p P p' P' q l a b =
    let i : 100 * m - 50 < 100 * k + 50 = consistent.thicker u v y (100 * m - 50) (100 * k + 50) p' P (omega (arith, q.least)) l b.at_least a.at_most in
    omega arith

module _ (u v y : ℕ) (e : refusal u y ≡ 0) (f : refusal v y ≡ 0) (l : u < v) where
  right_falls : (a b : Answer) → RightAnswer u y a → RightAnswer v y b → (MarkedNear a → ⊥) → (MarkedNear b → ⊥) → index_of b ≤ℤ index_of a
  right_falls (Err n) b r s i j = not_some (number_of_refusal n) (r.number ∙ e) r.case
  right_falls (Ok (A x)) (Err n) r s i j = not_some (number_of_refusal n) (s.number ∙ f) s.case
  right_falls (Ok (B b)) (Err n) r s i j = not_some (number_of_refusal n) (s.number ∙ f) s.case
  right_falls (Ok (A x)) (Ok (A z)) r s i j =
      let q = passes v y f in
      rw (r.case.1, s.case.1) (index_falls y u v q.least q.most (omega arith))
  right_falls (Ok (A x)) (Ok (B d)) r s i j =
      let above : h_at y ≤ in_units u = r.case.0 in
      let below : in_units v < h_at y = s.case.below in
      absurd (omega arith)
  right_falls (Ok (B b)) (Ok (A z)) r s i j =
      let q = passes v y f in
      rw s.case.1 (order_joins (index_most y v q.least q.most s.case.0) (pos_le least_index b.index r.case.least))
  right_falls (Ok (B b)) (Ok (B d)) r s i j =
      pos_le d.index b.index
      (settled_falls u v y b.index d.index b.lower b.upper d.lower d.upper (passes u y e) l
      (only_settled b.mark u y b.index b.lower b.upper i r.case.marked)
      (only_settled d.mark v y d.index d.lower d.upper j s.case.marked))

pub in_order : InOrder
in_order =
    record {
      right = λ u v y a b r s e f i j l. right_falls u v y e f l a b r s i j;
      given = λ u v y e f h. never_rises u v y h e f;
    }
