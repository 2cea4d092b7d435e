-- Any two right answers agree. The number and the procedure follow from the questions and from H. By B, what one answer shows at most and the other at least
-- cannot contradict each other: the greater index is one more, and each of the two fractions is beside the half between them.
use Prim.Native.Nat.{ℕ, ◌+◌, ◌*◌, ◌-◌, ◌≤◌, ◌<◌}
use mathlib.Core.Path.{◌≡◌, refl, sym, ap, ◌∙◌, subst}
use Rattle.std.specs.Prelude.{Ok, Err}
use mathlib.Core.Logic.{◌⊎◌, inl, inr}
use native.Mathlib.Omega.{arith}
use native.Mathlib.Nat.{le_trans, pow-le-pow_left}
use Rattle.laws.proofs.Contradiction.{not_some}
use Rattle.laws.proofs.Order.{by_order}
use Rattle.reference.specs.Viscosity.{in_units}
use Rattle.reference.specs.Basis.{h_at}
use Rattle.shown_index.specs.declared.Mark.{Mark}
use Rattle.shown_index.specs.declared.Mark.TheVariants as mark
use Rattle.shown_index.specs.declared.ByB.{ByB}
use Rattle.logarithm.specs.Fractions.{Q}
use Rattle.shown_index.specs.Terms.{least_index}
use Rattle.reference.specs.declared.refusal.Refusal.{Refusal}
use Rattle.reference.specs.Refusal.{number_of_refusal, refusal_of}
use Rattle.reference.proofs.Refusals.{numbered_refusals}
use Rattle.index.specs.declared.answer.Index.TheVariants.{A, B}
use Rattle.index.specs.ProcedureB.{AtLeast, AtMost, NearAt, Marked}
use Rattle.index.specs.Answer.{Answer, RightB, RightAnswer}
use Rattle.index.specs.Preconditions.{Passes}
use Rattle.index.specs.Determined.{BesideTheHalf, AgreeByB, Agree, Determined}
use Rattle.index.proofs.Consistent.{consistent}
use Rattle.index.proofs.QuestionOrder.{passes}

-- a number is that of one refusal
pub same_refusal : (r s : Refusal) → number_of_refusal r ≡ number_of_refusal s → r ≡ s
same_refusal r s e = sym (numbered_refusals.of_refusal r) ∙ ap refusal_of e ∙ numbered_refusals.of_refusal s

module _ (u y : ℕ) where
  -- what is at least r is at least any lower number, and what is at most r at most any higher one
  lowered : (r s p : ℕ) → s ≤ r → AtLeast u y r p → AtLeast u y s p
  lowered r s p h a = record { index = le_trans (pow-le-pow_left (omega arith) Q) a.index; viscosity = a.viscosity }

  raised : (r s P : ℕ) → r ≤ s → AtMost u y r P → AtMost u y s P
  raised r s P h a = record { index = le_trans a.index (pow-le-pow_left (omega arith) Q); viscosity = a.viscosity }

  -- what either mark shows
  marked_least : (m : Mark) (k p P : ℕ) → Marked m u y k p P → AtLeast u y (100 * k - 51) p
  marked_least mark.Settled k p P h = lowered _ _ p (omega arith) h.at_least
  marked_least mark.Near k p P h = h.at_least

  marked_most : (m : Mark) (k p P : ℕ) → Marked m u y k p P → AtMost u y (100 * k + 50) P
  marked_most mark.Settled k p P h = h.at_most
  marked_most mark.Near k p P h = raised _ _ P (omega arith) h.at_most

  -- and a right answer by B
  pub b_least : (b : ByB) → RightB u y b → AtLeast u y (100 * b.index - 51) b.lower
  b_least b r = marked_least b.mark b.index b.lower b.upper r.marked

  pub b_most : (b : ByB) → RightB u y b → AtMost u y (100 * b.index + 50) b.upper
  b_most b r = marked_most b.mark b.index b.lower b.upper r.marked

  -- an index that is shown at least and a lower one that is shown at most
  next_index : (k m p P : ℕ) → Passes u y → k < m → AtLeast u y (100 * m - 51) p → AtMost u y (100 * k + 50) P → (m ≡ k + 1) × BesideTheHalf u y k
  next_index k m p P q h a b =
      let i : 100 * m - 51 ≤ 100 * k + 50 =
      consistent.in_order u y (100 * m - 51) (100 * k + 50) p P (omega (arith, q.least)) (omega (arith, q.least, q.thicker)) a b in
      (omega arith, record { lower = p; upper = P; at_least = lowered _ _ p (omega arith) a; at_most = raised _ _ P (omega arith) b })

  -- a near index is beside the half below it
  near_half : (k p P : ℕ) → least_index ≤ k → NearAt u y k p P → BesideTheHalf u y (k - 1)
  near_half k p P h a =
      record { lower = p; upper = P; at_least = lowered _ _ p (omega arith) a.at_least; at_most = raised _ _ P (omega arith) a.at_most }

  same_mark : (s t : Mark) (k p P p' P' : ℕ) → least_index ≤ k → Marked s u y k p P → Marked t u y k p' P' → (s ≡ t) ⊎ BesideTheHalf u y (k - 1)
  same_mark mark.Settled mark.Settled k p P p' P' h a b = inl refl
  same_mark mark.Near mark.Near k p P p' P' h a b = inl refl
  same_mark mark.Settled mark.Near k p P p' P' h a b = inr (near_half k p' P' h b)
  same_mark mark.Near mark.Settled k p P p' P' h a b = inr (near_half k p P h a)

  by_marks : (b d : ByB) → Passes u y → RightB u y b → RightB u y d → AgreeByB u y b d
  by_marks b d q r s =
      by_order b.index d.index
      (λ less. inr (inl (next_index _ _ d.lower b.upper q less (b_least d s) (b_most b r))))
      (λ most. by_order d.index b.index
      (λ less. inr (inr (next_index _ _ b.lower d.upper q less (b_least b r) (b_most d s))))
      (λ same.
      let e : b.index ≡ d.index = omega arith in
      inl (e, same_mark b.mark d.mark b.index b.lower b.upper d.lower d.upper r.least r.marked (subst (λ (k : ℕ). Marked d.mark u y k d.lower d.upper) (sym e) s.marked))))

  not_both : h_at y ≤ in_units u → in_units u < h_at y → ⊥
  not_both h l = omega arith

  agree : (a b : Answer) → RightAnswer u y a → RightAnswer u y b → Agree u y a b
  agree (Err n) (Err m) r s = same_refusal n m (r.number ∙ sym s.number)
  agree (Ok (A i)) (Ok (A j)) r s = r.case.1 ∙ sym s.case.1
  agree (Ok (B b)) (Ok (B d)) r s = by_marks b d (passes u y (sym r.number)) r.case s.case
  agree (Err n) (Ok (A i)) r s = not_some (number_of_refusal n) (r.number ∙ sym s.number) r.case
  agree (Err n) (Ok (B b)) r s = not_some (number_of_refusal n) (r.number ∙ sym s.number) r.case
  agree (Ok (A i)) (Err n) r s = not_some (number_of_refusal n) (s.number ∙ sym r.number) s.case
  agree (Ok (B b)) (Err n) r s = not_some (number_of_refusal n) (s.number ∙ sym r.number) s.case
  agree (Ok (A i)) (Ok (B b)) r s = not_both r.case.0 s.case.below
  agree (Ok (B b)) (Ok (A i)) r s = not_both s.case.0 r.case.below

pub determined : Determined
determined = record { agree = agree }
