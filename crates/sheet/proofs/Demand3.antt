-- Demand 3: each record of the worked sheet is its own pair's. The rest follows from that alone.
use Prim.Native.Nat.{ℕ, ◌≤◌, ◌<◌}
use mathlib.Core.Path.{◌≡◌, refl, ◌∙◌, subst}
use mathlib.Core.List.{List}
use mathlib.Core.Logic.{◌⊎◌, inl, inr}
use native.Mathlib.Omega.{arith}
use Rattle.reference.specs.Basis.{h_at}
use Rattle.reference.specs.Viscosity.{in_units}
use Rattle.shown_index.specs.declared.Mark.{Mark}
use Rattle.shown_index.specs.declared.Mark.TheVariants as mark
use Rattle.std.specs.Prelude.{Ok, Err}
use Rattle.laws.proofs.Contradiction.{not_some}
use Rattle.reference.specs.Refusal.{number_of_refusal}
use Rattle.index.specs.declared.answer.Index.TheVariants.{A, B}
use Rattle.index.specs.ProcedureB.{SettledAt, NearAt, Marked}
use Rattle.index.specs.Answer.{Answer, method_of_mark, RightAnswer}
use Rattle.index.proofs.Right.{right}
use Rattle.index.proofs.Fits.{right_fits}
use Rattle.index.proofs.Order.{in_order}
use Rattle.answer_record.proofs.Fields.{FieldsRead, fields_read}
use Rattle.sheet.specs.Sheet.{pairs_of, answer_at, sheet_refusal, sheet_after}
use Rattle.sheet.specs.Demand3.{n, u, y, offset, RightRecords, Answered, BelowH, Shown, Certified, Ordered, AfterTheCall, Demand3}
use Rattle.sheet.proofs.RecordsAfter.{record_found}

by_mark : (m : Mark) (u y k p P : ℕ) → Marked m u y k p P
    → ((method_of_mark m ≡ method_of_mark mark.Settled) × SettledAt u y k p P) ⊎ ((method_of_mark m ≡ method_of_mark mark.Near) × NearAt u y k p P)
by_mark mark.Settled u y k p P h = inl (refl, h)
by_mark mark.Near u y k p P h = inr (refl, h)

-- the record of a right answer to an oil below H: the answer is by B, and its mark is true of its index
shown : (before after : List ℕ) (i : ℕ) (a : Answer) → FieldsRead after (offset before after i) a
    → RightAnswer (u before after i) (y before after i) a → Answered before after i → BelowH before after i → Shown before after i
shown before after i (Err refusal) f r q h = not_some (number_of_refusal refusal) (r.number ∙ q) r.case
shown before after i (Ok (A index)) f r q h =
    let above : h_at (y before after i) ≤ in_units (u before after i) = r.case.0 in
    absurd (omega arith)
shown before after i (Ok (B b)) f r q h =
    record { k = b.index; index_is = f.index; marked = rw (f.method, f.lower, f.upper) (by_mark b.mark _ _ _ _ _ r.case.marked) }

-- that each record is a right answer's gives the second and the third sentence of demand 3: a right answer fits its fields, so that the record's own bytes
-- say what is right
module _ (before after : List ℕ) (records : RightRecords before after) where
  pub read : (i : ℕ) (h : i < n before after) → FieldsRead after (offset before after i) (records i h).answer
  read i h = let r = records i h in fields_read after (offset before after i) r.answer r.laid_out (right_fits _ _ r.answer r.right)

  pub certified : Certified before after
  certified i h = shown before after i _ (read i h) (records i h).right

  pub ordered : Ordered before after
  ordered i j h k a b e c d l =
      rw ((read i h).index, (read j k).index)
      (in_order.right (u before after i) (u before after j) (y before after j) (records i h).answer (records j k).answer
      (subst (λ (w : ℕ). RightAnswer (u before after i) w (records i h).answer) e (records i h).right) (records j k).right
      (rw e at a) b (λ m. c ((read i h).method ∙ m)) (λ m. d ((read j k).method ∙ m)) l)

right_records : (s : List ℕ) → sheet_refusal s ≡ 0 → RightRecords s (sheet_after s)
right_records s q i h = record { answer = answer_at s (pairs_of s) i; right = right _ _; laid_out = record_found s q i h }

after_the_call : (s : List ℕ) → sheet_refusal s ≡ 0 → AfterTheCall s (sheet_after s)
unfolding right_records
after_the_call s q =
    record {
      records = λ i h. record { of_right = right_records s q i h; alone = refl };
      below = certified s (sheet_after s) (right_records s q);
      order = ordered s (sheet_after s) (right_records s q);
    }

pub demand3 : (before after : List ℕ) → after ≡ sheet_after before → Demand3 before after
demand3 before after e q = rw e (after_the_call before q)
