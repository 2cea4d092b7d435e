-- A sample laid out as the numbers of a place, and read back from them.
use Prim.Native.Nat.{ℕ, ◌+◌, ◌*◌, ◌≤◌}
use mathlib.Core.Path.{◌≡◌, refl, sym, ap, ◌∙◌, subst}
use mathlib.Core.Bool.{true}
use mathlib.Core.List.{List}
use native.Mathlib.Omega.{arith}
use borrow.Author.Rules.{sfits_of}
use lib.ListN.{length}
use lib.IntN.{ℤ}
use Rattle.std.specs.Prelude.{Ok, Err}
use Rattle.laws.proofs.Contradiction.{not_some}
use Rattle.reference.specs.Refusal.{number_of_refusal}
use Rattle.shown_index.specs.declared.Mark.{Mark}
use Rattle.shown_index.specs.declared.Mark.TheVariants as mark
use Rattle.shown_index.specs.declared.ByB.{ByB}
use Rattle.index.specs.declared.answer.Index.TheVariants.{A, B}
use Rattle.index.specs.Answer.{Answer, method_of_mark, method_of, index_of, lower_of, upper_of, RightAnswer}
use Rattle.index.specs.Questions.{refusal}
use Rattle.index.specs.ChosenAnswer.{answer_of}
use Rattle.index.proofs.Fits.{Fits, fits}
use Rattle.index.proofs.Right.{right}
use Rattle.answer_record.specs.Bytes.{twos_complement, stored}
use Rattle.answer_record.proofs.Signed.{signed_back}
use Rattle.tray_places.specs.Samples.{Sample, place_of, answer_from, sample_of}
use Rattle.tray_places.specs.Places.{place_size, numbers_of, is_held, sample_at}
use Rattle.tray_places.proofs.Kept.{place_there, held_there}
use Rattle.tray_places.proofs.Same.{mark_method}

marked_back : (b : ByB) (m : Mark) → b.mark ≡ m → answer_from (method_of_mark b.mark) b.index b.lower b.upper ≡ Ok (B b)
unfolding answer_from
marked_back b mark.Settled h = rw h
marked_back b mark.Near h = rw h

answer_back : (a : Answer) → (method_of a ≡ 0 → ⊥) → Fits a → answer_from (method_of a) (twos_complement (index_of a)) (lower_of a) (upper_of a) ≡ a
unfolding answer_from
answer_back (Err n) z f = absurd (z refl)
answer_back (Ok (A k)) z f = ap (λ (i : ℤ). Ok (A i)) (signed_back k (sfits_of f.index))
answer_back (Ok (B b)) z f = marked_back b b.mark refl

sample_back : (s : Sample) → (method_of s.answer ≡ 0 → ⊥) → Fits s.answer → sample_of (place_of s) ≡ s
unfolding place_of
sample_back s h f = rw (answer_back s.answer h f)

-- an answered pair has a method
pub method_some : (u y : ℕ) (a : Answer) → RightAnswer u y a → refusal u y ≡ 0 → method_of a ≡ 0 → ⊥
method_some u y (Err k) r e z = not_some (number_of_refusal k) (r.number ∙ e) r.case
method_some u y (Ok (A k)) r e z = omega (arith, z)
method_some u y (Ok (B b)) r e z = omega (arith, z, mark_method b.mark)

placed_some : (s : Sample) → (method_of s.answer ≡ 0 → ⊥) → (place_of s).method ≡ 0 → ⊥
unfolding place_of
placed_some s h z = h z

-- and is held where it is stored
module _ (s : Sample) (passed : refusal s.u s.y ≡ 0) (alone : s.answer ≡ answer_of s.u s.y) where
  some : method_of s.answer ≡ 0 → ⊥
  some = method_some s.u s.y s.answer (subst (RightAnswer s.u s.y) (sym alone) (right s.u s.y)) passed

  pub sample_again : sample_of (place_of s) ≡ s
  sample_again = sample_back s some (subst Fits (sym alone) (fits s.u s.y))

  module _ (l : List ℕ) (k : ℕ) (there : place_size * k + place_size ≤ length l) where
    pub stored_held : is_held (stored l (place_size * k) (numbers_of (place_of s))) k ≡ true
    stored_held = held_there (place_of s) l k there (placed_some s some)

    pub stored_sample : sample_at (stored l (place_size * k) (numbers_of (place_of s))) k ≡ s
    stored_sample = ap sample_of (place_there (place_of s) l k there) ∙ sample_again
