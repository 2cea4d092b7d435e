-- At one y the thicker oil never has the higher index: of any two right answers, neither marked near, whichever procedure gave each; and of the answers
-- that this program gives, near or not. proofs/Order.antt shows both. The first is the third sentence of demand 3, with no program in it.
use Rattle.std.specs.Prelude.{ℕ, ◌<◌, ◌≤◌, ◌≡◌, ◌≤ℤ◌}
use Rattle.shown_index.specs.declared.Mark.TheVariants as mark
use Rattle.index.specs.Questions.{refusal}
use Rattle.index.specs.Answer.{Answer, method_of_mark, method_of, index_of, RightAnswer}
use Rattle.index.specs.ChosenAnswer.{answer_of}

abbrev pub MarkedNear : Answer → Type 0
MarkedNear a = method_of a ≡ method_of_mark mark.Near

pub record InOrder : Type 0 where
  pub right : (u v y : ℕ) (a b : Answer) → RightAnswer u y a → RightAnswer v y b → refusal u y ≡ 0 → refusal v y ≡ 0
      → (MarkedNear a → ⊥) → (MarkedNear b → ⊥) → u < v → index_of b ≤ℤ index_of a
  pub given : (u v y : ℕ) → refusal u y ≡ 0 → refusal v y ≡ 0 → u ≤ v → index_of (answer_of v y) ≤ℤ index_of (answer_of u y)
