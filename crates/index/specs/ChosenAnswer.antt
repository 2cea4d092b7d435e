-- The answer that this program chooses for a pair, which every promise cites. What document 01 says of it stands in Answer.antt and is shown of every
-- pair (proofs/Right.antt), so that nobody has to believe this file.
use Rattle.std.specs.Prelude.{ℕ, cond, ltb, eqb, Ok, Err}
use Rattle.reference.specs.Viscosity.{in_units}
use Rattle.reference.specs.Basis.{h_at}
use Rattle.reference.specs.Refusal.{refusal_of}
use Rattle.index.specs.declared.answer.Index.{Index}
use Rattle.index.specs.declared.answer.Index.TheVariants.{A, B}
use Rattle.index.specs.Answer.{Answer}
use Rattle.index.specs.Questions.{refusal}
use Rattle.index.specs.ProcedureA.{index_a}
use Rattle.index.specs.ChosenFractions.{answer_by_b}

-- the index of a pair that no question refuses: by procedure B where U is below H, or by procedure A
unfoldable pub index_passed : ℕ → ℕ → Index
index_passed u y = cond (ltb (in_units u) (h_at y)) (B (answer_by_b u y)) (A (index_a u y))

-- refused by the question of that number, or that index
unfoldable pub answer_of : ℕ → ℕ → Answer
answer_of u y = cond (eqb (refusal u y) 0) (Ok (index_passed u y)) (Err (refusal_of (refusal u y)))
