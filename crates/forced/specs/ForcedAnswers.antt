-- What the definitions force of a pair: the answers to pairs of document 01, from `RightAnswer` alone, and to one that is near. A program that answers
-- otherwise is refuted, whatever proof is offered for it. proofs/ForcedAnswers.antt shows it. Forced.antt says what it means for a sheet.
use Rattle.std.specs.Prelude.{ℕ, ◌≤◌, ◌≡◌, ℤ, pos, negsuc, Ok, Err}
use Rattle.shown_index.specs.declared.Mark.TheVariants as mark
use Rattle.reference.specs.declared.refusal.Refusal.TheVariants.{ThinAt100}
use Rattle.index.specs.declared.answer.Index.TheVariants.{A}
use Rattle.index.specs.ProcedureB.{SettledAt, NearAt}
use Rattle.index.specs.Answer.{Answer, method_of_mark, method_of, index_of, lower_of, upper_of, RightAnswer}

-- what is forced of (22830, 5050), an oil below H: the method and the index; and of p and P, which document 01 leaves free, that the powers of both show
-- the index, and between which numbers they lie
pub record Forced156 (method : ℕ) (index : ℤ) (p P : ℕ) : Type 0 where
  pub settled : method ≡ method_of_mark mark.Settled
  pub index_is : index ≡ pos 156
  pub shown : SettledAt 22830 5050 156 p P
  pub lower_least : 2435078 ≤ p
  pub lower_most : p ≤ 2469440
  pub upper_least : 2469441 ≤ P
  pub upper_most : P ≤ 2472281

-- and of (144936, 16776), whose exact index is less than a ten-millionth below 124.5: no p and P settle it
pub record ForcedNear125 (method : ℕ) (index : ℤ) (p P : ℕ) : Type 0 where
  pub near : method ≡ method_of_mark mark.Near
  pub index_is : index ≡ pos 125
  pub shown : NearAt 144936 16776 125 p P
  pub lower_most : p ≤ 1176125
  pub upper_least : 1176126 ≤ P

pub record ForcedAnswers : Type 0 where
  -- "(73300, 8860): A 92."
  pub by_a : (a : Answer) → RightAnswer 73300 8860 a → a ≡ Ok (A (pos 92))
  -- "(28490, 5000): A 100." U is H
  pub at_h : (a : Answer) → RightAnswer 28490 5000 a → a ≡ Ok (A (pos 100))
  -- "(7986, 2000) becomes 0 and (8018, 2000) becomes −2; (7970, 2000), exactly 1.5, is still 2" (#106); and (8034, 2000), exactly −2.5, is −2, where its slip on
  -- a negative half is −3
  pub half : (a : Answer) → RightAnswer 7986 2000 a → a ≡ Ok (A (pos 0))
  pub negative_half : (a : Answer) → RightAnswer 8018 2000 a → a ≡ Ok (A (negsuc 1))
  pub one_and_a_half : (a : Answer) → RightAnswer 7970 2000 a → a ≡ Ok (A (pos 2))
  pub minus_two_and_a_half : (a : Answer) → RightAnswer 8034 2000 a → a ≡ Ok (A (negsuc 1))
  -- "(1000000000, 2000): A −62,499,500."
  pub thickest : (a : Answer) → RightAnswer 1000000000 2000 a → a ≡ Ok (A (negsuc 62499499))
  -- "22.830 5.050 B 156"
  pub by_b : (a : Answer) → RightAnswer 22830 5050 a → Forced156 (method_of a) (index_of a) (lower_of a) (upper_of a)
  -- (144936, 16776): B~ 125
  pub near : (a : Answer) → RightAnswer 144936 16776 a → ForcedNear125 (method_of a) (index_of a) (lower_of a) (upper_of a)
  -- "20.000 1.999 refused 1"
  pub refused : (a : Answer) → RightAnswer 20000 1999 a → a ≡ Err ThinAt100
