-- Document 01: "The answer to a pair is one of three: refused with its number; by A with the index; by B with the index, its mark and its two
-- fractions." This paper's number and values for each case, and when an answer is right.
use Rattle.std.specs.Prelude.{◌≡◌, ℕ, ◌<◌, ◌≤◌, ℤ, pos, Result, Ok, Err}
use Rattle.reference.specs.Viscosity.{in_units}
use Rattle.reference.specs.Basis.{h_at}
use Rattle.shown_index.specs.declared.Mark.{Mark}
use Rattle.shown_index.specs.declared.Mark.TheVariants as mark
use Rattle.shown_index.specs.declared.ByB.{ByB}
use Rattle.shown_index.specs.Terms.{least_index, most_index}
use Rattle.reference.specs.declared.refusal.Refusal.{Refusal}
use Rattle.reference.specs.Refusal.{number_of_refusal}
use Rattle.index.specs.declared.answer.Index.{Index}
use Rattle.index.specs.declared.answer.Index.TheVariants.{A, B}
use Rattle.index.specs.Questions.{refusal}
use Rattle.index.specs.ProcedureA.{index_a}
use Rattle.index.specs.ProcedureB.{Marked}

-- an answer: an index by A or by B, or refused by a question
abbrev pub Answer : Type 0
Answer = Result Index Refusal

-- the number of the question that refused the pair, 0 where it is answered
abbrev pub number_of : Answer → ℕ
number_of (Err refusal) = number_of_refusal refusal
number_of (Ok index) = 0

-- n is that number of an answer refused in any way: `gives` says of a refusal which number is its own
abbrev pub NumberOf : {R : Type 0} → (R → ℕ → Type 0) → Result Index R → ℕ → Type 0
NumberOf gives (Err refusal) n = gives refusal n
NumberOf gives (Ok index) n = n ≡ 0

-- "0 refused, 1 A, 2 B settled, 3 B near"
abbrev pub method_of_mark : Mark → ℕ
method_of_mark mark.Settled = 2
method_of_mark mark.Near = 3

abbrev pub method_of : {R : Type 0} → Result Index R → ℕ
method_of (Err refusal) = 0
method_of (Ok (A index)) = 1
method_of (Ok (B b)) = method_of_mark b.mark

-- the index, and the numerators p and P: "What does not apply is zero."
abbrev pub index_of : {R : Type 0} → Result Index R → ℤ
index_of (Err refusal) = pos 0
index_of (Ok (A index)) = index
index_of (Ok (B b)) = pos b.index

abbrev pub lower_of : {R : Type 0} → Result Index R → ℕ
lower_of (Err refusal) = 0
lower_of (Ok (A index)) = 0
lower_of (Ok (B b)) = b.lower

abbrev pub upper_of : {R : Type 0} → Result Index R → ℕ
upper_of (Err refusal) = 0
upper_of (Ok (A index)) = 0
upper_of (Ok (B b)) = b.upper

-- an oil below H: its index is at least 100, as H itself has, and "at most 10,000"; and what its mark says, shown by its own two fractions
pub record RightB (u y : ℕ) (b : ByB) : Type 0 where
  pub below : in_units u < h_at y
  pub least : least_index ≤ b.index
  pub most : b.index ≤ most_index
  pub marked : Marked b.mark u y b.index b.lower b.upper

-- by cases: a refusal is by a question; by A, u is at or above H and the index is the rounded fraction; by B, as above
abbrev pub RightCase : ℕ → ℕ → Answer → Type 0
RightCase u y (Err refusal) = 0 < number_of_refusal refusal
RightCase u y (Ok (A index)) = (h_at y ≤ in_units u) × (index ≡ index_a u y)
RightCase u y (Ok (B b)) = RightB u y b

-- an answer is right: its number is that of the first question that fails and 0 if none fails, and its case is right
pub record RightAnswer (u y : ℕ) (answer : Answer) : Type 0 where
  pub number : number_of answer ≡ refusal u y
  pub case : RightCase u y answer
