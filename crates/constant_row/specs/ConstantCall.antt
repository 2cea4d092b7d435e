-- Change request #101 in C, by document 01's rule for the pair call: the lent row is first asked whether it is just 3 numbers (no: 5, row untouched); then
-- the constant's own questions, of which the first no gives its number, with the row untouched; otherwise the row holds k and the numerators of the
-- two fractions, and 0 is answered.
use Rattle.std.specs.Prelude.{Result, Ok, Err, ℕ, ◌≡◌, Bool, cond, List, [], ◌∷◌, eqb, ℤ, pos, ◌≤ℤ◌, length}
use Rattle.laws.specs.Questions.{ask}
use Rattle.gravity_constant.specs.declared.questions.Temperature.{Temperature}
use Rattle.gravity_constant.specs.declared.questions.Temperature.TheVariants.{At40}
use Rattle.gravity_constant.specs.declared.answer.Constant.{Constant}
use Rattle.gravity_constant.specs.declared.questions.Refusal.{Refusal}
use Rattle.gravity_constant.specs.Answer.{number_of, RightConstant}
use Rattle.gravity_constant.specs.Chosen.{answer_of}

-- the question about the row, and its number
abbrev pub row_size : ℕ
row_size = 3

abbrev pub just3 : List ℤ → Bool
just3 lent = eqb (length lent) row_size

abbrev pub not_a_row : ℕ
not_a_row = 5

-- a row: k, then the lower and the upper numerator
abbrev pub row_of : Constant → List ℤ
row_of c = c.thousandths ∷ c.lower ∷ c.upper ∷ []

-- a row of three numbers after an answer
abbrev pub filled_by : List ℤ → Result Constant Refusal → List ℤ
filled_by lent (Err r) = lent
filled_by lent (Ok c) = row_of c

-- what the call answers
unfoldable pub row_number : List ℤ → Temperature → ℕ → ℕ → ℕ
row_number lent t v d = ask (just3 lent) not_a_row (number_of (answer_of t v d))

-- the row afterwards
unfoldable pub row_after : List ℤ → Temperature → ℕ → ℕ → List ℤ
row_after lent t v d = cond (just3 lent) (filled_by lent (answer_of t v d)) lent

-- what the call answers and leaves in a row of three numbers: the number and the row of a right answer
pub record Filled (t : Temperature) (v d : ℕ) (lent : List ℤ) (number : ℕ) (after : List ℤ) : Type 0 where
  pub answer : Result Constant Refusal
  pub right : RightConstant t v d answer
  pub number_is : number ≡ number_of answer
  pub row_is : after ≡ filled_by lent answer

-- what the call answers and leaves, whatever is lent
pub record ConstantCall (t : Temperature) (v d : ℕ) (lent : List ℤ) (number : ℕ) (after : List ℤ) : Type 0 where
  pub just_3 : length lent ≡ row_size → Filled t v d lent number after
  pub not_3 : (length lent ≡ row_size → ⊥) → (number ≡ not_a_row) × (after ≡ lent)

-- document 01's "(no: 5, record untouched)", of a row: one of no numbers, whatever is asked
pub record NoRow : Type 0 where
  pub number : (t : Temperature) (v d : ℕ) → row_number [] t v d ≡ 5
  pub untouched : (t : Temperature) (v d : ℕ) → row_after [] t v d ≡ []

-- where the three numbers stand, by an oil whose k is forced and whose logarithm is 0 (V 6.5 and G 0.86, 844.255 thousandths): k, then a numerator that is
-- not above zero, then one that is not below
abbrev pub RowAtZero : List ℤ → Type 0
RowAtZero [] = ⊥
RowAtZero (k ∷ []) = ⊥
RowAtZero (k ∷ lower ∷ []) = ⊥
RowAtZero (k ∷ lower ∷ upper ∷ []) = (k ≡ pos 844) × (lower ≤ℤ pos 0) × (pos 0 ≤ℤ upper)
RowAtZero (k ∷ lower ∷ upper ∷ more ∷ rest) = ⊥

-- what `ConstantCall` forces of any call with a row of three numbers: of that oil, and of one that is refused, "with the number alone as the answer"
pub record ForcedRow : Type 0 where
  pub filled : (lent after : List ℤ) (number : ℕ) → length lent ≡ 3 → ConstantCall At40 6500 8600 lent number after → (number ≡ 0) × RowAtZero after
  pub refused : (lent after : List ℤ) (number : ℕ) → length lent ≡ 3 → ConstantCall At40 5500 8600 lent number after → (number ≡ 21) × (after ≡ lent)
