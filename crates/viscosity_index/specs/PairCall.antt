-- Document 01, 'The two viscosities and what is covered': "In C the pair call takes u, y and a lent record, first asks whether the record is
-- just 16 bytes (no: 5, record untouched), then fills it as one result of a sheet and answers the pair's number, 0 if answered."
use Rattle.std.specs.Prelude.{ℕ, ◌≡◌, Bool, cond, List, [], eqb, length}
use Rattle.laws.specs.Questions.{ask}
use Rattle.index.specs.Answer.{number_of}
use Rattle.index.specs.ChosenAnswer.{answer_of}
use Rattle.answer_record.specs.Record.{result_size, record_of, RecordOfPair}

-- the question about the record, and its number
abbrev pub just16 : List ℕ → Bool
just16 lent = eqb (length lent) result_size

abbrev pub not_a_record : ℕ
not_a_record = 5

-- what the call answers
unfoldable pub pair_number : List ℕ → ℕ → ℕ → ℕ
pair_number lent u y = ask (just16 lent) not_a_record (number_of (answer_of u y))

-- the record afterwards
unfoldable pub record_after : List ℕ → ℕ → ℕ → List ℕ
record_after lent u y = cond (just16 lent) (record_of (answer_of u y)) lent

-- what the call answers and leaves in a record of 16 bytes: the number and the record of a right answer to the pair
pub record Filled (u y number : ℕ) (after : List ℕ) : Type 0 where
  pub result : RecordOfPair u y after
  pub number_is : number ≡ number_of result.of_right.answer

-- what the call answers and leaves, whatever is lent
pub record PairCall (u y : ℕ) (lent : List ℕ) (number : ℕ) (after : List ℕ) : Type 0 where
  pub just_16 : length lent ≡ result_size → Filled u y number after
  pub not_16 : (length lent ≡ result_size → ⊥) → (number ≡ not_a_record) × (after ≡ lent)

-- "(no: 5, record untouched)": a record of no bytes, whatever the pair
pub record NoRecord : Type 0 where
  pub number : (u y : ℕ) → pair_number [] u y ≡ 5
  pub untouched : (u y : ℕ) → record_after [] u y ≡ []
