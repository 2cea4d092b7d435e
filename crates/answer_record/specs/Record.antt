-- Document 01, 'A sheet': "A result is 16 bytes: byte 0 the pair's number (0 answered); byte 1 the method (0 refused, 1 A, 2 B settled,
-- 3 B near); bytes 2 and 3 zero; 4 to 7 the index, two's complement; 8 to 11 p; 12 to 15 P. What does not apply is zero."
use Rattle.std.specs.Prelude.{ℕ, ◌+◌, ◌≡◌, List, [], ◌∷◌, ◌++◌, ℤ, get_or, take, drop, Result}
use Rattle.index.specs.declared.answer.Index.{Index}
use Rattle.index.specs.Answer.{Answer, number_of, method_of, index_of, lower_of, upper_of, RightAnswer}
use Rattle.index.specs.ChosenAnswer.{answer_of}
use Rattle.answer_record.specs.declared.store.Record.{Record}
use Rattle.answer_record.specs.Bytes.{number_at, bytes_of, twos_complement, signed_of}

abbrev pub result_size : ℕ
result_size = 16

-- the offsets of the method, the index, p and P in a result; the pair's number is byte 0
abbrev pub method_offset : ℕ
method_offset = 1

abbrev pub index_offset : ℕ
index_offset = 4

abbrev pub lower_offset : ℕ
lower_offset = 8

abbrev pub upper_offset : ℕ
upper_offset = 12

-- bytes 0 to 3
unfoldable pub head_of : ℕ → ℕ → List ℕ
head_of number method = number ∷ method ∷ 0 ∷ 0 ∷ []

-- the fields, each at its offset; the index as a 32-bit number
unfoldable pub laid_out_bytes : ℕ → ℕ → ℕ → ℕ → ℕ → List ℕ
laid_out_bytes number method index lower upper = head_of number method ++ (bytes_of index ++ (bytes_of lower ++ bytes_of upper))

-- the same of the fields together
abbrev pub laid_out : Record → List ℕ
laid_out fields = laid_out_bytes fields.number fields.method fields.index fields.lower fields.upper

-- the fields of a refused pair
abbrev pub refused_fields : ℕ → Record
refused_fields number = record { number = number; method = 0; index = 0; lower = 0; upper = 0 }

-- the fields and the record of an answer refused in any way, under its number
abbrev pub numbered_fields : {R : Type 0} → ℕ → Result Index R → Record
numbered_fields number a = record { number = number; method = method_of a; index = twos_complement (index_of a); lower = lower_of a; upper = upper_of a }

abbrev pub numbered_record : {R : Type 0} → ℕ → Result Index R → List ℕ
numbered_record number a = laid_out (numbered_fields number a)

-- the fields of an answer to a pair
abbrev pub fields_of : Answer → Record
fields_of a = numbered_fields (number_of a) a

-- the record of an answer
abbrev pub record_of : Answer → List ℕ
record_of a = numbered_record (number_of a) a

-- the record that begins at `at`, and its fields read from the bytes
abbrev pub record_at : List ℕ → ℕ → List ℕ
record_at bytes at = take result_size (drop at bytes)

abbrev pub refusal_at : List ℕ → ℕ → ℕ
refusal_at bytes at = get_or bytes at 0

abbrev pub method_at : List ℕ → ℕ → ℕ
method_at bytes at = get_or bytes (at + method_offset) 0

abbrev pub index_at : List ℕ → ℕ → ℤ
index_at bytes at = signed_of (number_at bytes (at + index_offset))

abbrev pub lower_at : List ℕ → ℕ → ℕ
lower_at bytes at = number_at bytes (at + lower_offset)

abbrev pub upper_at : List ℕ → ℕ → ℕ
upper_at bytes at = number_at bytes (at + upper_offset)

-- bytes that are the record of a right answer to a pair: right by document 01's questions and procedures
pub record RightRecord (u y : ℕ) (bytes : List ℕ) : Type 0 where
  pub answer : Answer
  pub right : RightAnswer u y answer
  pub laid_out : bytes ≡ record_of answer

-- and of the one that the pair gets when asked alone
pub record RecordOfPair (u y : ℕ) (bytes : List ℕ) : Type 0 where
  pub of_right : RightRecord u y bytes
  pub alone : of_right.answer ≡ answer_of u y
