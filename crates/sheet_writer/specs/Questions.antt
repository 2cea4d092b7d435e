-- Change request #108, the questions to a writing: "Refused: 51 an odd count of numbers in the row, 52 more than 2,000 pairs, 53 the buffer not exactly 16 + 24n
-- bytes; in that order."
use Rattle.std.specs.Prelude.{ℕ, ◌+◌, ◌*◌, ◌/◌, ◌%◌, ◌<◌, ◌≤◌, ◌≡◌, List, leb, eqb, length, Result, Ok, Err}
use Rattle.answer_record.specs.Record.{result_size}
use Rattle.sheet.specs.declared.questions.Blocks.{Blocks}
use Rattle.sheet.specs.Sheet.{header_size, pair_size, most_pairs, asked}
use Rattle.sheet_writer.specs.declared.questions.Refusal.{Refusal}
use Rattle.sheet_writer.specs.declared.questions.Refusal.TheVariants.{OddCount, TooManyPairs, OtherSize}

abbrev pub refusal_number : Refusal → ℕ
refusal_number OddCount = 51
refusal_number TooManyPairs = 52
refusal_number OtherSize = 53

-- "a list of pairs, lent as one row of 32-bit numbers, u then y": how many numbers a pair is, and how many pairs a row has
abbrev pub numbers_of_pair : ℕ
numbers_of_pair = 2

abbrev pub pairs_in : List ℕ → ℕ
pairs_in row = length row / numbers_of_pair

-- "the header, the pair block at 16, the result block straight after it": the blocks of a sheet of n pairs, and how many bytes it has, 16 + 24n
abbrev pub blocks_for : ℕ → Blocks
blocks_for n = record { count = n; pairs = header_size; results = header_size + pair_size * n }

abbrev pub size_for : ℕ → ℕ
size_for n = header_size + (pair_size + result_size) * n

-- the refusal of the first question that a row and a buffer of `size` bytes fail; the blocks where they fail none
unfoldable pub blocks_asked : List ℕ → ℕ → Result Blocks Refusal
blocks_asked row size =
    -- "51 an odd count of numbers in the row"
    asked (eqb (length row % numbers_of_pair) 0) OddCount
    -- "52 more than 2,000 pairs"
    (asked (leb (pairs_in row) most_pairs) TooManyPairs
    -- "53 the buffer not exactly 16 + 24n bytes"
    (asked (eqb size (size_for (pairs_in row))) OtherSize
    (Ok (blocks_for (pairs_in row)))))

-- the number of a refusal as C reads it; 0 where none refuses
abbrev pub writing_number_of : {A : Type 0} → Result A Refusal → ℕ
writing_number_of (Ok x) = 0
writing_number_of (Err refusal) = refusal_number refusal

unfoldable pub writing_refusal : List ℕ → ℕ → ℕ
writing_refusal row size = writing_number_of (blocks_asked row size)

-- the same with the request's numbers, each question for itself: "in that order"
pub record WritingQuestions : Type 0 where
  pub odd : (row : List ℕ) (size : ℕ) → length row % 2 ≡ 1 → writing_refusal row size ≡ 51
  pub too_many : (row : List ℕ) (size n : ℕ) → length row ≡ 2 * n → 2000 < n → writing_refusal row size ≡ 52
  pub other_size : (row : List ℕ) (size n : ℕ) → length row ≡ 2 * n → n ≤ 2000 → (size ≡ 16 + 24 * n → ⊥) → writing_refusal row size ≡ 53
  pub none : (row : List ℕ) (size n : ℕ) → length row ≡ 2 * n → n ≤ 2000 → size ≡ 16 + 24 * n → writing_refusal row size ≡ 0
