-- Document 01, 'A sheet': the header, the questions to a sheet, the answer to it, and the whole sheet afterwards.
use Rattle.index.specs.Answer.{Answer}
use Rattle.std.specs.Prelude.{ℕ, zero, suc, ◌+◌, ◌*◌, Bool, true, false, cond, ◌&&◌, ◌||◌, List, [], ◌++◌, leb, eqb, length, take, drop, Result, Ok, Err}
use Rattle.index.specs.ChosenAnswer.{answer_of}
use Rattle.answer_record.specs.Bytes.{number_at, bytes_of}
use Rattle.answer_record.specs.Record.{result_size, record_of}
use Rattle.sheet.specs.declared.questions.Blocks.{Blocks}
use Rattle.sheet.specs.declared.refusal.Refusal.{Refusal}
use Rattle.sheet.specs.declared.refusal.Refusal.TheVariants.{NoHeader, TotalNotLength, TooManyPairs, PairsOutside, ResultsOutside, BlocksShareBytes}
use Rattle.sheet.specs.Numbers.{refusal_number}

-- "Header of four 32-bit numbers: the count n at 0, the offset of the pair block at 4, of the result block at 8, the total length at 12."
abbrev pub header_size : ℕ
header_size = 16

abbrev pub count_offset : ℕ
count_offset = 0

abbrev pub pairs_offset : ℕ
pairs_offset = 4

abbrev pub results_offset : ℕ
results_offset = 8

abbrev pub total_offset : ℕ
total_offset = 12

abbrev pub count_of : List ℕ → ℕ
count_of sheet = number_at sheet count_offset

abbrev pub pairs_of : List ℕ → ℕ
pairs_of sheet = number_at sheet pairs_offset

abbrev pub results_of : List ℕ → ℕ
results_of sheet = number_at sheet results_offset

abbrev pub total_of : List ℕ → ℕ
total_of sheet = number_at sheet total_offset

-- the bytes of a header, as the examples and the writer of crate sheet_writer put them together
abbrev pub header_of : ℕ → ℕ → ℕ → ℕ → List ℕ
header_of n pairs results total = bytes_of n ++ (bytes_of pairs ++ (bytes_of results ++ bytes_of total))

-- "A pair is 8 bytes, u then y."
abbrev pub pair_size : ℕ
pair_size = 8

abbrev pub y_offset : ℕ
y_offset = 4

-- where the two blocks end: "(offset + 8n)", "(offset + 16n)"
abbrev pub end_of_pairs : List ℕ → ℕ
end_of_pairs sheet = pairs_of sheet + pair_size * count_of sheet

abbrev pub end_of_results : List ℕ → ℕ
end_of_results sheet = results_of sheet + result_size * count_of sheet

-- "Is n at most 2,000?"
abbrev pub most_pairs : ℕ
most_pairs = 2000

-- "begin at 16 or later and end .. within the total"
unfoldable pub stands_within : ℕ → ℕ → ℕ → Bool
stands_within begin end total = leb header_size begin && leb end total

-- "share no byte": one ends at or before the offset at which the other begins. Where n is 0 both blocks are empty, and this holds wherever
-- they stand
unfoldable pub share_no_byte : ℕ → ℕ → ℕ → ℕ → Bool
share_no_byte begin end begin' end' = leb end begin' || leb end' begin

-- the blocks that the header names
abbrev pub named_blocks : List ℕ → Blocks
named_blocks sheet = record { count = count_of sheet; pairs = pairs_of sheet; results = results_of sheet }

-- a question: no gives its refusal, yes what comes after it
abbrev pub asked : {A R : Type 0} → Bool → R → Result A R → Result A R
asked true refusal later = later
asked false refusal later = Err refusal

-- the refusal of the first question that is answered no; the blocks where all are answered yes
unfoldable pub blocks_of : List ℕ → Result Blocks Refusal
blocks_of sheet =
    -- "Has the buffer 16 bytes or more? No: 11."
    asked (leb header_size (length sheet)) NoHeader
    -- "Does the total equal the buffer's length? No: 12."
    (asked (eqb (total_of sheet) (length sheet)) TotalNotLength
    -- "Is n at most 2,000? No: 13."
    (asked (leb (count_of sheet) most_pairs) TooManyPairs
    -- "Does the pair block begin at 16 or later and end (offset + 8n) within the total? No: 14."
    (asked (stands_within (pairs_of sheet) (end_of_pairs sheet) (total_of sheet)) PairsOutside
    -- "The same for the result block (offset + 16n)? No: 15."
    (asked (stands_within (results_of sheet) (end_of_results sheet) (total_of sheet)) ResultsOutside
    -- "Do the blocks share no byte? No: 16."
    (asked (share_no_byte (pairs_of sheet) (end_of_pairs sheet) (results_of sheet) (end_of_results sheet)) BlocksShareBytes
    (Ok (named_blocks sheet)))))))

-- the number of an answer: that of its refusal, 0 where there is none
abbrev pub sheet_number_of : {A : Type 0} → Result A Refusal → ℕ
sheet_number_of (Ok x) = 0
sheet_number_of (Err refusal) = refusal_number refusal

-- the number of the first question that is answered no; 0 where all are answered yes
unfoldable pub sheet_refusal : List ℕ → ℕ
sheet_refusal sheet = sheet_number_of (blocks_of sheet)

-- "pair i is the u and y handed in at the pair offset + 8i": of pairs that begin at `pairs`
abbrev pub u_at : List ℕ → ℕ → ℕ → ℕ
u_at sheet pairs i = number_at sheet (pairs + pair_size * i)

abbrev pub y_at : List ℕ → ℕ → ℕ → ℕ
y_at sheet pairs i = number_at sheet (pairs + pair_size * i + y_offset)

-- "the answer that the pair operation gives to this u and y"
abbrev pub answer_at : List ℕ → ℕ → ℕ → Answer
answer_at sheet pairs i = answer_of (u_at sheet pairs i) (y_at sheet pairs i)

-- "Its record stands at the result offset + 16i": the records of the first n pairs, one after the other
unfoldable pub records_of : List ℕ → ℕ → ℕ → List ℕ
records_of sheet pairs zero = []
records_of sheet pairs (suc i) = records_of sheet pairs i ++ record_of (answer_at sheet pairs i)

-- the sheet with the records of its pairs as its result block: "all bytes outside the result block stay"
abbrev pub with_results : List ℕ → List ℕ
with_results sheet = take (results_of sheet) sheet ++ (records_of sheet (pairs_of sheet) (count_of sheet) ++ drop (end_of_results sheet) sheet)

-- "A refused sheet answers the number and keeps all its bytes. An accepted one answers n": the refusal, which has the number, or n; and the sheet afterwards
abbrev pub answer_from : Result Blocks Refusal → Result ℕ Refusal
answer_from (Ok blocks) = Ok blocks.count
answer_from (Err refusal) = Err refusal

unfoldable pub sheet_answer_of : List ℕ → Result ℕ Refusal
sheet_answer_of sheet = answer_from (blocks_of sheet)

unfoldable pub sheet_after : List ℕ → List ℕ
sheet_after sheet = cond (eqb (sheet_refusal sheet) 0) (with_results sheet) sheet
