-- Change request #108: "from a list of pairs, lent as one row of 32-bit numbers, u then y, it makes the header, the pair block at 16, the result block straight
-- after it, all result bytes zero."
use Rattle.std.specs.Prelude.{ℕ, zero, suc, ◌+◌, ◌*◌, List, [], ◌++◌, get_or, replicate, length, Result, Ok, Err}
use Rattle.answer_record.specs.Bytes.{bytes_of, stored}
use Rattle.answer_record.specs.Record.{result_size}
use Rattle.sheet.specs.declared.Pair.{Pair}
use Rattle.sheet.specs.declared.questions.Blocks.{Blocks}
use Rattle.sheet.specs.Sheet.{pair_size, header_of}
use Rattle.sheet_writer.specs.declared.questions.Refusal.{Refusal}
use Rattle.sheet_writer.specs.Questions.{numbers_of_pair, pairs_in, blocks_for, size_for, blocks_asked}

-- pair i of a row
abbrev pub pair_in : List ℕ → ℕ → Pair
pair_in row i = record { u = get_or row (numbers_of_pair * i) 0; y = get_or row (numbers_of_pair * i + 1) 0 }

-- a pair as bytes, and the first n pairs of a row
abbrev pub pair_bytes : Pair → List ℕ
pair_bytes pair = bytes_of pair.u ++ bytes_of pair.y

unfoldable pub pairs_bytes : List ℕ → ℕ → List ℕ
pairs_bytes row zero = []
pairs_bytes row (suc i) = pairs_bytes row i ++ pair_bytes (pair_in row i)

-- "all result bytes zero": what each of them holds, one result, and those of n pairs
abbrev pub unworked : ℕ
unworked = 0

abbrev pub unworked_result : List ℕ
unworked_result = replicate result_size unworked

abbrev pub unworked_results : ℕ → List ℕ
unworked_results n = replicate (result_size * n) unworked

-- a sheet with pair i of a row stored and its result unworked, and with the first n pairs so
abbrev pub with_pair : List ℕ → Blocks → List ℕ → ℕ → List ℕ
with_pair sheet blocks row i =
    stored (stored sheet (blocks.pairs + pair_size * i) (pair_bytes (pair_in row i))) (blocks.results + result_size * i) unworked_result

abbrev pub with_pairs : List ℕ → Blocks → List ℕ → ℕ → List ℕ
with_pairs sheet blocks row n = stored (stored sheet blocks.pairs (pairs_bytes row n)) blocks.results (unworked_results n)

-- the header of a sheet with these blocks
abbrev pub header_naming : Blocks → ℕ → List ℕ
header_naming blocks total = header_of blocks.count blocks.pairs blocks.results total

-- the sheet of a row
unfoldable pub sheet_for : List ℕ → List ℕ
sheet_for row =
    header_naming (blocks_for (pairs_in row)) (size_for (pairs_in row)) ++ (pairs_bytes row (pairs_in row) ++ unworked_results (pairs_in row))

-- what is answered, and what the buffer holds afterwards: "A refused writing leaves the buffer untouched."
abbrev pub answer_from : Result Blocks Refusal → Result (Unit {0}) Refusal
answer_from (Ok blocks) = Ok tt
answer_from (Err refusal) = Err refusal

abbrev pub buffer_from : Result Blocks Refusal → List ℕ → List ℕ → List ℕ
buffer_from (Ok blocks) row buffer = sheet_for row
buffer_from (Err refusal) row buffer = buffer

unfoldable pub writing_answer : List ℕ → ℕ → Result (Unit {0}) Refusal
writing_answer row size = answer_from (blocks_asked row size)

unfoldable pub buffer_after : List ℕ → List ℕ → List ℕ
buffer_after row buffer = buffer_from (blocks_asked row (length buffer)) row buffer
