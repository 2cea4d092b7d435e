-- Document 01, 'Pairs and sheets to try': the sheets, as one statement; the questions that they do not fail; and the greatest sheet. proofs/Examples.antt
-- shows them from the definitions by computation.
-- "16 bytes with n 0, offsets 16 and 16, total 16: accepted, unchanged. Pair offset 17 there: 14. Only the result offset 17: 15."
use Rattle.std.specs.Prelude.{ℕ, ◌+◌, ◌*◌, ◌≡◌, List, [], ◌∷◌, ◌++◌, length, Ok, Err}
use Rattle.answer_record.specs.Bytes.{bytes_of}
use Rattle.sheet.specs.declared.refusal.Refusal.TheVariants.{NoHeader, TotalNotLength, TooManyPairs, PairsOutside, ResultsOutside, BlocksShareBytes}
use Rattle.sheet.specs.Sheet.{header_of, sheet_answer_of, sheet_after}

pub record TriedSheets : Type 0 where
  pub accepted : sheet_answer_of (header_of 0 16 16 16) ≡ Ok 0
  pub unchanged : sheet_after (header_of 0 16 16 16) ≡ header_of 0 16 16 16
  pub pair_offset : sheet_answer_of (header_of 0 17 16 16) ≡ Err PairsOutside
  pub result_offset : sheet_answer_of (header_of 0 16 17 16) ≡ Err ResultsOutside

-- The other questions, each failed alone: "Has the buffer 16 bytes or more? No: 11. Does the total equal the buffer's length? No: 12. .. Do the blocks share
-- no byte? No: 16." The last is of one pair at 16, whose result begins at 20
pub record RefusedSheets : Type 0 where
  pub no_header : sheet_answer_of [] ≡ Err NoHeader
  pub short_header : (byte : ℕ) → sheet_answer_of (bytes_of 0 ++ (bytes_of 16 ++ (bytes_of 16 ++ (byte ∷ byte ∷ byte ∷ [])))) ≡ Err NoHeader
  pub total_below : sheet_answer_of (header_of 0 16 16 15) ≡ Err TotalNotLength
  pub total_above : sheet_answer_of (header_of 0 16 16 17) ≡ Err TotalNotLength
  pub shared : (blocks : List ℕ) → length blocks ≡ 20 → sheet_answer_of (header_of 1 16 20 36 ++ blocks) ≡ Err BlocksShareBytes

-- a sheet of n pairs with its results after them, as a header and the 24 bytes that each pair and its record take, whatever they hold
abbrev pub sheet_of : ℕ → List ℕ → List ℕ
sheet_of n blocks = header_of n 16 (16 + 8 * n) (16 + 24 * n) ++ blocks

-- "Is n at most 2,000? No: 13."
pub record GreatestSheet : Type 0 where
  pub full : (blocks : List ℕ) → length blocks ≡ 24 * 2000 → sheet_answer_of (sheet_of 2000 blocks) ≡ Ok 2000
  pub one_more : (blocks : List ℕ) → length blocks ≡ 24 * 2001 → sheet_answer_of (sheet_of 2001 blocks) ≡ Err TooManyPairs
