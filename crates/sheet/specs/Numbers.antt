-- Document 01, 'A sheet': the numbers of the questions. "A refused sheet answers the number".
use Rattle.std.specs.Prelude.{ℕ, ◌≡◌}
use Rattle.sheet.specs.declared.refusal.Refusal.{Refusal}
use Rattle.sheet.specs.declared.refusal.Refusal.TheVariants.{NoHeader, TotalNotLength, TooManyPairs, PairsOutside, ResultsOutside, BlocksShareBytes}

abbrev pub refusal_number : Refusal → ℕ
-- "Has the buffer 16 bytes or more? No: 11."
refusal_number NoHeader = 11
-- "Does the total equal the buffer's length? No: 12."
refusal_number TotalNotLength = 12
-- "Is n at most 2,000? No: 13."
refusal_number TooManyPairs = 13
-- "Does the pair block begin at 16 or later and end (offset + 8n) within the total? No: 14."
refusal_number PairsOutside = 14
-- "The same for the result block (offset + 16n)? No: 15."
refusal_number ResultsOutside = 15
-- "Do the blocks share no byte? No: 16."
refusal_number BlocksShareBytes = 16

-- the six numbers, as document 01 gives them
pub record NumberedQuestions : Type 0 where
  pub no_header : refusal_number NoHeader ≡ 11
  pub total_not_length : refusal_number TotalNotLength ≡ 12
  pub too_many_pairs : refusal_number TooManyPairs ≡ 13
  pub pairs_outside : refusal_number PairsOutside ≡ 14
  pub results_outside : refusal_number ResultsOutside ≡ 15
  pub blocks_share_bytes : refusal_number BlocksShareBytes ≡ 16
