-- Change request #108, named writings as one statement: the empty list, the pairs of document 01's 'The printing program', and either side of each question's
-- limit. proofs/Examples.antt shows them from the definitions by computation.
use Rattle.std.specs.Prelude.{ℕ, ◌+◌, ◌*◌, ◌≡◌, List, [], ◌∷◌, ◌++◌, length, replicate, Ok, Err}
use Rattle.answer_record.specs.Bytes.{bytes_of}
use Rattle.sheet.specs.Sheet.{header_of, sheet_answer_of, sheet_after}
use Rattle.sheet_writer.specs.declared.questions.Refusal.TheVariants.{OddCount, TooManyPairs, OtherSize}
use Rattle.sheet_writer.specs.Writing.{writing_answer, buffer_after}

-- (73300, 8860), (22830, 5050), (20000, 1999)
abbrev pub three_pairs : List ℕ
three_pairs = 73300 ∷ 8860 ∷ 22830 ∷ 5050 ∷ 20000 ∷ 1999 ∷ []

pub record WritingExamples : Type 0 where
  -- the empty list is the header alone, the sheet of document 01's "16 bytes with n 0, offsets 16 and 16, total 16: accepted, unchanged"
  pub empty : (buffer : List ℕ) → length buffer ≡ 16 → buffer_after [] buffer ≡ header_of 0 16 16 16
  pub empty_written : writing_answer [] 16 ≡ Ok tt
  pub empty_accepted : (buffer : List ℕ) → length buffer ≡ 16 → sheet_answer_of (buffer_after [] buffer) ≡ Ok 0
  pub empty_unchanged : (buffer : List ℕ) → length buffer ≡ 16 → sheet_after (buffer_after [] buffer) ≡ buffer_after [] buffer
  -- three pairs, byte by byte
  pub three : (buffer : List ℕ) → length buffer ≡ 88 → buffer_after three_pairs buffer
      ≡ header_of 3 16 40 88
      ++ (bytes_of 73300 ++ bytes_of 8860 ++ bytes_of 22830 ++ bytes_of 5050 ++ bytes_of 20000 ++ bytes_of 1999 ++ replicate 48 0)
  pub three_written : writing_answer three_pairs 88 ≡ Ok tt
  -- a buffer one byte too short, and one too long, which is left as it is
  pub short : writing_answer three_pairs 87 ≡ Err OtherSize
  pub long : writing_answer three_pairs 89 ≡ Err OtherSize
  pub left : (buffer : List ℕ) → length buffer ≡ 89 → buffer_after three_pairs buffer ≡ buffer
  -- an odd count of numbers, in a buffer for the pairs of one number less, and of one more
  pub odd : writing_answer (73300 ∷ []) 16 ≡ Err OddCount
  pub odd_up : writing_answer (73300 ∷ []) 40 ≡ Err OddCount
  -- 2,000 pairs, and 2,001, whatever the buffer; 4,003 numbers are odd before they are too many
  pub most : (row : List ℕ) → length row ≡ 4000 → writing_answer row (16 + 24 * 2000) ≡ Ok tt
  pub too_many : (row : List ℕ) (size : ℕ) → length row ≡ 4002 → writing_answer row size ≡ Err TooManyPairs
  pub odd_first : (row : List ℕ) (size : ℕ) → length row ≡ 4003 → writing_answer row size ≡ Err OddCount
