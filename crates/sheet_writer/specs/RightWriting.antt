-- Change request #108, when a writing is right: sentence by sentence, by what the sheet's own readers find in it, and without the bytes that a program stores.
use Rattle.std.specs.Prelude.{ℕ, ◌+◌, ◌*◌, ◌<◌, ◌≤◌, ◌≡◌, List, get_or, length}
use Rattle.sheet.specs.Sheet.{count_of, pairs_of, results_of, total_of, end_of_pairs, end_of_results, u_at, y_at}
use Rattle.sheet_writer.specs.Questions.{writing_refusal}

-- a sheet "reads back as its list": the row is twice as many numbers as the sheet has pairs, and they are u, then y, of each
pub record ReadsBack (row sheet : List ℕ) : Type 0 where
  pub count : length row ≡ 2 * count_of sheet
  pub u : (i : ℕ) → i < count_of sheet → u_at sheet (pairs_of sheet) i ≡ get_or row (2 * i) 0
  pub y : (i : ℕ) → i < count_of sheet → y_at sheet (pairs_of sheet) i ≡ get_or row (2 * i + 1) 0

-- the sheet of a row, with n as its header says it
pub record SheetOf (row sheet : List ℕ) : Type 0 where
  -- it is bytes: "exactly 16 + 24n bytes"
  pub bytes : (j : ℕ) → get_or sheet j 0 < 256
  pub size : length sheet ≡ 16 + 24 * count_of sheet
  -- "from a list of pairs, lent as one row of 32-bit numbers, u then y"
  pub pairs : ReadsBack row sheet
  -- "it makes the header, the pair block at 16, the result block straight after it"
  pub total : total_of sheet ≡ length sheet
  pub pairs_at : pairs_of sheet ≡ 16
  pub results_at : results_of sheet ≡ end_of_pairs sheet
  -- "all result bytes zero"
  pub zeros : (j : ℕ) → results_of sheet ≤ j → j < end_of_results sheet → get_or sheet j 0 ≡ 0

-- what is answered, 0 where nothing refuses, and what the buffer holds afterwards: "A refused writing leaves the buffer untouched."
pub record RightWriting (row before after : List ℕ) (number : ℕ) : Type 0 where
  pub number_is : number ≡ writing_refusal row (length before)
  pub refused : (number ≡ 0 → ⊥) → after ≡ before
  pub written : number ≡ 0 → SheetOf row after
