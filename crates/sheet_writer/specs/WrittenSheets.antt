-- Change request #108, what holds of written sheets, whoever writes them: "Two written sheets are equal exactly when their lists of pairs are. Every written sheet
-- is accepted and reads back as its list." proofs/WrittenSheets.antt shows it.
use Rattle.std.specs.Prelude.{ℕ, ◌<◌, ◌≤◌, ◌≡◌, ◌⊎◌, List, get_or, length}
use Rattle.sheet.specs.Sheet.{results_of, end_of_results, sheet_refusal, sheet_after}
use Rattle.sheet_writer.specs.RightWriting.{ReadsBack, RightWriting}

-- a row, and what a writing of it that no question refuses leaves in the buffer; of the buffer before, its size alone matters
abbrev pub Written : List ℕ → List ℕ → List ℕ → Type 0
Written row before sheet = RightWriting row before sheet 0

pub record WrittenSheets : Type 0 where
  -- "Two written sheets are equal exactly when their lists of pairs are", whatever the buffers held
  pub equal_lists : {row row' before before' sheet sheet' : List ℕ} → Written row before sheet → Written row' before' sheet' → row ≡ row' → sheet ≡ sheet'
  pub equal_sheets : {row row' before before' sheet sheet' : List ℕ} → Written row before sheet → Written row' before' sheet' → sheet ≡ sheet' → row ≡ row'
  -- "Every written sheet is accepted": it fails none of questions 11 to 16
  pub accepted : {row before sheet : List ℕ} → Written row before sheet → sheet_refusal sheet ≡ 0
  -- "and reads back as its list": this is part of what a right writing is; that what is stored is one, says `OneRightWriting`
  pub reads_back : {row before sheet : List ℕ} → Written row before sheet → ReadsBack row sheet
  -- working it changes bytes of its result block alone, so that it reads back as its list afterwards too
  pub same_size : {row before sheet : List ℕ} → Written row before sheet → length (sheet_after sheet) ≡ length sheet
  pub outside : {row before sheet : List ℕ} → Written row before sheet → (j : ℕ) → (j < results_of sheet) ⊎ (end_of_results sheet ≤ j)
      → get_or (sheet_after sheet) j 0 ≡ get_or sheet j 0
  pub worked : {row before sheet : List ℕ} → Written row before sheet → ReadsBack row (sheet_after sheet)
