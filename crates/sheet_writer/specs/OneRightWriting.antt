-- Change request #108, that what is asked of a writing leaves nothing free. proofs/Right.antt shows it.
use Rattle.std.specs.Prelude.{ℕ, ◌<◌, ◌≡◌, List, get_or, length}
use Rattle.laws.specs.Bits.{span32}
use Rattle.sheet_writer.specs.Questions.{writing_refusal}
use Rattle.sheet_writer.specs.Writing.{buffer_after}
use Rattle.sheet_writer.specs.RightWriting.{RightWriting}

-- "32-bit numbers"
abbrev pub Numbers32 : List ℕ → Type 0
Numbers32 row = (i : ℕ) → get_or row i 0 < span32

-- any row and any buffer have just one right writing: no program is mentioned
pub record OneRightWriting : Type 0 where
  pub is : (row before : List ℕ) → Numbers32 row → RightWriting row before (buffer_after row before) (writing_refusal row (length before))
  pub only : (row before after : List ℕ) (number : ℕ) → Numbers32 row → RightWriting row before after number
      → (number ≡ writing_refusal row (length before)) × (after ≡ buffer_after row before)
