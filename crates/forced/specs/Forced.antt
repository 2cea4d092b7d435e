-- What a sheet's records are forced to be: from `RightRecords` alone, that each record is that of a right answer to its own pair, which is what the first
-- sentence of demand 3 says but for the words "when asked alone". So the substitutes of the buyer's note are refuted by the definitions, and not only by the
-- proof of one program. proofs/Forced.antt shows it.
use Rattle.std.specs.Prelude.{ℕ, ◌<◌, ◌≡◌, List, ◌++◌, pos, length, Ok, Err}
use Rattle.reference.specs.declared.refusal.Refusal.TheVariants.{ThinAt100}
use Rattle.index.specs.declared.answer.Index.TheVariants.{A}
use Rattle.answer_record.specs.Bytes.{bytes_of}
use Rattle.answer_record.specs.Record.{record_of}
use Rattle.sheet.specs.Sheet.{header_of, sheet_refusal}
use Rattle.sheet.specs.Demand3.{n, u, y, bytes, method, index, lower, upper, RightRecords, Certified, Ordered, Demand3}
use Rattle.forced.specs.ForcedAnswers.{Forced156, ForcedNear125}

-- pair i of the sheet is (v, w)
pub record PairIs (before after : List ℕ) (i v w : ℕ) : Type 0 where
  pub among : i < n before after
  pub u_is : u before after i ≡ v
  pub y_is : y before after i ≡ w

pub record Forced (before after : List ℕ) : Type 0 where
  -- Wherever (73300, 8860) stands, its 16 bytes are the record of A 92, whatever stood there before. This refutes "gives 100 to all", "refuses all" and
  -- "leaves the result block as found"
  pub by_a : (i : ℕ) → PairIs before after i 73300 8860 → bytes before after i ≡ record_of (Ok (A (pos 92)))
  -- Wherever (22830, 5050) stands, its record is settled and not near, its index is 156, and its own p and P satisfy the four inequalities. This refutes
  -- "marks every pair near", "writes invented fractions" and, again, "gives 100 to all". With `by_a` it refutes "works the first record and copies it
  -- down": the two pairs have different methods, whichever stands first
  pub by_b : (i : ℕ) → PairIs before after i 22830 5050
      → Forced156 (method before after i) (index before after i) (lower before after i) (upper before after i)
  -- Wherever (144936, 16776) stands, its record is near 125: it refutes a program that settles every index
  pub near : (i : ℕ) → PairIs before after i 144936 16776
      → ForcedNear125 (method before after i) (index before after i) (lower before after i) (upper before after i)
  -- Wherever (20000, 1999) stands, its 16 bytes are the record of a refusal by 1: a refused pair has its record too
  pub refused : (i : ℕ) → PairIs before after i 20000 1999 → bytes before after i ≡ record_of (Err ThinAt100)

-- a sheet of these four pairs, the refused one first, with what was found in its result block
abbrev pub four_pairs : List ℕ → List ℕ
four_pairs found =
    header_of 4 16 48 112
    ++ (bytes_of 20000 ++ bytes_of 1999 ++ bytes_of 73300 ++ bytes_of 8860 ++ bytes_of 22830 ++ bytes_of 5050 ++ bytes_of 144936 ++ bytes_of 16776 ++ found)

-- such a sheet is accepted, and its pairs are those four: what is forced is forced of some sheet
pub record FourPairs (found after : List ℕ) : Type 0 where
  pub accepted : sheet_refusal (four_pairs found) ≡ 0
  pub first : PairIs (four_pairs found) after 0 20000 1999
  pub second : PairIs (four_pairs found) after 1 73300 8860
  pub third : PairIs (four_pairs found) after 2 22830 5050
  pub fourth : PairIs (four_pairs found) after 3 144936 16776

pub record SheetForced : Type 0 where
  pub forced : (before after : List ℕ) → RightRecords before after → Forced before after
  pub there_is_one : (found after : List ℕ) → length found ≡ 64 → FourPairs found after
  -- demand 3 says it of every accepted sheet
  pub from_demand3 : (before after : List ℕ) → Demand3 before after → sheet_refusal before ≡ 0 → RightRecords before after
  -- the second and the third sentence of demand 3 follow
  pub second_sentence : (before after : List ℕ) → RightRecords before after → Certified before after
  pub third_sentence : (before after : List ℕ) → RightRecords before after → Ordered before after
