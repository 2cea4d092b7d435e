-- Demand 3, beside the customer's words: one claim about a whole sheet, from its bytes before and after the one call that works it.
-- "In it a record is answered when its pair passes questions 1 to 4; an oil is below H when U is below H; thicker at 40 °C means the greater
-- u. The exact value, the two marks and what the fractions show are as under procedure B, with p and P taken from that record."
use Rattle.std.specs.Prelude.{ℕ, ◌+◌, ◌*◌, ◌<◌, ◌≡◌, List, ◌⊎◌, ℤ, pos, ◌≤ℤ◌}
use Rattle.reference.specs.Basis.{h_at}
use Rattle.reference.specs.Viscosity.{in_units}
use Rattle.shown_index.specs.declared.Mark.TheVariants as mark
use Rattle.index.specs.Questions.{refusal}
use Rattle.index.specs.ProcedureB.{SettledAt, NearAt}
use Rattle.index.specs.Answer.{method_of_mark}
use Rattle.answer_record.specs.Record.{result_size, record_at, method_at, index_at, lower_at, upper_at, RightRecord, RecordOfPair}
use Rattle.sheet.specs.Sheet.{count_of, pairs_of, results_of, u_at, y_at, sheet_refusal}

module _ (before after : List ℕ) where
  -- the count of pairs, and pair i as it was handed in
  abbrev pub n : ℕ
  n = count_of before

  abbrev pub u : ℕ → ℕ
  u i = u_at before (pairs_of before) i

  abbrev pub y : ℕ → ℕ
  y i = y_at before (pairs_of before) i

  -- record i after the call: the offset at which it stands, its bytes, and what is read from them; `lower` and `upper` are p and P
  abbrev pub offset : ℕ → ℕ
  offset i = results_of before + result_size * i

  abbrev pub bytes : ℕ → List ℕ
  bytes i = record_at after (offset i)

  abbrev pub method : ℕ → ℕ
  method i = method_at after (offset i)

  abbrev pub index : ℕ → ℤ
  index i = index_at after (offset i)

  abbrev pub lower : ℕ → ℕ
  lower i = lower_at after (offset i)

  abbrev pub upper : ℕ → ℕ
  upper i = upper_at after (offset i)

  -- "a record is answered when its pair passes questions 1 to 4; an oil is below H when U is below H"
  abbrev pub Answered : ℕ → Type 0
  Answered i = refusal (u i) (y i) ≡ 0

  abbrev pub BelowH : ℕ → Type 0
  BelowH i = in_units (u i) < h_at (y i)

  -- how the record is marked
  abbrev pub MarkedSettled : ℕ → Type 0
  MarkedSettled i = method i ≡ method_of_mark mark.Settled

  abbrev pub MarkedNear : ℕ → Type 0
  MarkedNear i = method i ≡ method_of_mark mark.Near

  -- what the record of an oil below H shows: its index is a whole number k, and its mark is true of k by the powers of its own p and P.
  -- "Settled k: at least 100k − 50 and at most 100k + 50 [hundredths]. Near k: at least 100k − 51 and at most 100k − 49."
  pub record Shown (i : ℕ) : Type 0 where
    pub k : ℕ
    pub index_is : index i ≡ pos k
    pub marked :
        (MarkedSettled i × SettledAt (u i) (y i) k (lower i) (upper i))
        ⊎ (MarkedNear i × NearAt (u i) (y i) k (lower i) (upper i))

  -- "The result block holds one record for each pair, in the order of the pairs, and each record is exactly the answer that its own pair
  -- gets when asked alone, by document 01's questions and procedures."
  abbrev pub Records : Type 0
  Records = (i : ℕ) → i < n → RecordOfPair (u i) (y i) (bytes i)

  -- the same without the words "when asked alone": each record is that of some right answer. The other two sentences follow from it
  abbrev pub RightRecords : Type 0
  RightRecords = (i : ℕ) → i < n → RightRecord (u i) (y i) (bytes i)

  -- "Each settled index k of an oil below H has the standard's exact value from k − 0.5 to k + 0.5, and each near one from k − 0.51 to
  -- k − 0.49, both shown by whole-number powers of the two fractions in that record."
  abbrev pub Certified : Type 0
  Certified = (i : ℕ) → i < n → Answered i → BelowH i → Shown i

  -- "Of any two answered records with equal viscosity at 100 °C, neither marked near, the one thicker at 40 °C never has the higher
  -- index, wherever the two stand and whichever procedure gave each."
  abbrev pub Ordered : Type 0
  Ordered =
      (i j : ℕ) → i < n → j < n → Answered i → Answered j → y i ≡ y j → (MarkedNear i → ⊥) → (MarkedNear j → ⊥)
      → u i < u j → index j ≤ℤ index i

  pub record AfterTheCall : Type 0 where
    pub records : Records
    pub below : Certified
    pub order : Ordered

-- "For every accepted sheet of 0 to 2,000 pairs, whichever of them are refused and whatever its result block held before, this is true
-- after the one call that works it."
abbrev pub Demand3 : List ℕ → List ℕ → Type 0
Demand3 before after = sheet_refusal before ≡ 0 → AfterTheCall before after
