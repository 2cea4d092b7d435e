-- The outcome by the method of a record.
use Prim.Native.Nat.{ℕ, zero, suc, ◌+◌}
use mathlib.Core.Path.{◌≡◌, refl}
use mathlib.Core.List.{List}
use lib.IntN.{ℤ, pos}
use Rattle.std.specs.Prelude.{Ok, Err}
use Rattle.shown_index.specs.declared.Mark.{Mark}
use Rattle.shown_index.specs.declared.Mark.TheVariants as mark
use Rattle.index.specs.declared.answer.Index.TheVariants.{A, B}
use Rattle.index.specs.Answer.{Answer, number_of, method_of_mark, method_of, index_of}
use Rattle.answer_record.specs.Bytes.{number_at, signed_of}
use Rattle.answer_record.specs.Record.{index_offset, refusal_at, method_at}
use Rattle.text_fields.specs.Fields.{ascii, decimal, signed_decimal, worded}
use Rattle.text_lines.specs.Lines.{procedure_b, outcome}
use Rattle.text_lines.specs.FromRecord.{outcome_by, outcome_at}

-- the last method: any other number of a byte is B near
pub near_outcome : (number method : ℕ) (index : ℤ) → (method ≡ 0 → ⊥) → (method ≡ 1 → ⊥) → (method ≡ 2 → ⊥)
    → worded (ascii "B~") (signed_decimal index) ≡ outcome_by number method index
near_outcome number zero index a b d = absurd (a refl)
near_outcome number (suc zero) index a b d = absurd (b refl)
near_outcome number (suc (suc zero)) index a b d = absurd (d refl)
near_outcome number (suc (suc (suc more))) index a b d = refl

-- a text by the bits of the index that were read is the outcome of the sheet's own bytes
pub outcome_put : (sheet : List ℕ) (from : ℕ) {bits : ℕ} {text : List ℕ} → bits ≡ number_at sheet (from + index_offset)
    → text ≡ outcome_by (refusal_at sheet from) (method_at sheet from) (signed_of bits) → text ≡ outcome_at sheet from
outcome_put sheet from e p = rw e at p

-- the outcome by the fields of an answer's record is the answer's
by_mark : (m : Mark) (k : ℕ) → outcome_by 0 (method_of_mark m) (pos k) ≡ worded (procedure_b m) (decimal k)
by_mark mark.Settled k = refl
by_mark mark.Near k = refl

pub outcome_by_fields : (a : Answer) → outcome_by (number_of a) (method_of a) (index_of a) ≡ outcome a
outcome_by_fields (Err refusal) = refl
outcome_by_fields (Ok (A index)) = refl
outcome_by_fields (Ok (B b)) = by_mark b.mark b.index
