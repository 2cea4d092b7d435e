-- One record: its length, that of an answer to a pair, and one that is all of a lent list.
use Rattle.reference.specs.Refusal.{number_of_refusal}
use Rattle.index.specs.Answer.{Answer, NumberOf}
use Rattle.index.proofs.PairNumber.{number_of_pair}
use Prim.Native.Nat.{ℕ}
use mathlib.Core.Path.{◌≡◌, refl, sym, ap, ◌∙◌}
use mathlib.Core.List.{List}
use lib.ListN.{length}
use Rattle.answer_record.specs.Bytes.{bytes_of, stored}
use Rattle.answer_record.specs.Record.{result_size, head_of, laid_out_bytes, numbered_fields, fields_of, numbered_record, record_of}
use Rattle.answer_record.specs.declared.store.Record.{Record}
use Rattle.answer_record.proofs.Stores.{stored_whole}

pub length_laid_out : (number method index lower upper : ℕ) → length (laid_out_bytes number method index lower upper) ≡ result_size
unfolding laid_out_bytes head_of bytes_of
length_laid_out number method index lower upper = refl

pub length_record : (a : Answer) → length (record_of a) ≡ result_size
length_record a = length_laid_out _ _ _ _ _

-- the fields that `Record::from` makes of an answer to a pair are that answer's, and what `write_result` stores is its record
pub pair_fields : (a : Answer) (fields : Record) → NumberOf (λ refusal n. n ≡ number_of_refusal refusal) a fields.number
    → fields ≡ numbered_fields fields.number a → fields ≡ fields_of a
pair_fields a fields n e = e ∙ ap (λ (k : ℕ). numbered_fields k a) (number_of_pair a n)

pub pair_stored : (before after : List ℕ) (at : ℕ) (a : Answer)
    → ((number : ℕ) × NumberOf (λ refusal n. n ≡ number_of_refusal refusal) a number × (after ≡ stored before at (numbered_record number a)))
    → after ≡ stored before at (record_of a)
pair_stored before after at a w = w.2 ∙ ap (λ (n : ℕ). stored before at (numbered_record n a)) (number_of_pair a w.1)

-- 16 bytes: all of them are the record that was stored from their start on
pub whole : (lent after : List ℕ) (a : Answer) → length lent ≡ result_size → after ≡ stored lent 0 (record_of a) → after ≡ record_of a
whole lent after a h e = e ∙ stored_whole lent (record_of a) (length_record a ∙ sym h)
