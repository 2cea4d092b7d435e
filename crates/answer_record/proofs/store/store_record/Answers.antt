-- The first four bytes and three numbers, one behind the other, are the record laid out.
use native.Mathlib.Omega.{arith}
use Rattle.answer_record.specs.Bytes.{bytes_of}
use Rattle.answer_record.specs.Record.{head_of, laid_out_bytes}
use Rattle.answer_record.proofs.Stores.{four_stored, stored_then}
use Rattle.answer_record.proofs.store.store_record.Goals as goal

pub returns : goal.returns
unfolding laid_out_bytes head_of bytes_of
returns c =
    stored_then _ _ _ _ (four_stored _ _ _ _ _ _) (omega arith)
    (stored_then _ _ _ _ c.store_number.ensures (omega arith)
    (stored_then _ _ _ _ c.store_number-2.ensures (omega arith) c.store_number-3.ensures))
