-- Four numbers, one behind the other, are the header.
use native.Mathlib.Omega.{arith}
use Rattle.answer_record.proofs.Stores.{stored_then}
use Rattle.sheet_writer.proofs.Pairs.{length_bytes}
use Rattle.sheet_writer.proofs.fill.store_header.Goals as goal

pub returns : goal.returns
returns c =
    stored_then _ _ _ _ c.store_number.ensures (omega (arith, length_bytes c.args.blocks.count))
    (stored_then _ _ _ _ c.store_number-2.ensures (omega (arith, length_bytes c.args.blocks.pairs))
    (stored_then _ _ _ _ c.store_number-3.ensures (omega (arith, length_bytes c.args.blocks.results)) c.store_number-4.ensures))
