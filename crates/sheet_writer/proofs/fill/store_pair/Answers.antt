-- Two numbers, one behind the other, are the pair's bytes.
use native.Mathlib.Omega.{arith}
use Rattle.answer_record.proofs.Stores.{stored_then}
use Rattle.sheet_writer.proofs.Pairs.{length_bytes}
use Rattle.sheet_writer.proofs.fill.store_pair.Goals as goal

pub returns : goal.returns
returns c = stored_then _ _ _ _ c.store_number.ensures (omega (arith, length_bytes c.args.pair.u)) c.store_number-2.ensures
