-- The first result may be stored before the second pair.
use native.Mathlib.Omega.{arith}
use Rattle.sheet_writer.proofs.Pairs.{two_stored}
use Rattle.sheet_writer.proofs.fill.store_two.Goals as goal

pub returns : goal.returns
returns c =
    two_stored _ _ _ _ c.args.i c.requires.0.within (omega (arith, c.requires.1)) c.pair_in-first.ensures c.pair_in-second.ensures c.store_pair.ensures c.store_pair-2.ensures
    c.clear_result.ensures c.clear_result-2.ensures
