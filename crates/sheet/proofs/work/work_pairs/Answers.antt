-- Each turn stores one record more, and leaves the pairs as they were.
use borrow.Author.Rules.{rules}
use Rattle.sheet.proofs.Records.{next_turn}
use Rattle.sheet.proofs.work.work_pairs.Goals as goal

pub loop-i-preserved : goal.loop-i-preserved
loop-i-preserved c = next_turn _ _ _ _ _ _ c.requires (search rules) c.loop-i.invariant c.work_pair.ensures
