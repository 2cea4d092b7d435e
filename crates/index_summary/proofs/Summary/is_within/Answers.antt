-- The last count but one is too large.
use borrow.Author.Rules.{rules}
use Rattle.index_summary.specs.Preconditions.{is_within}
use Rattle.index_summary.proofs.Summary.is_within.Goals as goal

pub returns-else-self-le-MOST_COUNT-2 : goal.returns-else-self-le-MOST_COUNT-2
unfolding is_within
returns-else-self-le-MOST_COUNT-2 c = search rules depth 9
