-- Field by field.
use native.Mathlib.Omega.{arith}
use mir.Facts.{to_z-of_z}
use Rattle.index_summary.specs.Summary.{alone_of, joined_of}
use Rattle.index_summary.proofs.Summary.joined.Goals as goal

pub returns : goal.returns
unfolding alone_of joined_of
returns c = grind (arith, to_z-of_z)
