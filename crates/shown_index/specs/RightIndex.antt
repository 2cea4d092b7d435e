-- What p and P show of an index, with no oil in it: the half of document 01's "at least r" and "at most r" that speaks of the index. r is an index in
-- hundredths. Nobody has to believe this file: crate index states the whole of document 01's words (ProcedureB.antt).
use Rattle.std.specs.Prelude.{ℕ, ◌+◌, ◌*◌, ◌-◌, ◌^◌, ◌≤◌}
use Rattle.shown_index.specs.declared.Mark.{Mark}
use Rattle.shown_index.specs.declared.Mark.TheVariants as mark
use Rattle.shown_index.specs.declared.ByB.{ByB}
use Rattle.logarithm.specs.Fractions.{Q}
use Rattle.shown_index.specs.Terms.{c, least_index, most_index}

-- "at least r" by p and "at most s" by P, as far as they speak of the index
pub record IndexBetween (r s p P : ℕ) : Type 0 where
  pub at_least : c r ^ Q ≤ 10 ^ p * 10 ^ (7 * Q)
  pub at_most : 10 ^ P * 10 ^ (7 * Q) ≤ c s ^ Q

-- "Settled k: at least 100k − 50 and at most 100k + 50. Near k: at least 100k − 51 and at most 100k − 49."
abbrev pub IndexShown : Mark → ℕ → ℕ → ℕ → Type 0
IndexShown mark.Settled k p P = IndexBetween (100 * k - 50) (100 * k + 50) p P
IndexShown mark.Near k p P = IndexBetween (100 * k - 51) (100 * k - 49) p P

-- an index with its mark and fractions is right, as far as the fractions tell
pub record RightIndex (b : ByB) : Type 0 where
  pub least : least_index ≤ b.index
  pub most : b.index ≤ most_index
  pub shown : IndexShown b.mark b.index b.lower b.upper
