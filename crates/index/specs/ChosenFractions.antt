-- Which p and P this program chooses for an oil below H, where document 01 leaves a choice ("Left free: which p and P"), and with them which index:
-- the definitions follow the code.
use Rattle.std.specs.Prelude.{ℕ, ◌+◌, ◌*◌, ◌-◌, ◌/◌, ◌<◌, ◌≤◌, ◌≡◌, cond, leb}
use Rattle.reference.specs.Viscosity.{in_units}
use Rattle.reference.specs.Basis.{h_at}
use Rattle.logarithm.specs.Scale.{width, log1000}
use Rattle.logarithm.specs.Log2.{log2_of}
use Rattle.shown_index.specs.declared.ByB.{ByB}
use Rattle.index.specs.declared.procedure_b.Oil.{Oil}
use Rattle.logarithm.specs.Fractions.{Q_number}
use Rattle.shown_index.specs.ChosenIndex.{most_lower, chosen_index}

-- p, from the logarithms of y, U and H: N rounded down, with every logarithm on the side that makes it smaller
unfoldable pub lower_from : ℕ → ℕ → ℕ → ℕ
lower_from ly lU lH = Q_number * (lH - (lU + width)) / (ly + width - log1000)

-- P: the first after p that is not below N, with every logarithm on the side that makes N greater; p + 2 is never below it
unfoldable pub upper_from : ℕ → ℕ → ℕ → ℕ → ℕ
upper_from ly lU lH p = cond (leb (Q_number * (lH + width - lU)) ((p + 1) * (ly - (log1000 + 1)))) (p + 1) (p + 2)

-- the p and the P of an oil
unfoldable pub lower_of_oil : Oil → ℕ
lower_of_oil oil = lower_from (log2_of oil.y) (log2_of (in_units oil.u)) (log2_of oil.h)

unfoldable pub upper_of_oil : Oil → ℕ
upper_of_oil oil = upper_from (log2_of oil.y) (log2_of (in_units oil.u)) (log2_of oil.h) (lower_of_oil oil)

-- what the code finds for an oil: its p and P, which fit their fields
pub record FoundFractions (oil : Oil) (p P : ℕ) : Type 0 where
  pub lower_is : p ≡ lower_of_oil oil
  pub upper_is : P ≡ upper_of_oil oil
  pub lower_fits : p ≤ most_lower
  pub order : p < P
  pub next : P ≤ p + 2

-- the index, mark and fractions of an oil, and of a pair, whose H is the one at its y
unfoldable pub by_b_of : Oil → ByB
by_b_of oil = chosen_index (lower_of_oil oil) (upper_of_oil oil)

abbrev pub oil_of_pair : ℕ → ℕ → Oil
oil_of_pair u y = record { u = u; y = y; h = h_at y }

abbrev pub answer_by_b : ℕ → ℕ → ByB
answer_by_b u y = by_b_of (oil_of_pair u y)
