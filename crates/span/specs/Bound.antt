-- The index that an oil would have with L and H at one viscosity and with the logarithm of another, and the bound of a stretch that it gives: for inner functions
-- alone. No word of the request speaks of it, and nobody has to believe it.
use Rattle.std.specs.Prelude.{ℕ, ◌+◌, ◌-◌, cond, ltb, ℤ, pos}
use Rattle.reference.specs.Viscosity.{in_units}
use Rattle.reference.specs.Basis.{h_at}
use Rattle.index.specs.declared.procedure_b.Oil.{Oil}
use Rattle.index.specs.ChosenFractions.{by_b_of}
use Rattle.index.specs.ProcedureA.{index_a}
use Rattle.span.specs.declared.extreme.Extreme.{Extreme}
use Rattle.span.specs.declared.extreme.Extreme.TheVariants.{Least, Greatest}

-- with L and H at `at` and the logarithm of y
abbrev pub oil_between : ℕ → ℕ → ℕ → Oil
oil_between u at y = record { u = u; y = y; h = h_at at }

unfoldable pub index_between : ℕ → ℕ → ℕ → ℤ
index_between u at y = cond (ltb (in_units u) (h_at at)) (pos ((by_b_of (oil_between u at y)).index)) (index_a u at)

-- the bound of a stretch, from both ends
abbrev pub bound_of : Extreme → ℕ → ℕ → ℕ → ℤ
bound_of Least u from to = index_between u from to
bound_of Greatest u from to = index_between u to from

-- the end of a stretch at which the least, or the greatest, is most often found; and the first and the last of the others
abbrev pub end_of : Extreme → ℕ → ℕ → ℕ
end_of Least from to = from
end_of Greatest from to = to

abbrev pub first_of : Extreme → ℕ → ℕ
first_of Least from = from + 1
first_of Greatest from = from

abbrev pub last_of : Extreme → ℕ → ℕ
last_of Least to = to
last_of Greatest to = to - 1
