-- Document 01, 'Procedure B, u below H', its terms: c(r), and between which numbers an index lies. Q stands in crate logarithm (Fractions.antt).
-- What two fractions over Q show of an oil stands in crate index (ProcedureB.antt), and what they show of an index alone in RightIndex.antt.
use Rattle.std.specs.Prelude.{ℕ, ◌+◌, ◌*◌, ◌-◌}

-- "c(r) = 10,000,000 + 715·(r − 10,000)": 10^7 times 10^N at an index of r hundredths
abbrev pub c : ℕ → ℕ
c r = 10000000 + 715 * r - 715 * 10000

-- an index by procedure B is at least 100, as H itself has, and "Every index is at most 10,000"
abbrev pub least_index : ℕ
least_index = 100

abbrev pub most_index : ℕ
most_index = 10000
