-- How questions are put one after the other. Document 01: "Asked in this order; the first no gives its number."
use Rattle.std.specs.Prelude.{ℕ, Bool, true, false}

-- a question and its number, then what comes after it
abbrev pub ask : Bool → ℕ → ℕ → ℕ
ask true number next = next
ask false number next = number
