-- Document 01, 'Questions to a pair': u at 40 °C and y at 100 °C, in thousandths of a mm²/s. "Asked in this order; the first no gives its number."
use Rattle.std.specs.Prelude.{ℕ, cond, ltb, leb, eqb, Result, Ok, Err}
use Rattle.laws.specs.Questions.{ask}
use Rattle.reference.specs.Viscosity.{least100, greatest100, greatest40}
use Rattle.reference.specs.declared.refusal.Refusal.{Refusal}
use Rattle.reference.specs.Refusal.{refusal_of}
use Rattle.index.specs.declared.questions.Viscosities.{Viscosities}

-- the number of the first question that is answered no; 0 where all are answered yes
abbrev pub refusal : ℕ → ℕ → ℕ
refusal u y =
    -- "Is y at least 2,000? No: 1."
    ask (leb least100 y) 1
    -- "Is y at most 500,000? No: 2."
    (ask (leb y greatest100) 2
    -- "Is u at most 1,000,000,000? No: 3."
    (ask (leb u greatest40) 3
    -- "Is u greater than y? No: 4."
    (ask (ltb y u) 4 0)))

-- what the code that asks them answers: the two viscosities, or the refusal of that number
unfoldable pub asked_of : ℕ → ℕ → Result Viscosities Refusal
asked_of u y = cond (eqb (refusal u y) 0) (Ok (record { u = u; y = y })) (Err (refusal_of (refusal u y)))
