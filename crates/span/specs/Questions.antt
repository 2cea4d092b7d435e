-- Change request #107, the questions to limits: "Questions 1 to 4 are put to y1, y2, u2, and u1 against y2, after the new ones. Refused: 41 a lower limit above its
-- upper, 42 y2 − y1 above 200; in that order." The limits are u1 and u2 of the viscosity at 40 °C, y1 and y2 of the one at 100 °C, in thousandths of a mm²/s.
use Rattle.std.specs.Prelude.{ℕ, ◌-◌, ◌&&◌, cond, ltb, leb, eqb, Result, Ok, Err}
use Rattle.laws.specs.Questions.{ask}
use Rattle.reference.specs.Viscosity.{least100, greatest100, greatest40}
use Rattle.reference.specs.Refusal as pair
use Rattle.span.specs.declared.questions.Refusal.{Refusal}
use Rattle.span.specs.declared.questions.Refusal.TheVariants.{LowerAboveUpper, TooWide, Pair}
use Rattle.span.specs.declared.questions.Limits.{Limits}

-- "42 y2 − y1 above 200"
abbrev pub widest : ℕ
widest = 200

-- the number of the first question that is answered no; 0 where all are answered yes
abbrev pub refusal : ℕ → ℕ → ℕ → ℕ → ℕ
refusal u1 u2 y1 y2 =
    -- "41 a lower limit above its upper"
    ask (leb u1 u2 && leb y1 y2) 41
    -- "42 y2 − y1 above 200"
    (ask (leb (y2 - y1) widest) 42
    -- to y1: "Is y at least 2,000? No: 1."
    (ask (leb least100 y1) 1
    -- to y2: "Is y at most 500,000? No: 2."
    (ask (leb y2 greatest100) 2
    -- to u2: "Is u at most 1,000,000,000? No: 3."
    (ask (leb u2 greatest40) 3
    -- of u1 against y2: "Is u greater than y? No: 4."
    (ask (ltb y2 u1) 4 0)))))

-- the number of a refusal, and the refusal of a number
abbrev pub number_of_refusal : Refusal → ℕ
number_of_refusal LowerAboveUpper = 41
number_of_refusal TooWide = 42
number_of_refusal (Pair question) = pair.number_of_refusal question

abbrev pub refusal_of : ℕ → Refusal
refusal_of number =
    cond (eqb number 41) LowerAboveUpper
    (cond (eqb number 42) TooWide
    (Pair (pair.refusal_of number)))

-- what the code that asks them answers: the limits, or the refusal of that number
unfoldable pub asked_of : ℕ → ℕ → ℕ → ℕ → Result Limits Refusal
asked_of u1 u2 y1 y2 =
    cond (eqb (refusal u1 u2 y1 y2) 0) (Ok (record { u1 = u1; u2 = u2; y1 = y1; y2 = y2 })) (Err (refusal_of (refusal u1 u2 y1 y2)))
