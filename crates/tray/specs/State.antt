-- Change request #102: "Asked, it gives the lowest and highest index, the sum of indices and the count for each of A, B settled and B near; an empty tray says
-- so."
use Rattle.index.specs.Answer.{Answer}
use Rattle.std.specs.Prelude.{ℕ, ◌+◌, ◌≡◌, cond, List, [], ◌∷◌, map, length, Option, Some, None, Result, Ok, Err}
use Rattle.index_summary.specs.declared.Summary.{Summary}
use Rattle.index_summary.specs.Summary.{alone_of, joined_of, nothing, is_of_none, SummaryOf}
use Rattle.tray_places.specs.Samples.{Sample}
use Rattle.tray_places.specs.Places.{is_held, sample_at, held_in}
use Rattle.tray.specs.declared.refusal.Refusal.{Refusal}
use Rattle.tray.specs.declared.refusal.Refusal.TheVariants.{NotATray}
use Rattle.tray.specs.Tray.{is_tray}

-- ---- the walk

-- what the samples held come to, none of no samples, with one answer more
abbrev pub with_answer : Option Summary → Answer → Option Summary
with_answer None answer = Some (alone_of answer)
with_answer (Some t) answer = Some (joined_of t answer)

-- and after a list of samples, one after the other
unfoldable pub state_after : Option Summary → List Sample → Option Summary
state_after state [] = state
state_after state (s ∷ samples) = state_after (with_answer state s.answer) samples

-- the state of a tray: the size of the lent memory is asked for first (no: 5), then the samples held are walked
unfoldable pub state_of : List ℕ → Result (Option Summary) Refusal
state_of tray = cond (is_tray tray) (Ok (state_after None (held_in tray))) (Err NotATray)

-- ---- when a state is right, whatever the lent memory holds

abbrev pub answers_in : List ℕ → List Answer
answers_in tray = map (λ (s : Sample). s.answer) (held_in tray)

-- by cases: refused (with 5) where the memory is not just 512 numbers; "an empty tray says so"; or the summary of the answers held, whose counts come to all of
-- them together
abbrev pub RightState : List ℕ → Result (Option Summary) Refusal → Type 0
RightState tray (Err refusal) = (refusal ≡ NotATray) × (length tray ≡ 512 → ⊥)
RightState tray (Ok None) = (length tray ≡ 512) × (held_in tray ≡ [])
RightState tray (Ok (Some t)) = (length tray ≡ 512) × SummaryOf (answers_in tray) t × (t.a + t.settled + t.near ≡ length (held_in tray))

-- ---- what the code that walks the places holds: a summary, of nothing at first

abbrev pub summary_in : Option Summary → Summary
summary_in None = nothing
summary_in (Some t) = t

-- the summary with place i more
abbrev pub with_place : List ℕ → ℕ → Summary → Summary
with_place tray i t = cond (is_held tray i) (joined_of t (sample_at tray i).answer) t

-- the state with a summary: none where nothing is counted
unfoldable pub state_with : Summary → Option Summary
state_with t = cond (is_of_none t) None (Some t)
