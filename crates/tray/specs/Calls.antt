-- Change request #102: "every list of these calls from an empty tray". What a call and a list of calls leave and answer, and which samples they take in and out.
use Rattle.std.specs.Prelude.{ℕ, List, [], ◌∷◌, ◌++◌, Option, Result, Ok, Err}
use Rattle.index.specs.declared.answer.Index.{Index}
use Rattle.index_summary.specs.declared.Summary.{Summary}
use Rattle.tray_places.specs.Samples.{Sample}
use Rattle.tray.specs.declared.refusal.Refusal.{Refusal}
use Rattle.tray.specs.Tray.{number_of_refusal, sample_with, put_answer, tray_after_put, take_answer, tray_after_take}
use Rattle.tray.specs.State.{state_of}

-- a call: putting in a number, u and y; taking out a number; asking for the state
pub data Call : Type 0 where
  Put : ℕ → ℕ → ℕ → Call
  Take : ℕ → Call
  Ask : Call

-- the number of the question that refuses a call, 0 where none does
abbrev pub refused_by : {X : Type 0} → Result X Refusal → ℕ
refused_by (Err refusal) = number_of_refusal refusal
refused_by (Ok x) = 0

abbrev pub call_refusal : List ℕ → Call → ℕ
call_refusal tray (Put number u y) = refused_by (put_answer tray number u y)
call_refusal tray (Take number) = refused_by (take_answer tray number)
call_refusal tray Ask = refused_by (state_of tray)

-- the tray after a call, and after a list of calls, the first one first
abbrev pub after : List ℕ → Call → List ℕ
after tray (Put number u y) = tray_after_put tray number u y
after tray (Take number) = tray_after_take tray number
after tray Ask = tray

unfoldable pub after_all : List ℕ → List Call → List ℕ
after_all tray [] = tray
after_all tray (call ∷ calls) = after_all (after tray call) calls

-- what a call answers, and what a list of calls answers, one after the other
pub data CallAnswer : Type 0 where
  ToPut : Result Index Refusal → CallAnswer
  ToTake : Result Sample Refusal → CallAnswer
  ToAsk : Result (Option Summary) Refusal → CallAnswer

abbrev pub call_answer : List ℕ → Call → CallAnswer
call_answer tray (Put number u y) = ToPut (put_answer tray number u y)
call_answer tray (Take number) = ToTake (take_answer tray number)
call_answer tray Ask = ToAsk (state_of tray)

unfoldable pub answers_to : List ℕ → List Call → List CallAnswer
answers_to tray [] = []
answers_to tray (call ∷ calls) = call_answer tray call ∷ answers_to (after tray call) calls

-- the samples, one or none, that a call takes in and that it takes out: those that its answer says
abbrev pub in_by : ℕ → ℕ → ℕ → Result Index Refusal → List Sample
in_by number u y (Err refusal) = []
in_by number u y (Ok index) = sample_with number u y (Ok index) ∷ []

abbrev pub out_by : Result Sample Refusal → List Sample
out_by (Err refusal) = []
out_by (Ok s) = s ∷ []

abbrev pub samples_taken_in : List ℕ → Call → List Sample
samples_taken_in tray (Put number u y) = in_by number u y (put_answer tray number u y)
samples_taken_in tray (Take number) = []
samples_taken_in tray Ask = []

abbrev pub samples_taken_out : List ℕ → Call → List Sample
samples_taken_out tray (Put number u y) = []
samples_taken_out tray (Take number) = out_by (take_answer tray number)
samples_taken_out tray Ask = []

-- and all that a list of calls takes in and takes out
unfoldable pub all_taken_in : List ℕ → List Call → List Sample
all_taken_in tray [] = []
all_taken_in tray (call ∷ calls) = samples_taken_in tray call ++ all_taken_in (after tray call) calls

unfoldable pub all_taken_out : List ℕ → List Call → List Sample
all_taken_out tray [] = []
all_taken_out tray (call ∷ calls) = samples_taken_out tray call ++ all_taken_out (after tray call) calls
