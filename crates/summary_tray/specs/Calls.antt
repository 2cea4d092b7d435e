-- Change request #105: "every list of calls from an empty tray", of the tray that keeps its summary: what a call and a list of calls leave and answer.
use Rattle.std.specs.Prelude.{ℕ, List, [], ◌∷◌}
use Rattle.tray.specs.Calls.{Call, Put, Take, Ask, CallAnswer, ToPut, ToTake, ToAsk, refused_by}
use Rattle.summary_tray.specs.SummaryTray.{put_answer, tray_after_put, take_answer, tray_after_take, state_of}

-- the number of the question that refuses a call, 0 where none does
abbrev pub call_refusal : List ℕ → Call → ℕ
call_refusal tray (Put number u y) = refused_by (put_answer tray number u y)
call_refusal tray (Take number) = refused_by (take_answer tray number)
call_refusal tray Ask = refused_by (state_of tray)

-- the tray after a call, and after a list of calls, the first one first
abbrev pub after : List ℕ → Call → List ℕ
after tray (Put number u y) = tray_after_put tray number u y
after tray (Take number) = tray_after_take tray number
after tray Ask = tray

unfoldable pub after_all : List ℕ → List Call → List ℕ
after_all tray [] = tray
after_all tray (call ∷ calls) = after_all (after tray call) calls

-- what a call answers, and what a list of calls answers, one after the other
abbrev pub call_answer : List ℕ → Call → CallAnswer
call_answer tray (Put number u y) = ToPut (put_answer tray number u y)
call_answer tray (Take number) = ToTake (take_answer tray number)
call_answer tray Ask = ToAsk (state_of tray)

unfoldable pub answers_to : List ℕ → List Call → List CallAnswer
answers_to tray [] = []
answers_to tray (call ∷ calls) = call_answer tray call ∷ answers_to (after tray call) calls
