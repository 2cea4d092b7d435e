-- Change request #104: "The tray takes numbers up to 4,294,967,295. Its size remains 64, and every list of calls that used numbers up to 255 gets the answers it
-- got." The tray beside the one of #102 (OneByteTray.antt), with no program in it.
use Rattle.std.specs.Prelude.{ℕ, ◌≡◌, Bool, true, ◌&&◌, List, [], ◌∷◌, leb, None, Ok, Err}
use Rattle.index.specs.Questions.{refusal}
use Rattle.index.specs.ChosenAnswer.{answer_of}
use Rattle.tray_places.specs.Places.{empty_tray}
use Rattle.tray.specs.declared.refusal.Refusal.{Refusal}
use Rattle.tray.specs.declared.refusal.Refusal.TheVariants.{NumberHeld}
use Rattle.tray.specs.Tray.{number_of_refusal}
use Rattle.tray.specs.Calls.{Call, Put, Take, Ask, ToPut, ToTake, ToAsk, after_all, answers_to}
use Rattle.summary_tray.specs.SummaryTray as summary_tray
use Rattle.summary_tray.specs.Calls as since
use Rattle.one_byte_tray.specs.OneByteTray as one_byte

-- ---- numbers up to 255

-- is a number up to 255; has a call such a number, or none; and has each call of a list?
abbrev pub up_to_255 : ℕ → Bool
up_to_255 number = leb number 255

abbrev pub call_up_to_255 : Call → Bool
call_up_to_255 (Put number u y) = up_to_255 number
call_up_to_255 (Take number) = up_to_255 number
call_up_to_255 Ask = true

unfoldable pub all_up_to_255 : List Call → Bool
all_up_to_255 [] = true
all_up_to_255 (call ∷ calls) = call_up_to_255 call && all_up_to_255 calls

pub record SameAnswers (calls : List Call) (used : all_up_to_255 calls ≡ true) : Type 0 where
  -- "every list of calls that used numbers up to 255 gets the answers it got": puts, takes and summaries, from the empty tray
  pub from_empty : answers_to empty_tray calls ≡ one_byte.answers_to one_byte.empty_tray calls
  -- and so it does of the tray that keeps its summary, since #105
  pub since_105 : since.answers_to summary_tray.empty_tray calls ≡ one_byte.answers_to one_byte.empty_tray calls
  -- from any memory too, of the places alone; and the memory afterwards is the same
  pub from_any : (tray : List ℕ) → answers_to tray calls ≡ one_byte.answers_to tray calls
  pub left : (tray : List ℕ) → after_all tray calls ≡ one_byte.after_all tray calls
  -- and where an answer is a refusal, it has the number that it had
  pub numbers : (refusal : Refusal) → number_of_refusal refusal ≡ one_byte.number_of_refusal refusal

-- ---- all numbers

pub record AnyNumbers : Type 0 where
  -- any two different numbers, whichever bytes they differ in, are two samples: both are put in, and each gives its own pair and answer
  pub two : (m n u y v z : ℕ) → (m ≡ n → ⊥) → refusal u y ≡ 0 → refusal v z ≡ 0
      → answers_to empty_tray (Put m u y ∷ Put n v z ∷ Take m ∷ Take n ∷ Ask ∷ [])
      ≡ ToPut (one_byte.as_put (answer_of u y)) ∷ ToPut (one_byte.as_put (answer_of v z))
      ∷ ToTake (Ok (record { number = m; u = u; y = y; answer = answer_of u y }))
      ∷ ToTake (Ok (record { number = n; u = v; y = z; answer = answer_of v z }))
      ∷ ToAsk (Ok None) ∷ []
  -- and a number, whichever it is, is held once
  pub same : (n u y v z : ℕ) → refusal u y ≡ 0 → refusal v z ≡ 0
      → answers_to empty_tray (Put n u y ∷ Put n v z ∷ []) ≡ ToPut (one_byte.as_put (answer_of u y)) ∷ ToPut (Err NumberHeld) ∷ []
  -- which #102's numbers of one byte could not say: 257 was the same number as 1
  pub before : (u y v z : ℕ) → refusal u y ≡ 0 → refusal v z ≡ 0
      → one_byte.answers_to one_byte.empty_tray (Put 1 u y ∷ Put 257 v z ∷ []) ≡ ToPut (one_byte.as_put (answer_of u y)) ∷ ToPut (Err NumberHeld) ∷ []
