-- Change request #102, of lists of calls: "Samples held equal samples taken in less samples taken out, over every list of these calls from an empty tray. A refused
-- call changes nothing, and 32 comes only with 64 held." What holds after every list of calls, and of each single call on any tray.
use Rattle.std.specs.Prelude.{ℕ, ◌+◌, ◌≤◌, ◌<◌, ◌≡◌, Bool, List, length, Ok, Err}
use Rattle.reference.specs.declared.refusal.Refusal as of_pair
use Rattle.reference.specs.Refusal as pair
use Rattle.index.specs.declared.answer.Index.{Index}
use Rattle.index.specs.Questions.{refusal}
use Rattle.index.specs.Answer.{RightAnswer}
use Rattle.index.specs.ChosenAnswer.{answer_of}
use Rattle.tray_places.specs.Samples.{Sample}
use Rattle.tray_places.specs.Places.{empty_tray, held_in}
use Rattle.tray_places.specs.Counts.{one, times, numbered, same}
use Rattle.tray.specs.declared.refusal.Refusal.TheVariants.{NotATray, Pair, NumberHeld, TrayFull, NumberNotHeld}
use Rattle.tray.specs.Tray.{number_of_refusal, held_as, sample_with, as_put, put_answer, take_answer}
use Rattle.tray.specs.Calls.{Call, Put, Take, call_refusal, after, after_all, all_taken_in, all_taken_out}

-- the samples that are held after a list of calls from the empty tray, that it took in and that it took out
abbrev pub held : List Call → List Sample
held calls = held_in (after_all empty_tray calls)

abbrev pub in_all : List Call → List Sample
in_all calls = all_taken_in empty_tray calls

abbrev pub out_all : List Call → List Sample
out_all calls = all_taken_out empty_tray calls

-- what holds after a list of calls from the empty tray
pub record EveryList (calls : List Call) : Type 0 where
  -- of every single sample, of a number, u, y and an answer, the times taken in are the times taken out and the times held, together; and it is held once
  -- or not at all
  pub each : (s : Sample) → times (same s) (in_all calls) ≡ times (same s) (out_all calls) + times (same s) (held calls)
  pub once : (s : Sample) → times (same s) (held calls) ≤ 1
  -- samples of every kind
  pub balanced : (test : Sample → Bool) → times test (in_all calls) ≡ times test (out_all calls) + times test (held calls)
  -- and so their count
  pub counted : length (in_all calls) ≡ length (out_all calls) + length (held calls)
  -- "A tray holds up to 64 samples"
  pub most : length (held calls) ≤ 64
  -- no two samples held have the same number
  pub different : (number : ℕ) → times (numbered number) (held calls) ≤ 1
  -- each answer held is the one that its pair gets when asked alone, is no refusal, and is right by document 01
  pub alone : (s : Sample) → 0 < times (same s) (held calls)
      → (refusal s.u s.y ≡ 0) × (s.answer ≡ answer_of s.u s.y) × RightAnswer s.u s.y s.answer
  -- "32 comes only with 64 held", whatever is put in next
  pub full : (number u y : ℕ) → put_answer (after_all empty_tray calls) number u y ≡ Err TrayFull → length (held calls) ≡ 64

-- the numbers of the questions: of the pair's own, theirs; "31 number already held, 32 tray full"; "33 number not held"
pub record QuestionNumbers : Type 0 where
  pub lent : number_of_refusal NotATray ≡ 5
  pub pair : (question : of_pair.Refusal) → number_of_refusal (Pair question) ≡ pair.number_of_refusal question
  pub held : number_of_refusal NumberHeld ≡ 31
  pub full : number_of_refusal TrayFull ≡ 32
  pub not_held : number_of_refusal NumberNotHeld ≡ 33

-- a put that is not refused: it gives an index, which is the pair's own
pub record GivesIndex (tray : List ℕ) (number u y : ℕ) : Type 0 where
  pub index : Index
  pub own : answer_of u y ≡ Ok index
  pub given : put_answer tray number u y ≡ Ok index

-- a take that is not refused: it gives a sample of that number, and just this sample is held less
pub record GivesOut (tray : List ℕ) (number : ℕ) : Type 0 where
  pub sample : Sample
  pub given : take_answer tray number ≡ Ok sample
  pub number_is : sample.number ≡ number
  pub less : (test : Sample → Bool) → times test (held_in tray) ≡ times test (held_in (after tray (Take number))) + one (test sample)

-- memory that is not just 512 numbers: 5, whatever is asked, and it is left as it is
pub record OtherMemory (tray : List ℕ) (other : length tray ≡ 512 → ⊥) : Type 0 where
  pub put : (number u y : ℕ) → put_answer tray number u y ≡ Err NotATray
  pub take : (number : ℕ) → take_answer tray number ≡ Err NotATray
  pub left : (call : Call) → after tray call ≡ tray

-- what holds of each call on any tray of 512 numbers, reached by calls or not
pub record EveryCall (tray : List ℕ) (lent : length tray ≡ 512) : Type 0 where
  -- "A refused call changes nothing"
  pub unchanged : (call : Call) → 0 < call_refusal tray call → after tray call ≡ tray
  -- "both after the pair's own questions": a refused pair is refused by its own number
  pub pair_first : (number u y : ℕ) → 0 < refusal u y → put_answer tray number u y ≡ Err (Pair (pair.refusal_of (refusal u y)))
  -- "31 number already held, 32 tray full"
  pub number_held : (number u y : ℕ) → refusal u y ≡ 0 → 0 < held_as tray number → put_answer tray number u y ≡ Err NumberHeld
  pub tray_full : (number u y : ℕ) → refusal u y ≡ 0 → held_as tray number ≡ 0 → length (held_in tray) ≡ 64 → put_answer tray number u y ≡ Err TrayFull
  -- otherwise the pair's answer is given, and just this sample is held more
  pub put_in : (number u y : ℕ) → refusal u y ≡ 0 → held_as tray number ≡ 0 → length (held_in tray) < 64
      → (put_answer tray number u y ≡ as_put (answer_of u y))
      × ((test : Sample → Bool) → times test (held_in (after tray (Put number u y))) ≡ times test (held_in tray) + one (test (sample_with number u y (answer_of u y))))
  pub index_given : (number u y : ℕ) → refusal u y ≡ 0 → held_as tray number ≡ 0 → length (held_in tray) < 64 → GivesIndex tray number u y
  -- "33 number not held"
  pub not_held : (number : ℕ) → held_as tray number ≡ 0 → take_answer tray number ≡ Err NumberNotHeld
  pub taken_out : (number : ℕ) → 0 < held_as tray number → GivesOut tray number
  -- what was put in under a number is what is taken out under it: the pair as it was given, and its answer
  pub put_then_take : (number u y : ℕ) → refusal u y ≡ 0 → held_as tray number ≡ 0 → length (held_in tray) < 64
      → take_answer (after tray (Put number u y)) number ≡ Ok (record { number = number; u = u; y = y; answer = answer_of u y })
