-- Change requests #102 and #105 of the calls in C whose lent memories have their sizes: which number each answers, what it fills in, and which samples are held
-- afterwards. Numbers, places in a row and fields are written out here, so that a slip in TrayCalls.antt is refuted.
use Rattle.std.specs.Prelude.{ℕ, ◌+◌, ◌<◌, ◌≡◌, Bool, List, [], ◌∷◌, ℤ, pos, length, Some, None, Ok}
use Rattle.index.specs.Questions.{refusal}
use Rattle.index.specs.ChosenAnswer.{answer_of}
use Rattle.answer_record.specs.Record.{record_of, RecordOfPair}
use Rattle.index_summary.specs.declared.Summary.{Summary}
use Rattle.index_summary.specs.Summary.{SummaryOf}
use Rattle.tray_places.specs.Samples.{Sample}
use Rattle.tray_places.specs.Places.{held_in}
use Rattle.tray_places.specs.Counts.{one, times}
use Rattle.tray.specs.Tray.{held_as}
use Rattle.tray.specs.State.{answers_in}
use Rattle.tray.specs.Calls.{Call, Put, Take, refused_by}
use Rattle.summary_tray.specs.SummaryTray.{places_in, put_answer, take_answer, state_of}
use Rattle.summary_tray.specs.Calls.{after}
use Rattle.summary_tray.specs.KeptSummary.{left, walked}
use Rattle.tray_calls.specs.TrayCalls.{record_with, put_number, tray_put, record_put, pair_with, record_from, take_number, tray_taken, pair_taken, record_taken, row_with, summary_number, summary_after}

-- the samples that a tray holds
abbrev pub samples_in : List ℕ → List Sample
samples_in tray = held_in (places_in tray)

-- a put that is answered: 0, the record is that of a right answer to the pair, and just this sample is held more
pub record PutIn (tray lent : List ℕ) (number u y : ℕ) : Type 0 where
  pub answered : put_number tray lent number u y ≡ 0
  pub filled : RecordOfPair u y (record_put tray lent number u y)
  pub more : (test : Sample → Bool)
      → times test (samples_in (tray_put tray lent number u y)) ≡ times test (samples_in tray) + one (test (record { number = number; u = u; y = y; answer = answer_of u y }))

-- a take that is answered: 0, u and y of a sample held under the number, its answer as a record, and just this sample is held less
pub record TakenOut (tray pair lent : List ℕ) (number : ℕ) : Type 0 where
  pub sample : Sample
  pub number_is : sample.number ≡ number
  pub answered : take_number tray pair lent number ≡ 0
  pub paired : pair_taken tray pair lent number ≡ sample.u ∷ sample.y ∷ []
  pub filled : record_taken tray pair lent number ≡ record_of sample.answer
  pub less : (test : Sample → Bool) → times test (samples_in tray) ≡ times test (samples_in (tray_taken tray pair lent number)) + one (test sample)

-- a row that is filled: how many are held; lowest, highest, sum; by A, by B settled, by B near
pub record RightRow (tray : List ℕ) (row : List ℤ) : Type 0 where
  pub summary : Summary
  pub right : SummaryOf (answers_in (places_in tray)) summary
  pub row_is : row
      ≡ pos (length (samples_in tray)) ∷ summary.lowest ∷ summary.highest ∷ summary.sum ∷ pos summary.a ∷ pos summary.settled ∷ pos summary.near ∷ []

pub record AnsweredCalls (tray lent pair : List ℕ) (row : List ℤ)
    (of_tray : length tray ≡ 521) (of_record : length lent ≡ 16) (of_pair : length pair ≡ 2) (of_row : length row ≡ 7) : Type 0 where
  -- "both after the pair's own questions"; "31 number already held, 32 tray full"
  pub pair_first : (number u y : ℕ) → 0 < refusal u y → put_number tray lent number u y ≡ refusal u y
  pub number_held : (number u y : ℕ) → refusal u y ≡ 0 → 0 < held_as (places_in tray) number → put_number tray lent number u y ≡ 31
  pub tray_full : (number u y : ℕ) → refusal u y ≡ 0 → held_as (places_in tray) number ≡ 0 → length (samples_in tray) ≡ 64 → put_number tray lent number u y ≡ 32
  pub put_in : (number u y : ℕ) → refusal u y ≡ 0 → held_as (places_in tray) number ≡ 0 → length (samples_in tray) < 64 → PutIn tray lent number u y
  -- "33 number not held, on taking out"
  pub not_held : (number : ℕ) → held_as (places_in tray) number ≡ 0 → take_number tray pair lent number ≡ 33
  pub taken_out : (number : ℕ) → 0 < held_as (places_in tray) number → TakenOut tray pair lent number
  -- asking is never refused, and gives what the tray keeps, whoever wrote it: zeros where it keeps the summary of none
  pub asked : summary_number tray row ≡ 0
  pub kept_none : state_of tray ≡ Ok None → summary_after tray row ≡ pos 0 ∷ pos 0 ∷ pos 0 ∷ pos 0 ∷ pos 0 ∷ pos 0 ∷ pos 0 ∷ []
  pub kept_some : {t : Summary} → state_of tray ≡ Ok (Some t)
      → summary_after tray row ≡ pos (t.a + t.settled + t.near) ∷ t.lowest ∷ t.highest ∷ t.sum ∷ pos t.a ∷ pos t.settled ∷ pos t.near ∷ []
  -- which is what it holds, where it keeps that
  pub row_right : state_of tray ≡ walked tray → 0 < length (samples_in tray) → RightRow tray (summary_after tray row)
  -- the tray afterwards is that of the tray's own calls, so that what holds over every list of them (tray, EveryListOfCalls.antt; summary_tray, KeptSummary.antt)
  -- holds in C
  pub as_put : (number u y : ℕ) → tray_put tray lent number u y ≡ after tray (Put number u y)
  pub as_taken : (number : ℕ) → tray_taken tray pair lent number ≡ after tray (Take number)
  -- and what is answered and filled in is made of those calls' own answers, and where they refuse of what was lent, so that calls which get the same answers
  -- (one_byte_tray, SameAnswers.antt) get the same numbers and bytes in C
  pub told_put : (number u y : ℕ)
      → (put_number tray lent number u y ≡ refused_by (put_answer tray number u y)) × (record_put tray lent number u y ≡ record_with lent (put_answer tray number u y))
  pub told_taken : (number : ℕ) → (take_number tray pair lent number ≡ refused_by (take_answer tray number))
      × (pair_taken tray pair lent number ≡ pair_with pair (take_answer tray number)) × (record_taken tray pair lent number ≡ record_from lent (take_answer tray number))
  pub told_asked : (summary_number tray row ≡ refused_by (state_of tray)) × (summary_after tray row ≡ row_with row (state_of tray))

-- #105 in C: after every list of calls from zeros a refresh is answered, and its row is right: that of the samples held, and all zeros where none is
pub record EveryRefresh (calls : List Call) (row : List ℤ) (of_row : length row ≡ 7) : Type 0 where
  pub answered : summary_number (left calls) row ≡ 0
  pub some : 0 < length (samples_in (left calls)) → RightRow (left calls) (summary_after (left calls) row)
  pub none : samples_in (left calls) ≡ [] → summary_after (left calls) row ≡ pos 0 ∷ pos 0 ∷ pos 0 ∷ pos 0 ∷ pos 0 ∷ pos 0 ∷ pos 0 ∷ []
