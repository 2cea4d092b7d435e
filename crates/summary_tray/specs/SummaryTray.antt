-- Change request #105: "lowest, highest, sum and counts are held in the tray, and a refresh answers from them alone." A tray is 521 numbers: the 64 places of its
-- samples (crate tray), and behind them the nine numbers of the summary that it keeps (crate summary_block). The request leaves open how it is kept: that is the
-- program's choice, and KeptSummary.antt says what holds of it.
use Rattle.std.specs.Prelude.{ℕ, Bool, cond, ◌&&◌, List, ◌++◌, eqb, length, take, drop, replicate, Option, None, Result, Ok, Err}
use Rattle.index.specs.declared.answer.Index.{Index}
use Rattle.index.specs.Answer.{Answer}
use Rattle.index_summary.specs.declared.Summary.{Summary}
use Rattle.index_summary.specs.Summary.{joined_of, is_between, without_of}
use Rattle.index_summary.specs.Preconditions.{is_within}
use Rattle.summary_block.specs.Block.{block_of, summary_from}
use Rattle.tray_places.specs.declared.samples.Place.{Place}
use Rattle.tray_places.specs.Samples.{Sample, sample_of}
use Rattle.tray_places.specs.Places.{held_in}
use Rattle.tray.specs.declared.refusal.Refusal.{Refusal}
use Rattle.tray.specs.declared.refusal.Refusal.TheVariants.{NotATray}
use Rattle.tray.specs.Tray as places
use Rattle.tray.specs.State.{state_after, summary_in, state_with}

-- ---- the lent memory

-- how many numbers the places are, and how many the tray
abbrev pub places_size : ℕ
places_size = 512

abbrev pub tray_size : ℕ
tray_size = 521

unfoldable pub empty_tray : List ℕ
empty_tray = replicate tray_size 0

-- the question about its size
abbrev pub is_tray : List ℕ → Bool
is_tray tray = eqb (length tray) tray_size

-- the places of a tray, and the summary that it keeps
abbrev pub places_in : List ℕ → List ℕ
places_in tray = take places_size tray

abbrev pub kept_in : List ℕ → Summary
kept_in tray = summary_from (drop places_size tray)

-- ---- a refresh

-- "a refresh answers from them alone": the size of the lent memory is asked for first (no: 5), then what the kept numbers say; "with none held the tray still says
-- so"
unfoldable pub state_of : List ℕ → Result (Option Summary) Refusal
state_of tray = cond (is_tray tray) (Ok (state_with (kept_in tray))) (Err NotATray)

-- ---- how the summary is kept

-- the summary that a walk over the samples held gives, by #102
abbrev pub walk_of : List ℕ → Summary
walk_of places = summary_in (state_after None (held_in places))

-- what is kept where an answer has come in, and these are the places now: the kept summary with one answer more. Where its numbers are too large for that, the
-- samples are walked
unfoldable pub with_one : Summary → Answer → List ℕ → Summary
with_one kept answer places = cond (is_within kept) (joined_of kept answer) (walk_of places)

-- and where an answer has left: the kept summary with one answer less, if its numbers are not too large and the index is above the kept lowest and below the
-- kept highest. Otherwise the samples that are left are walked
abbrev pub says_rest : Summary → Answer → Bool
says_rest kept answer = is_within kept && is_between kept answer

unfoldable pub without_one : Summary → Answer → List ℕ → Summary
without_one kept answer places = cond (says_rest kept answer) (without_of kept answer) (walk_of places)

-- a tray of these places that keeps this summary
abbrev pub keeping : List ℕ → Summary → List ℕ
keeping places t = places ++ block_of t

-- ---- putting in

-- the answer is that of the places
unfoldable pub put_answer : List ℕ → ℕ → ℕ → ℕ → Result Index Refusal
put_answer tray number u y = cond (is_tray tray) (places.put_answer (places_in tray) number u y) (Err NotATray)

-- the tray with an answer more, in these places
abbrev pub tray_with : List ℕ → List ℕ → Answer → List ℕ
tray_with tray after a = keeping after (with_one (kept_in tray) a after)

-- "A refused call changes nothing"
abbrev pub tray_putting : List ℕ → List ℕ → Result Index Refusal → List ℕ
tray_putting tray after (Err refusal) = tray
tray_putting tray after (Ok index) = tray_with tray after (Ok index)

unfoldable pub tray_after_put : List ℕ → ℕ → ℕ → ℕ → List ℕ
tray_after_put tray number u y = tray_putting tray (places.tray_after_put (places_in tray) number u y) (put_answer tray number u y)

-- the same of a place that is stored unless a question refuses it, and what is answered then, of a pair that its own questions do not refuse
abbrev pub hold_refusal : List ℕ → ℕ → ℕ → ℕ
hold_refusal tray number pair = places.hold_refusal (places_in tray) number pair

abbrev pub hold_answer : List ℕ → ℕ → Result (Unit {0}) Refusal
hold_answer tray number = places.hold_answer (places_in tray) number

-- and behind what the pair's own questions said
abbrev pub HoldAnswer : {R : Type 0} → (Refusal → R → Type 0) → List ℕ → ℕ → Result (Unit {0}) R → Result (Unit {0}) R → Type 0
HoldAnswer told tray number pair result = places.HoldAnswer told (places_in tray) number pair result

unfoldable pub tray_holding : List ℕ → ℕ → ℕ → Place → List ℕ
tray_holding tray number pair place =
    cond (eqb (hold_refusal tray number pair) 0)
    (tray_with tray (places.tray_holding (places_in tray) number pair place) (sample_of place).answer) tray

abbrev pub tray_holding_unless : {R : Type 0} → List ℕ → ℕ → Result (Unit {0}) R → Place → List ℕ
tray_holding_unless tray number (Err refusal) place = tray
tray_holding_unless tray number (Ok done) place = tray_holding tray number 0 place

-- ---- taking out

unfoldable pub take_answer : List ℕ → ℕ → Result Sample Refusal
take_answer tray number = cond (is_tray tray) (places.take_answer (places_in tray) number) (Err NotATray)

-- the tray with an answer less, in these places
abbrev pub tray_without : List ℕ → List ℕ → Result Sample Refusal → List ℕ
tray_without tray after (Err refusal) = tray
tray_without tray after (Ok s) = keeping after (without_one (kept_in tray) s.answer after)

unfoldable pub tray_after_take : List ℕ → ℕ → List ℕ
tray_after_take tray number = tray_without tray (places.tray_after_take (places_in tray) number) (take_answer tray number)
