-- Change request #105, of lists of calls: "Over every list of calls from an empty tray, after each put and take they equal what a walk over the held samples would
-- give, also when the lowest leaves while another sample has the same index; with none held the tray still says so." What holds after every list of calls, and of
-- each call on any memory, whoever wrote it. The walk that the kept summary is compared with is #102's (tray, State.antt: `state_of`).
use Rattle.std.specs.Prelude.{ℕ, ◌<◌, ◌≡◌, true, false, List, [], length, get_or, drop, Option, Some, None, Result, Ok, Err}
use Rattle.reference.specs.declared.refusal.Refusal as of_pair
use Rattle.index.specs.declared.answer.Index.{Index}
use Rattle.index.specs.Answer.{index_of}
use Rattle.index_summary.specs.declared.Summary.{Summary}
use Rattle.index_summary.specs.Summary as answers
use Rattle.index_summary.specs.Summary.{joined_of, is_between, without_of}
use Rattle.index_summary.specs.Preconditions.{is_within}
use Rattle.summary_block.specs.Block.{block_of}
use Rattle.tray_places.specs.Samples.{Sample}
use Rattle.tray_places.specs.Places as layout
use Rattle.tray_places.specs.Places.{held_in}
use Rattle.tray.specs.declared.refusal.Refusal.{Refusal}
use Rattle.tray.specs.declared.refusal.Refusal.TheVariants.{NotATray}
use Rattle.tray.specs.Tray as places
use Rattle.tray.specs.State as walk
use Rattle.tray.specs.Calls as before
use Rattle.tray.specs.Calls.{Call, Put, Take, refused_by}
use Rattle.summary_tray.specs.SummaryTray.{empty_tray, places_in, kept_in, put_answer, take_answer, state_of}
use Rattle.summary_tray.specs.Calls.{call_refusal, after, after_all, answers_to}

-- the tray after a list of calls from the empty one
abbrev pub left : List Call → List ℕ
left calls = after_all empty_tray calls

-- what a walk over the samples held gives
abbrev pub walked : List ℕ → Result (Option Summary) Refusal
walked tray = walk.state_of (places_in tray)

-- a state that holds samples whose lowest and highest index are those of t
pub record SameExtremes (t : Summary) (now : Result (Option Summary) Refusal) : Type 0 where
  pub summary : Summary
  pub holding : now ≡ Ok (Some summary)
  pub lowest : summary.lowest ≡ t.lowest
  pub highest : summary.highest ≡ t.highest

-- what holds after a list of calls from the empty tray
pub record KeptSummary (calls : List Call) : Type 0 where
  -- "they equal what a walk over the held samples would give"; and again after whichever call comes next, a put or a take, refused or not
  pub equal : state_of (left calls) ≡ walked (left calls)
  pub next : (call : Call) → state_of (after (left calls) call) ≡ walked (after (left calls) call)
  -- so that it is right by #102: the lowest index is at or below every index and is one of them, the highest likewise, and sum and counts are of all
  pub right : walk.RightState (places_in (left calls)) (state_of (left calls))
  -- "also when the lowest leaves while another sample has the same index", or the highest: where a sample is taken out and one with its index is left, the lowest
  -- and the highest are what they were
  pub same_index : (number : ℕ) {s : Sample} {t : Summary} → take_answer (left calls) number ≡ Ok s → state_of (left calls) ≡ Ok (Some t)
      → answers.Some (λ a. index_of a ≡ index_of s.answer) (walk.answers_in (places_in (after (left calls) (Take number))))
      → SameExtremes t (state_of (after (left calls) (Take number)))
  -- "with none held the tray still says so": whatever it held before, and when the last sample leaves
  pub none_held : held_in (places_in (left calls)) ≡ [] → state_of (left calls) ≡ Ok None
  pub last_leaves : (number : ℕ) {s : Sample} → take_answer (left calls) number ≡ Ok s → length (held_in (places_in (left calls))) ≡ 1
      → state_of (after (left calls) (Take number)) ≡ Ok None
  -- a sample that is taken out and put in again under its number leaves the summary as it was
  pub put_back : (number : ℕ) {s : Sample} → take_answer (left calls) number ≡ Ok s
      → state_of (after (after (left calls) (Take number)) (Put number s.u s.y)) ≡ state_of (left calls)

-- every answer, of puts, takes and summaries, is the one that it was before the summary was kept, and so are the samples held: what #102 and #104 say of them
-- stands (tray, EveryListOfCalls.antt; one_byte_tray, SameAnswers.antt)
pub record NoAnswerMoved (calls : List Call) : Type 0 where
  pub answers : answers_to empty_tray calls ≡ before.answers_to layout.empty_tray calls
  pub samples : places_in (left calls) ≡ before.after_all layout.empty_tray calls

-- what holds of each call on any 521 numbers, whoever wrote them
pub record AnyMemory (tray : List ℕ) (lent : length tray ≡ 521) : Type 0 where
  -- puts and takes go by the samples alone, and leave the samples that they left before
  pub put : (number u y : ℕ) → put_answer tray number u y ≡ places.put_answer (places_in tray) number u y
  pub take : (number : ℕ) → take_answer tray number ≡ places.take_answer (places_in tray) number
  pub samples : (call : Call) → places_in (after tray call) ≡ before.after (places_in tray) call
  -- "A refused call changes nothing"
  pub unchanged : (call : Call) → 0 < call_refusal tray call → after tray call ≡ tray
  -- "a refresh answers from them alone": with the same kept numbers, whatever the samples are, it answers the same
  pub from_kept_alone : (other : List ℕ) → length other ≡ 521 → drop 512 other ≡ drop 512 tray → state_of other ≡ state_of tray
  -- a put adds its answer to what is kept, and a take takes one off that is between the lowest and the highest, where one answer more may be added
  pub added : is_within (kept_in tray) ≡ true → (number u y : ℕ) {index : Index} → put_answer tray number u y ≡ Ok index
      → drop 512 (after tray (Put number u y)) ≡ block_of (joined_of {R = of_pair.Refusal} (kept_in tray) (Ok index))
  pub taken_off : is_within (kept_in tray) ≡ true → (number : ℕ) {s : Sample} → take_answer tray number ≡ Ok s → is_between (kept_in tray) s.answer ≡ true
      → drop 512 (after tray (Take number)) ≡ block_of (without_of (kept_in tray) s.answer)
  -- a summary that is the samples' own stays so
  pub stays_right : ((j : ℕ) → get_or tray j 0 < 4294967296) → state_of tray ≡ walked tray → (call : Call) → state_of (after tray call) ≡ walked (after tray call)
  -- and one that is not becomes so when a sample leaves whose index is not above the kept lowest and below the kept highest
  pub right_again : ((j : ℕ) → get_or tray j 0 < 4294967296) → (number : ℕ) {s : Sample} → take_answer tray number ≡ Ok s
      → is_between (kept_in tray) s.answer ≡ false → state_of (after tray (Take number)) ≡ walked (after tray (Take number))
  -- or where its numbers are too large for a summary to which one answer more may be added, when any sample comes in or leaves
  pub too_large_put : ((j : ℕ) → get_or tray j 0 < 4294967296) → is_within (kept_in tray) ≡ false → (number u y : ℕ) → refused_by (put_answer tray number u y) ≡ 0
      → state_of (after tray (Put number u y)) ≡ walked (after tray (Put number u y))
  pub too_large_take : ((j : ℕ) → get_or tray j 0 < 4294967296) → is_within (kept_in tray) ≡ false → (number : ℕ) {s : Sample} → take_answer tray number ≡ Ok s
      → state_of (after tray (Take number)) ≡ walked (after tray (Take number))

-- memory that is not just 521 numbers, such as a tray of 512 from before #105: 5, whatever is asked, and it is left as it is
pub record OtherMemory (tray : List ℕ) (other : length tray ≡ 521 → ⊥) : Type 0 where
  pub put : (number u y : ℕ) → put_answer tray number u y ≡ Err NotATray
  pub take : (number : ℕ) → take_answer tray number ≡ Err NotATray
  pub asked : state_of tray ≡ Err NotATray
  pub left_alone : (call : Call) → after tray call ≡ tray

-- memory of zeros is the empty tray
pub record Zeros : Type 0 where
  pub size : length empty_tray ≡ 521
  pub places_too : places_in empty_tray ≡ layout.empty_tray
  pub says_so : state_of empty_tray ≡ Ok None
