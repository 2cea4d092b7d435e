-- Change request #102: what putting in and taking out answer, and the tray afterwards. "Refused: 31 number already held, 32 tray full, both after the pair's own
-- questions; 33 number not held, on taking out." The lent memory is asked for its size first, as document 01 asks the pair's record. A sample's number has no bound
-- here; that it has 32 bits, the operations say (#104: "The tray takes numbers up to 4,294,967,295"; before it was one byte).
use Rattle.index.specs.Answer.{Answer}
use Rattle.std.specs.Prelude.{ℕ, ◌*◌, ◌≡◌, Bool, cond, List, eqb, ltb, length, Result, Ok, Err, IsErrAnd}
use Rattle.laws.specs.Questions.{ask}
use Rattle.reference.specs.Refusal as pair
use Rattle.index.specs.declared.answer.Index.{Index}
use Rattle.index.specs.Questions.{refusal}
use Rattle.index.specs.ChosenAnswer.{answer_of}
use Rattle.answer_record.specs.Bytes.{stored}
use Rattle.tray_places.specs.declared.samples.Place.{Place}
use Rattle.tray_places.specs.Samples.{Sample, place_of}
use Rattle.tray_places.specs.Places.{places, place_size, tray_size, numbers_of, freed, sample_at, place_of_number, free_place, held_in}
use Rattle.tray_places.specs.Counts.{times, numbered}
use Rattle.tray.specs.declared.refusal.Refusal.{Refusal}
use Rattle.tray.specs.declared.refusal.Refusal.TheVariants.{NotATray, Pair, NumberHeld, TrayFull, NumberNotHeld}

-- ---- the questions

-- their numbers: the lent memory is no tray; "31 number already held, 32 tray full"; "33 number not held"
abbrev pub not_a_tray : ℕ
not_a_tray = 5

abbrev pub held_refusal : ℕ
held_refusal = 31

abbrev pub full_refusal : ℕ
full_refusal = 32

abbrev pub not_held_refusal : ℕ
not_held_refusal = 33

-- the number of a refusal, and the refusal of a number
abbrev pub number_of_refusal : Refusal → ℕ
number_of_refusal NotATray = not_a_tray
number_of_refusal (Pair question) = pair.number_of_refusal question
number_of_refusal NumberHeld = held_refusal
number_of_refusal TrayFull = full_refusal
number_of_refusal NumberNotHeld = not_held_refusal

abbrev pub refusal_of : ℕ → Refusal
refusal_of number =
    cond (eqb number not_a_tray) NotATray
    (cond (eqb number held_refusal) NumberHeld
    (cond (eqb number full_refusal) TrayFull
    (cond (eqb number not_held_refusal) NumberNotHeld (Pair (pair.refusal_of number)))))

-- what is answered where the questions gave that number, 0 where none refuses
abbrev pub answered : {X : Type 0} → ℕ → X → Result X Refusal
answered number x = cond (eqb number 0) (Ok x) (Err (refusal_of number))

-- is the lent memory just 512 numbers?
abbrev pub is_tray : List ℕ → Bool
is_tray tray = eqb (length tray) tray_size

-- how many samples held have the number
abbrev pub held_as : List ℕ → ℕ → ℕ
held_as tray number = times (numbered number) (held_in tray)

-- the number of the questions that came before, or else of those that follow
abbrev pub or_else : ℕ → ℕ → ℕ
or_else number following = cond (eqb number 0) following number

-- the questions to a put, behind the number that the pair's own questions gave; 0 where none refuses
unfoldable pub hold_refusal : List ℕ → ℕ → ℕ → ℕ
hold_refusal tray number pair =
    -- "both after the pair's own questions"
    or_else pair
    -- "31 number already held"
    (ask (eqb (held_as tray number) 0) held_refusal
    -- "32 tray full"
    (ask (ltb (length (held_in tray)) places) full_refusal 0))

-- and the size of the lent memory before them
unfoldable pub put_refusal : List ℕ → ℕ → ℕ → ℕ → ℕ
put_refusal tray number u y = ask (is_tray tray) not_a_tray (hold_refusal tray number (refusal u y))

-- the questions to a take: "33 number not held"
unfoldable pub take_refusal : List ℕ → ℕ → ℕ
take_refusal tray number = ask (is_tray tray) not_a_tray (ask (ltb 0 (held_as tray number)) not_held_refusal 0)

-- ---- putting in

abbrev pub sample_with : ℕ → ℕ → ℕ → Answer → Sample
sample_with number u y a = record { number = number; u = u; y = y; answer = a }

-- the tray with the numbers of a place more, in its first free place, and with a sample more
abbrev pub tray_storing : List ℕ → Place → List ℕ
tray_storing tray place = stored tray (place_size * free_place tray) (numbers_of place)

abbrev pub tray_with : List ℕ → Sample → List ℕ
tray_with tray s = tray_storing tray (place_of s)

-- what is left where a place is stored unless a question refuses it
unfoldable pub tray_holding : List ℕ → ℕ → ℕ → Place → List ℕ
tray_holding tray number pair place = cond (eqb (hold_refusal tray number pair) 0) (tray_storing tray place) tray

-- and what is answered then, of a pair that its own questions do not refuse
unfoldable pub hold_answer : List ℕ → ℕ → Result (Unit {0}) Refusal
hold_answer tray number = answered (hold_refusal tray number 0) tt

-- the same behind what the pair's own questions said, "both after the pair's own questions": their refusal comes first, and one of these is told as `told` says
abbrev pub Told : {R : Type 0} → (Refusal → R → Type 0) → Result (Unit {0}) Refusal → Result (Unit {0}) R → Type 0
Told told (Err refusal) result = IsErrAnd result (told refusal)
Told told (Ok done) result = result ≡ Ok done

abbrev pub HoldAnswer : {R : Type 0} → (Refusal → R → Type 0) → List ℕ → ℕ → Result (Unit {0}) R → Result (Unit {0}) R → Type 0
HoldAnswer told tray number (Err refusal) result = result ≡ Err refusal
HoldAnswer told tray number (Ok done) result = Told told (hold_answer tray number) result

abbrev pub tray_holding_unless : {R : Type 0} → List ℕ → ℕ → Result (Unit {0}) R → Place → List ℕ
tray_holding_unless tray number (Err refusal) place = tray
tray_holding_unless tray number (Ok done) place = tray_holding tray number 0 place

-- where a refusal is told by its number, as C reads it: what the number of the pair's own questions says, and the number of what is said, 0 where none refuses
abbrev pub told_by_number : Refusal → ℕ → Type 0
told_by_number refusal number = number ≡ number_of_refusal refusal

abbrev pub said_by : ℕ → Result (Unit {0}) ℕ
said_by number = cond (eqb number 0) (Ok tt) (Err number)

abbrev pub number_said : Result (Unit {0}) ℕ → ℕ
number_said (Err number) = number
number_said (Ok done) = 0

-- what is answered and left is then what the questions say behind that number, whichever it is
pub record HeldByNumber (tray : List ℕ) (number pair : ℕ) : Type 0 where
  pub answer : (result : Result (Unit {0}) ℕ) → HoldAnswer told_by_number tray number (said_by pair) result → number_said result ≡ hold_refusal tray number pair
  pub numbers : (place : Place) → tray_holding_unless tray number (said_by pair) place ≡ tray_holding tray number pair place

-- a pair's answer as a put gives it: its refusal is one of the pair's own questions
abbrev pub as_put : Answer → Result Index Refusal
as_put (Err question) = Err (Pair question)
as_put (Ok index) = Ok index

-- "Putting in takes a number, u and y and gives the pair's answer"
unfoldable pub put_answer : List ℕ → ℕ → ℕ → ℕ → Result Index Refusal
put_answer tray number u y = cond (eqb (put_refusal tray number u y) 0) (as_put (answer_of u y)) (Err (refusal_of (put_refusal tray number u y)))

-- "A refused call changes nothing"
unfoldable pub tray_after_put : List ℕ → ℕ → ℕ → ℕ → List ℕ
tray_after_put tray number u y = cond (eqb (put_refusal tray number u y) 0) (tray_with tray (sample_with number u y (answer_of u y))) tray

-- ---- taking out

-- "taking out takes a number and gives the pair and answer held under it"
unfoldable pub take_answer : List ℕ → ℕ → Result Sample Refusal
take_answer tray number = answered (take_refusal tray number) (sample_at tray (place_of_number tray number))

unfoldable pub tray_after_take : List ℕ → ℕ → List ℕ
tray_after_take tray number =
    cond (eqb (take_refusal tray number) 0) (stored tray (place_size * place_of_number tray number) freed) tray
