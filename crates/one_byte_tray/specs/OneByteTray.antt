-- The tray of change request #102 as it was before #104, kept as what the tray is compared with: "each with a number of one byte", in 64 places of eight numbers.
-- Each definition has the name and the text that it had in tray_places and tray (a constructor may have the name of its type before it, and what the calls
-- answer is said in the tray's types), but for `after`, which goes by `one_byte`; new are `number_of_refusal`, `refusal_of` and `as_put`, which say #102's numbers and
-- answers in those types, and `one_byte`, `call_answer` and `answers_to`, which run a list of calls. No contract cites them. They share the types of a call and of what
-- it answers with the tray, for two lists of answers could not be compared otherwise; and what is no part of a tray: the pair's answer and its questions, a
-- question's form, a summary with one answer more, two's complement, numbers stored in a list.
use Rattle.std.specs.Prelude.{ℕ, zero, suc, ◌+◌, ◌*◌, ◌%◌, Bool, cond, not, ◌&&◌, List, [], ◌∷◌, ◌++◌, eqb, ltb, length, get_or, replicate, Option, Some, None, Result, Ok, Err}
use Rattle.laws.specs.Questions.{ask}
use Rattle.reference.specs.Refusal as pair
use Rattle.shown_index.specs.declared.Mark.{Mark}
use Rattle.shown_index.specs.declared.Mark.TheVariants.{Settled, Near}
use Rattle.index.specs.declared.answer.Index.{Index}
use Rattle.index.specs.declared.answer.Index.TheVariants as answer
use Rattle.index.specs.Questions.{refusal}
use Rattle.index.specs.Answer.{Answer, method_of, index_of, lower_of, upper_of}
use Rattle.index.specs.ChosenAnswer.{answer_of}
use Rattle.answer_record.specs.Bytes.{twos_complement, signed_of, stored}
use Rattle.index_summary.specs.declared.Summary.{Summary}
use Rattle.index_summary.specs.Summary.{alone_of, joined_of}
use Rattle.tray_places.specs.Samples.{Sample}
use Rattle.tray.specs.declared.refusal.Refusal.{Refusal}
use Rattle.tray.specs.declared.refusal.Refusal.TheVariants.{NotATray, Pair, NumberHeld, TrayFull, NumberNotHeld}
use Rattle.tray.specs.Calls.{Call, Put, Take, Ask, CallAnswer, ToPut, ToTake, ToAsk}

-- ---- its layout

-- how many places a tray has, how many numbers a place, and how many numbers the tray
abbrev pub places : ℕ
places = 64

abbrev pub place_size : ℕ
place_size = 8

abbrev pub tray_size : ℕ
tray_size = 512

unfoldable pub empty_tray : List ℕ
empty_tray = replicate tray_size 0

-- a sample as a place has it: the method, 0 where the place is free; the number; the pair; the index as 32 bits; p and P
pub record Place : Type 0 where
  pub method : ℕ
  pub number : ℕ
  pub u : ℕ
  pub y : ℕ
  pub index : ℕ
  pub lower : ℕ
  pub upper : ℕ

-- the numbers that say a sample: the method (document 01: "1 A, 2 B settled, 3 B near"), its number, its pair, the index in two's complement, p and P
unfoldable pub place_of : Sample → Place
place_of s = record {
  method = method_of s.answer;
  number = s.number;
  u = s.u;
  y = s.y;
  index = twos_complement (index_of s.answer);
  lower = lower_of s.answer;
  upper = upper_of s.answer;
}

-- the sample that a place says, whatever its numbers are: any method but 1 and 2 is read as 3
abbrev pub mark_from : ℕ → Mark
mark_from method = cond (eqb method 2) Settled Near

unfoldable pub answer_from : ℕ → ℕ → ℕ → ℕ → Answer
answer_from method index lower upper =
    cond (eqb method 1) (Ok (answer.A (signed_of index))) (Ok (answer.B (record { index = index; mark = mark_from method; lower = lower; upper = upper })))

abbrev pub sample_of : Place → Sample
sample_of place = record {
  number = place.number;
  u = place.u;
  y = place.y;
  answer = answer_from place.method place.index place.lower place.upper;
}

-- the numbers of a place, the last of which no field has taken yet
unfoldable pub numbers_of : Place → List ℕ
numbers_of p = p.method ∷ p.number ∷ p.u ∷ p.y ∷ p.index ∷ p.lower ∷ p.upper ∷ 0 ∷ []

-- what is stored to free a place: its other numbers stay
unfoldable pub freed : List ℕ
freed = 0 ∷ []

-- the method in place i, and the number
abbrev pub method_in : List ℕ → ℕ → ℕ
method_in tray i = get_or tray (place_size * i) 0

abbrev pub number_in : List ℕ → ℕ → ℕ
number_in tray i = get_or tray (place_size * i + 1) 0

-- what place i holds
abbrev pub place_at : List ℕ → ℕ → Place
place_at tray i = record {
  method = method_in tray i;
  number = number_in tray i;
  u = get_or tray (place_size * i + 2) 0;
  y = get_or tray (place_size * i + 3) 0;
  index = get_or tray (place_size * i + 4) 0;
  lower = get_or tray (place_size * i + 5) 0;
  upper = get_or tray (place_size * i + 6) 0;
}

abbrev pub sample_at : List ℕ → ℕ → Sample
sample_at tray i = sample_of (place_at tray i)

-- is place i free, is it held, and is a sample of that number held there?
abbrev pub is_free : List ℕ → ℕ → Bool
is_free tray i = eqb (method_in tray i) 0

abbrev pub is_held : List ℕ → ℕ → Bool
is_held tray i = not (is_free tray i)

abbrev pub is_held_as : List ℕ → ℕ → ℕ → Bool
is_held_as tray number i = is_held tray i && eqb (number_in tray i) number

-- the first of the places 0 to n − 1 that passes the test; n where none does
unfoldable pub first : (ℕ → Bool) → ℕ → ℕ
first test zero = zero
first test (suc n) = cond (ltb (first test n) n) (first test n) (cond (test n) n (suc n))

-- the place of the sample of that number, and the first free place; 64 where there is none
unfoldable pub place_of_number : List ℕ → ℕ → ℕ
place_of_number tray number = first (is_held_as tray number) places

unfoldable pub free_place : List ℕ → ℕ
free_place tray = first (is_free tray) places

-- the samples of the held places among the first n, and those that a tray holds
unfoldable pub among : (ℕ → Bool) → (ℕ → Sample) → ℕ → List Sample
among held sample zero = []
among held sample (suc i) = among held sample i ++ cond (held i) (sample i ∷ []) []

unfoldable pub held_in : List ℕ → List Sample
held_in tray = among (is_held tray) (sample_at tray) places

-- ---- its questions: "31 number already held, 32 tray full, both after the pair's own questions; 33 number not held, on taking out"

-- their numbers: the lent memory is no tray; "31 number already held, 32 tray full"; "33 number not held"
abbrev pub not_a_tray : ℕ
not_a_tray = 5

abbrev pub held_refusal : ℕ
held_refusal = 31

abbrev pub full_refusal : ℕ
full_refusal = 32

abbrev pub not_held_refusal : ℕ
not_held_refusal = 33

-- the number of a refusal, and the refusal of a number
abbrev pub number_of_refusal : Refusal → ℕ
number_of_refusal NotATray = not_a_tray
number_of_refusal (Pair question) = pair.number_of_refusal question
number_of_refusal NumberHeld = held_refusal
number_of_refusal TrayFull = full_refusal
number_of_refusal NumberNotHeld = not_held_refusal

abbrev pub refusal_of : ℕ → Refusal
refusal_of number =
    cond (eqb number not_a_tray) NotATray
    (cond (eqb number held_refusal) NumberHeld
    (cond (eqb number full_refusal) TrayFull
    (cond (eqb number not_held_refusal) NumberNotHeld (Pair (pair.refusal_of number)))))

-- is the lent memory just 512 numbers?
abbrev pub is_tray : List ℕ → Bool
is_tray tray = eqb (length tray) tray_size

-- how many samples pass a test, and how many samples held have the number
abbrev pub one : Bool → ℕ
one b = cond b 1 0

unfoldable pub times : (Sample → Bool) → List Sample → ℕ
times test [] = 0
times test (s ∷ samples) = one (test s) + times test samples

abbrev pub numbered : ℕ → Sample → Bool
numbered number s = eqb s.number number

abbrev pub held_as : List ℕ → ℕ → ℕ
held_as tray number = times (numbered number) (held_in tray)

-- the number of the questions that came before, or else of those that follow
abbrev pub or_else : ℕ → ℕ → ℕ
or_else number following = cond (eqb number 0) following number

-- the questions to a put, behind the number that the pair's own questions gave; 0 where none refuses
unfoldable pub hold_refusal : List ℕ → ℕ → ℕ → ℕ
hold_refusal tray number pair =
    -- "both after the pair's own questions"
    or_else pair
    -- "31 number already held"
    (ask (eqb (held_as tray number) 0) held_refusal
    -- "32 tray full"
    (ask (ltb (length (held_in tray)) places) full_refusal 0))

-- and the size of the lent memory before them
unfoldable pub put_refusal : List ℕ → ℕ → ℕ → ℕ → ℕ
put_refusal tray number u y = ask (is_tray tray) not_a_tray (hold_refusal tray number (refusal u y))

-- the questions to a take: "33 number not held"
unfoldable pub take_refusal : List ℕ → ℕ → ℕ
take_refusal tray number = ask (is_tray tray) not_a_tray (ask (ltb 0 (held_as tray number)) not_held_refusal 0)

-- ---- putting in, taking out, and the state

abbrev pub sample_with : ℕ → ℕ → ℕ → Answer → Sample
sample_with number u y a = record { number = number; u = u; y = y; answer = a }

-- the tray with the numbers of a place more, in its first free place, and with a sample more
abbrev pub tray_storing : List ℕ → Place → List ℕ
tray_storing tray place = stored tray (place_size * free_place tray) (numbers_of place)

abbrev pub tray_with : List ℕ → Sample → List ℕ
tray_with tray s = tray_storing tray (place_of s)

-- a pair's answer as a put gives it: its refusal is one of the pair's own questions
abbrev pub as_put : Answer → Result Index Refusal
as_put (Err question) = Err (Pair question)
as_put (Ok index) = Ok index

-- "Putting in takes a number, u and y and gives the pair's answer"
unfoldable pub put_answer : List ℕ → ℕ → ℕ → ℕ → Result Index Refusal
put_answer tray number u y = cond (eqb (put_refusal tray number u y) 0) (as_put (answer_of u y)) (Err (refusal_of (put_refusal tray number u y)))

-- "A refused call changes nothing"
unfoldable pub tray_after_put : List ℕ → ℕ → ℕ → ℕ → List ℕ
tray_after_put tray number u y = cond (eqb (put_refusal tray number u y) 0) (tray_with tray (sample_with number u y (answer_of u y))) tray

-- "taking out takes a number and gives the pair and answer held under it"
unfoldable pub take_answer : List ℕ → ℕ → Result Sample Refusal
take_answer tray number =
    cond (eqb (take_refusal tray number) 0) (Ok (sample_at tray (place_of_number tray number))) (Err (refusal_of (take_refusal tray number)))

unfoldable pub tray_after_take : List ℕ → ℕ → List ℕ
tray_after_take tray number =
    cond (eqb (take_refusal tray number) 0) (stored tray (place_size * place_of_number tray number) freed) tray

-- a state with one answer more, after a list of samples, and of a tray
abbrev pub with_answer : Option Summary → Answer → Option Summary
with_answer None answer = Some (alone_of answer)
with_answer (Some t) answer = Some (joined_of t answer)

unfoldable pub state_after : Option Summary → List Sample → Option Summary
state_after state [] = state
state_after state (s ∷ samples) = state_after (with_answer state s.answer) samples

unfoldable pub state_of : List ℕ → Result (Option Summary) Refusal
state_of tray = cond (is_tray tray) (Ok (state_after None (held_in tray))) (Err (refusal_of not_a_tray))

-- ---- running a list of calls

-- "a number of one byte": of a greater one C handed over the lowest byte
abbrev pub one_byte : ℕ → ℕ
one_byte number = number % 256

-- the tray after a call, and after a list of calls, the first one first
abbrev pub after : List ℕ → Call → List ℕ
after tray (Put number u y) = tray_after_put tray (one_byte number) u y
after tray (Take number) = tray_after_take tray (one_byte number)
after tray Ask = tray

unfoldable pub after_all : List ℕ → List Call → List ℕ
after_all tray [] = tray
after_all tray (call ∷ calls) = after_all (after tray call) calls

-- what a call answers, and what a list of calls answers, one after the other
abbrev pub call_answer : List ℕ → Call → CallAnswer
call_answer tray (Put number u y) = ToPut (put_answer tray (one_byte number) u y)
call_answer tray (Take number) = ToTake (take_answer tray (one_byte number))
call_answer tray Ask = ToAsk (state_of tray)

unfoldable pub answers_to : List ℕ → List Call → List CallAnswer
answers_to tray [] = []
answers_to tray (call ∷ calls) = call_answer tray call ∷ answers_to (after tray call) calls
