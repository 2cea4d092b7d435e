-- The tray of #102 beside the tray, part by part: every part is the same, whatever the memory and the number.
use Prim.Native.Nat.{ℕ, zero, suc}
use mathlib.Core.Path.{◌≡◌, refl, ap, ◌∙◌}
use mathlib.Core.Bool.{Bool}
use mathlib.Core.List.{List, [], ◌∷◌}
use Rattle.std.specs.Prelude.{Option, Some, None, Ok, Err}
use Rattle.index.specs.Answer.{Answer}
use Rattle.index.specs.ChosenAnswer.{answer_of}
use Rattle.index_summary.specs.declared.Summary.{Summary}
use Rattle.tray_places.specs.Samples.{Sample, place_of, answer_from}
use Rattle.tray_places.specs.Places.{places, numbers_of, freed, empty_tray, is_held, sample_at, is_held_as, is_free, first, among, held_in, place_of_number, free_place}
use Rattle.tray_places.specs.Counts.{times, numbered}
use Rattle.tray.specs.declared.refusal.Refusal.{Refusal}
use Rattle.tray.specs.declared.refusal.Refusal.TheVariants.{NotATray, Pair, NumberHeld, TrayFull, NumberNotHeld}
use Rattle.tray.specs.Tray.{number_of_refusal, refusal_of, as_put, sample_with, hold_refusal, put_refusal, take_refusal, put_answer, tray_after_put, take_answer, tray_after_take}
use Rattle.tray.specs.State.{with_answer, state_after, state_of}
use Rattle.one_byte_tray.specs.OneByteTray as one_byte

-- ---- the layout

first_same : (test : ℕ → Bool) (n : ℕ) → first test n ≡ one_byte.first test n
unfolding first one_byte.first
first_same test zero = refl
first_same test (suc n) = rw (first_same test n)

among_same : (held : ℕ → Bool) (sample : ℕ → Sample) (n : ℕ) → among held sample n ≡ one_byte.among held sample n
unfolding among one_byte.among
among_same held sample zero = refl
among_same held sample (suc n) = rw (among_same held sample n)

pub empty_same : empty_tray ≡ one_byte.empty_tray
unfolding empty_tray one_byte.empty_tray
empty_same = refl

numbers_same : (s : Sample) → numbers_of (place_of s) ≡ one_byte.numbers_of (one_byte.place_of s)
unfolding numbers_of place_of one_byte.numbers_of one_byte.place_of
numbers_same s = refl

free_same : (tray : List ℕ) → free_place tray ≡ one_byte.free_place tray
unfolding free_place one_byte.free_place
free_same tray = first_same (is_free tray) places

place_same : (tray : List ℕ) (number : ℕ) → place_of_number tray number ≡ one_byte.place_of_number tray number
unfolding place_of_number one_byte.place_of_number
place_same tray number = first_same (is_held_as tray number) places

held_same : (tray : List ℕ) → held_in tray ≡ one_byte.held_in tray
unfolding held_in one_byte.held_in answer_from one_byte.answer_from
held_same tray = among_same (is_held tray) (sample_at tray) places

times_same : (test : Sample → Bool) (samples : List Sample) → times test samples ≡ one_byte.times test samples
unfolding times one_byte.times
times_same test [] = refl
times_same test (s ∷ samples) = rw (times_same test samples)

-- ---- the questions

held_as_same : (tray : List ℕ) (number : ℕ) → times (numbered number) (held_in tray) ≡ one_byte.held_as tray number
held_as_same tray number = times_same (numbered number) (held_in tray) ∙ ap (one_byte.times (numbered number)) (held_same tray)

put_questions_same : (tray : List ℕ) (number u y : ℕ) → put_refusal tray number u y ≡ one_byte.put_refusal tray number u y
unfolding put_refusal one_byte.put_refusal hold_refusal one_byte.hold_refusal
put_questions_same tray number u y = rw (held_as_same tray number, held_same tray)

take_questions_same : (tray : List ℕ) (number : ℕ) → take_refusal tray number ≡ one_byte.take_refusal tray number
unfolding take_refusal one_byte.take_refusal
take_questions_same tray number = rw (held_as_same tray number)

-- ---- what is answered

pub numbers_told : (r : Refusal) → number_of_refusal r ≡ one_byte.number_of_refusal r
numbers_told NotATray = refl
numbers_told (Pair q) = refl
numbers_told NumberHeld = refl
numbers_told TrayFull = refl
numbers_told NumberNotHeld = refl

refusals_same : (number : ℕ) → refusal_of number ≡ one_byte.refusal_of number
refusals_same number = refl

pub given_same : (a : Answer) → as_put a ≡ one_byte.as_put a
given_same (Err q) = refl
given_same (Ok i) = refl

-- ---- the operations

pub put_same : (tray : List ℕ) (number u y : ℕ) → put_answer tray number u y ≡ one_byte.put_answer tray number u y
unfolding put_answer one_byte.put_answer
put_same tray number u y =
    rw (given_same (answer_of u y), refusals_same (put_refusal tray number u y), put_questions_same tray number u y)

pub after_put_same : (tray : List ℕ) (number u y : ℕ) → tray_after_put tray number u y ≡ one_byte.tray_after_put tray number u y
unfolding tray_after_put one_byte.tray_after_put
after_put_same tray number u y =
    rw (put_questions_same tray number u y, free_same tray, numbers_same (sample_with number u y (answer_of u y)))

pub take_same : (tray : List ℕ) (number : ℕ) → take_answer tray number ≡ one_byte.take_answer tray number
unfolding take_answer one_byte.take_answer answer_from one_byte.answer_from
take_same tray number = rw (refusals_same (take_refusal tray number), take_questions_same tray number, place_same tray number)

pub after_take_same : (tray : List ℕ) (number : ℕ) → tray_after_take tray number ≡ one_byte.tray_after_take tray number
unfolding tray_after_take one_byte.tray_after_take freed one_byte.freed
after_take_same tray number = rw (take_questions_same tray number, place_same tray number)

walk_same : (start : Option Summary) (samples : List Sample) → state_after start samples ≡ one_byte.state_after start samples
unfolding state_after one_byte.state_after
walk_same start [] = refl
walk_same None (s ∷ samples) = walk_same (with_answer None s.answer) samples
walk_same (Some t) (s ∷ samples) = walk_same (with_answer (Some t) s.answer) samples

pub state_same : (tray : List ℕ) → state_of tray ≡ one_byte.state_of tray
unfolding state_of one_byte.state_of
state_same tray = rw (walk_same None (held_in tray), held_same tray)
