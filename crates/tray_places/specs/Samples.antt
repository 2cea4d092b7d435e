-- Change request #102: a sample, "with a number of one byte, its pair and its answer", as the numbers of a place of the tray. Its number has no bound here; since
-- #104 it is of 32 bits.
use Rattle.std.specs.Prelude.{ℕ, cond, eqb, Ok}
use Rattle.reference.specs.declared.refusal.Refusal.{Refusal}
use Rattle.shown_index.specs.declared.Mark.{Mark}
use Rattle.shown_index.specs.declared.Mark.TheVariants.{Settled, Near}
use Rattle.index.specs.declared.answer.Index.TheVariants.{A, B}
use Rattle.index.specs.Answer.{Answer, method_of, index_of, lower_of, upper_of}
use Rattle.answer_record.specs.Bytes.{twos_complement, signed_of}
use Rattle.tray_places.specs.declared.samples.Sample as declared
use Rattle.tray_places.specs.declared.samples.Place.{Place}

-- a sample with the answer to its pair; the type that the code declares takes answers that are refused otherwise too
abbrev pub Sample : Type 0
Sample = declared.Sample Refusal

-- the numbers that say a sample, however its answer is refused: the method (document 01: "1 A, 2 B settled, 3 B near"), its number, its pair, the index in
-- two's complement, p and P
unfoldable pub place_of : {R : Type 0} → declared.Sample R → Place
place_of s = record {
  method = method_of s.answer;
  number = s.number;
  u = s.u;
  y = s.y;
  index = twos_complement (index_of s.answer);
  lower = lower_of s.answer;
  upper = upper_of s.answer;
}

-- the sample that a place says, whatever its numbers are: any method but 1 and 2 is read as 3
abbrev pub mark_from : ℕ → Mark
mark_from method = cond (eqb method 2) Settled Near

unfoldable pub answer_from : ℕ → ℕ → ℕ → ℕ → Answer
answer_from method index lower upper =
    cond (eqb method 1) (Ok (A (signed_of index))) (Ok (B (record { index = index; mark = mark_from method; lower = lower; upper = upper })))

abbrev pub sample_of : Place → Sample
sample_of place = record {
  number = place.number;
  u = place.u;
  y = place.y;
  answer = answer_from place.method place.index place.lower place.upper;
}
