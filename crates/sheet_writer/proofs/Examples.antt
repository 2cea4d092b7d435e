-- The named writings, computed from the definitions.
use Prim.Native.Nat.{ℕ, ◌+◌, ◌*◌}
use mathlib.Core.Path.{◌≡◌, refl}
use mathlib.Core.List.{List, [], ◌++◌}
use lib.ListN.{length, replicate}
use Rattle.answer_record.specs.Bytes.{bytes_of}
use Rattle.std.specs.Prelude.{Ok, Err}
use Rattle.sheet.specs.Sheet.{header_of, sheet_answer_of, sheet_after}
use Rattle.sheet.proofs.Examples.{tried_sheets}
use Rattle.sheet_writer.specs.declared.questions.Refusal.TheVariants.{OddCount, TooManyPairs}
use Rattle.sheet_writer.specs.Questions.{blocks_asked}
use Rattle.sheet_writer.specs.Writing.{pairs_bytes, sheet_for, writing_answer, buffer_after}
use Rattle.sheet_writer.specs.Examples.{three_pairs, WritingExamples}

empty : (buffer : List ℕ) → length buffer ≡ 16 → buffer_after [] buffer ≡ header_of 0 16 16 16
unfolding buffer_after blocks_asked sheet_for pairs_bytes bytes_of
empty buffer e = rw e refl

empty_accepted : (buffer : List ℕ) → length buffer ≡ 16 → sheet_answer_of (buffer_after [] buffer) ≡ Ok 0
empty_accepted buffer e = rw (empty buffer e) tried_sheets.accepted

empty_unchanged : (buffer : List ℕ) → length buffer ≡ 16 → sheet_after (buffer_after [] buffer) ≡ buffer_after [] buffer
empty_unchanged buffer e = rw (empty buffer e) tried_sheets.unchanged

three : (buffer : List ℕ) → length buffer ≡ 88 → buffer_after three_pairs buffer
    ≡ header_of 3 16 40 88
    ++ (bytes_of 73300 ++ bytes_of 8860 ++ bytes_of 22830 ++ bytes_of 5050 ++ bytes_of 20000 ++ bytes_of 1999 ++ replicate 48 0)
unfolding buffer_after blocks_asked sheet_for pairs_bytes bytes_of
three buffer e = rw e refl

left : (buffer : List ℕ) → length buffer ≡ 89 → buffer_after three_pairs buffer ≡ buffer
unfolding buffer_after blocks_asked
left buffer e = rw e refl

most : (row : List ℕ) → length row ≡ 4000 → writing_answer row (16 + 24 * 2000) ≡ Ok tt
unfolding writing_answer blocks_asked
most row e = rw e refl

too_many : (row : List ℕ) (size : ℕ) → length row ≡ 4002 → writing_answer row size ≡ Err TooManyPairs
unfolding writing_answer blocks_asked
too_many row size e = rw e refl

odd : (row : List ℕ) (size : ℕ) → length row ≡ 4003 → writing_answer row size ≡ Err OddCount
unfolding writing_answer blocks_asked
odd row size e = rw e refl

pub writing_examples : WritingExamples
unfolding writing_answer blocks_asked
writing_examples = record {
  empty = empty;
  empty_written = refl;
  empty_accepted = empty_accepted;
  empty_unchanged = empty_unchanged;
  three = three;
  three_written = refl;
  short = refl;
  long = refl;
  left = left;
  odd = refl;
  odd_up = refl;
  most = most;
  too_many = too_many;
  odd_first = odd;
}
