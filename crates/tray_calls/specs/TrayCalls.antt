-- Change requests #102 and #105 in C, by document 01's rule for the pair call: each lent memory is first asked whether it has just its size (no: 5, all
-- untouched); then the tray's own questions, of which the first no gives its number, with all lent memory untouched; otherwise what was asked for is filled in,
-- and 0 is answered.
use Rattle.std.specs.Prelude.{ℕ, ◌+◌, Bool, cond, ◌&&◌, List, [], ◌∷◌, eqb, ℤ, pos, length, get_or, Option, Some, None, Result, Ok, Err}
use Rattle.laws.specs.Questions.{ask}
use Rattle.index.specs.declared.answer.Index.{Index}
use Rattle.answer_record.specs.Bytes.{number_at}
use Rattle.answer_record.specs.Record.{result_size, method_offset, index_offset, lower_offset, upper_offset, record_of}
use Rattle.index_summary.specs.declared.Summary.{Summary}
use Rattle.tray_places.specs.declared.samples.Place.{Place}
use Rattle.tray_places.specs.Samples.{Sample}
use Rattle.tray.specs.declared.refusal.Refusal.{Refusal}
use Rattle.tray.specs.Calls.{refused_by}
use Rattle.summary_tray.specs.SummaryTray.{put_answer, tray_after_put, take_answer, tray_after_take, state_of}

-- the number of the questions about sizes
abbrev pub not_its_size : ℕ
not_its_size = 5

-- ---- putting in: a tray and a record are lent

abbrev pub just16 : List ℕ → Bool
just16 lent = eqb (length lent) result_size

-- the record after an answer: untouched where the put is refused
abbrev pub record_with : List ℕ → Result Index Refusal → List ℕ
record_with lent (Err refusal) = lent
record_with lent (Ok index) = record_of (Ok index)

-- the number that is answered, the tray and the record afterwards
unfoldable pub put_number : List ℕ → List ℕ → ℕ → ℕ → ℕ → ℕ
put_number tray lent number u y = ask (just16 lent) not_its_size (refused_by (put_answer tray number u y))

unfoldable pub tray_put : List ℕ → List ℕ → ℕ → ℕ → ℕ → List ℕ
tray_put tray lent number u y = cond (just16 lent) (tray_after_put tray number u y) tray

unfoldable pub record_put : List ℕ → List ℕ → ℕ → ℕ → ℕ → List ℕ
record_put tray lent number u y = cond (just16 lent) (record_with lent (put_answer tray number u y)) lent

-- what the code stores: the place of a sample whose answer stands in a record, field by field
unfoldable pub place_from : List ℕ → ℕ → ℕ → ℕ → Place
place_from filled number u y = record {
  method = get_or filled method_offset 0;
  number = number;
  u = u;
  y = y;
  index = number_at filled index_offset;
  lower = number_at filled lower_offset;
  upper = number_at filled upper_offset;
}

-- ---- taking out: a tray, a pair and a record are lent

abbrev pub pair_size : ℕ
pair_size = 2

-- a pair: u, then y
abbrev pub pair_of : ℕ → ℕ → List ℕ
pair_of u y = u ∷ y ∷ []

abbrev pub just_these : List ℕ → List ℕ → Bool
just_these pair lent = eqb (length pair) pair_size && just16 lent

-- the pair and the record after an answer: untouched where the take is refused
abbrev pub pair_with : List ℕ → Result Sample Refusal → List ℕ
pair_with pair (Err refusal) = pair
pair_with pair (Ok s) = pair_of s.u s.y

abbrev pub record_from : List ℕ → Result Sample Refusal → List ℕ
record_from lent (Err refusal) = lent
record_from lent (Ok s) = record_of s.answer

-- the number that is answered, the tray, the pair and the record afterwards
unfoldable pub take_number : List ℕ → List ℕ → List ℕ → ℕ → ℕ
take_number tray pair lent number = ask (just_these pair lent) not_its_size (refused_by (take_answer tray number))

unfoldable pub tray_taken : List ℕ → List ℕ → List ℕ → ℕ → List ℕ
tray_taken tray pair lent number = cond (just_these pair lent) (tray_after_take tray number) tray

unfoldable pub pair_taken : List ℕ → List ℕ → List ℕ → ℕ → List ℕ
pair_taken tray pair lent number = cond (just_these pair lent) (pair_with pair (take_answer tray number)) pair

unfoldable pub record_taken : List ℕ → List ℕ → List ℕ → ℕ → List ℕ
record_taken tray pair lent number = cond (just_these pair lent) (record_from lent (take_answer tray number)) lent

-- ---- the summary, since #105 by what the tray keeps: a tray is lent to read, and a row of seven numbers

abbrev pub row_size : ℕ
row_size = 7

abbrev pub just7 : List ℤ → Bool
just7 row = eqb (length row) row_size

-- a row: how many samples are held, the lowest and the highest index, the sum of indices, and how many are by A, by B settled and by B near
abbrev pub row_of : ℤ → ℤ → ℤ → ℤ → ℤ → ℤ → ℤ → List ℤ
row_of held lowest highest sum a settled near = held ∷ lowest ∷ highest ∷ sum ∷ a ∷ settled ∷ near ∷ []

-- a summary's row: it is of as many as are counted
abbrev pub held_of : Summary → ℕ
held_of t = t.a + t.settled + t.near

abbrev pub summary_row : Summary → List ℤ
summary_row t = row_of (pos (held_of t)) t.lowest t.highest t.sum (pos t.a) (pos t.settled) (pos t.near)

-- "an empty tray says so": that none is held, and all zeros
abbrev pub empty_row : List ℤ
empty_row = row_of (pos 0) (pos 0) (pos 0) (pos 0) (pos 0) (pos 0) (pos 0)

abbrev pub state_row : Option Summary → List ℤ
state_row None = empty_row
state_row (Some t) = summary_row t

-- the row after an answer: untouched where the tray is refused
abbrev pub row_with : List ℤ → Result (Option Summary) Refusal → List ℤ
row_with row (Err refusal) = row
row_with row (Ok state) = state_row state

-- the number that is answered, and the row afterwards
unfoldable pub summary_number : List ℕ → List ℤ → ℕ
summary_number tray row = ask (just7 row) not_its_size (refused_by (state_of tray))

unfoldable pub summary_after : List ℕ → List ℤ → List ℤ
summary_after tray row = cond (just7 row) (row_with row (state_of tray)) row
