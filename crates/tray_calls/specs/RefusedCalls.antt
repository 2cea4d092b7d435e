-- Change request #102 of the calls in C, for any lent memories: "A refused call changes nothing", which memories are refused by their size, and "an empty tray says
-- so".
use Rattle.std.specs.Prelude.{ℕ, ◌<◌, ◌≡◌, List, [], ◌∷◌, ℤ, pos, length}
use Rattle.tray_places.specs.Places.{held_in}
use Rattle.summary_tray.specs.SummaryTray.{places_in, state_of}
use Rattle.summary_tray.specs.KeptSummary.{walked}
use Rattle.tray_calls.specs.TrayCalls.{put_number, tray_put, record_put, take_number, tray_taken, pair_taken, record_taken, summary_number, summary_after}

-- a call that answers a number other than 0 leaves every lent memory as it was
pub record RefusedCalls (tray lent pair : List ℕ) (row : List ℤ) : Type 0 where
  pub put : (number u y : ℕ) → 0 < put_number tray lent number u y → (tray_put tray lent number u y ≡ tray) × (record_put tray lent number u y ≡ lent)
  pub take : (number : ℕ) → 0 < take_number tray pair lent number
      → (tray_taken tray pair lent number ≡ tray) × (pair_taken tray pair lent number ≡ pair) × (record_taken tray pair lent number ≡ lent)
  pub summary : 0 < summary_number tray row → summary_after tray row ≡ row

-- a lent memory of another size: 5, whatever is asked
pub record OtherSizes (tray lent pair : List ℕ) (row : List ℤ) : Type 0 where
  pub put_tray : (length tray ≡ 521 → ⊥) → (number u y : ℕ) → put_number tray lent number u y ≡ 5
  pub put_record : (length lent ≡ 16 → ⊥) → (number u y : ℕ) → put_number tray lent number u y ≡ 5
  pub take_tray : (length tray ≡ 521 → ⊥) → (number : ℕ) → take_number tray pair lent number ≡ 5
  pub take_pair : (length pair ≡ 2 → ⊥) → (number : ℕ) → take_number tray pair lent number ≡ 5
  pub take_record : (length lent ≡ 16 → ⊥) → (number : ℕ) → take_number tray pair lent number ≡ 5
  pub tray_summary : (length tray ≡ 521 → ⊥) → summary_number tray row ≡ 5
  pub row_summary : (length row ≡ 7 → ⊥) → summary_number tray row ≡ 5

-- the first number of a row
abbrev pub first_of : List ℤ → ℤ
first_of [] = pos 0
first_of (x ∷ row) = x

-- a summary that is answered, of a tray that keeps what a walk over its samples gives, as after every list of calls from zeros (#105; summary_tray,
-- KeptSummary.antt): it begins with how many samples are held; "an empty tray says so" by 0, and all else is 0
pub record SaysHowMany (tray : List ℕ) (row : List ℤ) (kept : state_of tray ≡ walked tray) : Type 0 where
  pub held : summary_number tray row ≡ 0 → first_of (summary_after tray row) ≡ pos (length (held_in (places_in tray)))
  pub empty : summary_number tray row ≡ 0 → held_in (places_in tray) ≡ [] → summary_after tray row ≡ pos 0 ∷ pos 0 ∷ pos 0 ∷ pos 0 ∷ pos 0 ∷ pos 0 ∷ pos 0 ∷ []
