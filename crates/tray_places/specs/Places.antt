-- Change request #102: "A tray holds up to 64 samples". A tray is here the list of its numbers: 64 places of eight, behind which a tray of C has nine more since #105
-- (crate summary_tray), and of a place the first number is 0 where it is free. Memory of zeros is the empty tray. The request says nothing of places: this layout is the
-- program's choice, and `EveryTray`, at the end, says what holds of it.
use Rattle.std.specs.Prelude.{ℕ, zero, suc, ◌+◌, ◌*◌, ◌≤◌, ◌<◌, ◌≡◌, Bool, true, false, cond, not, ◌&&◌, List, [], ◌∷◌, ◌++◌, eqb, ltb, length, get_or, replicate, Option, Some, None}
use Rattle.std.specs.Simd.{first_chunks}
use Rattle.index.specs.Questions.{refusal}
use Rattle.index.specs.ChosenAnswer.{answer_of}
use Rattle.answer_record.specs.Bytes.{stored}
use Rattle.tray_places.specs.declared.samples.Place.{Place}
use Rattle.tray_places.specs.Samples.{Sample, place_of, sample_of}

-- how many places a tray has, how many numbers a place, and how many numbers the places
abbrev pub places : ℕ
places = 64

abbrev pub place_size : ℕ
place_size = 8

abbrev pub tray_size : ℕ
tray_size = 512

unfoldable pub empty_tray : List ℕ
empty_tray = replicate tray_size 0

-- ---- one place

-- the numbers of a place, the last of which no field has taken yet
unfoldable pub numbers_of : Place → List ℕ
numbers_of p = p.method ∷ p.number ∷ p.u ∷ p.y ∷ p.index ∷ p.lower ∷ p.upper ∷ 0 ∷ []

-- what is stored to free a place: its other numbers stay
unfoldable pub freed : List ℕ
freed = 0 ∷ []

-- the places of a tray, each as the list of its eight numbers; what is said below of place i of a tray is said of place 0 of such a list
unfoldable pub places_in : List ℕ → List (List ℕ)
places_in tray = first_chunks place_size places tray

-- the method in place i, and the number
abbrev pub method_in : List ℕ → ℕ → ℕ
method_in tray i = get_or tray (place_size * i) 0

abbrev pub number_in : List ℕ → ℕ → ℕ
number_in tray i = get_or tray (place_size * i + 1) 0

-- what place i holds
abbrev pub place_at : List ℕ → ℕ → Place
place_at tray i = record {
  method = method_in tray i;
  number = number_in tray i;
  u = get_or tray (place_size * i + 2) 0;
  y = get_or tray (place_size * i + 3) 0;
  index = get_or tray (place_size * i + 4) 0;
  lower = get_or tray (place_size * i + 5) 0;
  upper = get_or tray (place_size * i + 6) 0;
}

abbrev pub sample_at : List ℕ → ℕ → Sample
sample_at tray i = sample_of (place_at tray i)

-- is place i free, is it held, is that the number in it, and is a sample of that number held there?
abbrev pub is_free : List ℕ → ℕ → Bool
is_free tray i = eqb (method_in tray i) 0

abbrev pub is_held : List ℕ → ℕ → Bool
is_held tray i = not (is_free tray i)

abbrev pub has_number : List ℕ → ℕ → ℕ → Bool
has_number tray number i = eqb (number_in tray i) number

abbrev pub is_held_as : List ℕ → ℕ → ℕ → Bool
is_held_as tray number i = is_held tray i && has_number tray number i

-- ---- all places

-- the first of the places 0 to n − 1 that passes the test; n where none does
unfoldable pub first : (ℕ → Bool) → ℕ → ℕ
first test zero = zero
first test (suc n) = cond (ltb (first test n) n) (first test n) (cond (test n) n (suc n))

-- the place of the sample of that number, and the first free place; 64 where there is none
unfoldable pub place_of_number : List ℕ → ℕ → ℕ
place_of_number tray number = first (is_held_as tray number) places

unfoldable pub free_place : List ℕ → ℕ
free_place tray = first (is_free tray) places

-- what a search for a place answers: the place, if it is one of the 64
abbrev pub found : ℕ → Option ℕ
found i = cond (ltb i places) (Some i) None

-- the samples of the held places among the first n, and those that a tray holds
unfoldable pub among : (ℕ → Bool) → (ℕ → Sample) → ℕ → List Sample
among held sample zero = []
among held sample (suc i) = among held sample i ++ cond (held i) (sample i ∷ []) []

unfoldable pub held_in : List ℕ → List Sample
held_in tray = among (is_held tray) (sample_at tray) places

-- ---- what holds of every tray, whatever its numbers are

pub record EveryTray (tray : List ℕ) : Type 0 where
  -- with 64 places held, 64 samples are, and never more
  pub sixty_four : ((i : ℕ) → i < 64 → is_held tray i ≡ true) → length (held_in tray) ≡ 64
  pub at_most : length (held_in tray) ≤ 64
  -- the free place is the first: every place before it is held; and the place of a number is the first: none before it holds the number
  pub first_free : (i : ℕ) → i < free_place tray → is_held tray i ≡ true
  pub first_numbered : (number i : ℕ) → i < place_of_number tray number → is_held_as tray number i ≡ false
  -- it holds a sample of just that number, whichever it is
  pub its_number : (number : ℕ) → place_of_number tray number < 64 → (sample_at tray (place_of_number tray number)).number ≡ number
  -- a place that is freed is free
  pub frees : (i : ℕ) → i < 64 → length tray ≡ 512 → is_held (stored tray (place_size * i) freed) i ≡ false
  -- a sample that is stored is held, and is the one that is read, if no question refuses its pair and its answer is the pair's own
  pub stores : (s : Sample) (i : ℕ) → i < 64 → length tray ≡ 512 → refusal s.u s.y ≡ 0 → s.answer ≡ answer_of s.u s.y
      → (is_held (stored tray (place_size * i) (numbers_of (place_of s))) i ≡ true) × (sample_at (stored tray (place_size * i) (numbers_of (place_of s))) i ≡ s)

-- memory of zeros is the empty tray
pub record Zeros : Type 0 where
  pub size : length empty_tray ≡ 512
  pub holds : held_in empty_tray ≡ []
