-- How many samples of a list pass a test: how change request #102's "Samples held equal samples taken in less samples taken out" is counted, of each sample.
use Rattle.std.specs.Prelude.{ℕ, ◌+◌, ◌≡◌, Bool, true, cond, ◌&&◌, List, [], ◌∷◌, eqb, ℤ}
use Rattle.std.specs.Int.Signed.{le_z}
use Rattle.index.specs.Answer.{Answer, number_of, method_of, index_of, lower_of, upper_of}
use Rattle.tray_places.specs.Samples.{Sample}

abbrev pub one : Bool → ℕ
one b = cond b 1 0

unfoldable pub times : (Sample → Bool) → List Sample → ℕ
times test [] = 0
times test (s ∷ samples) = one (test s) + times test samples

-- the test of a number
abbrev pub numbered : ℕ → Sample → Bool
numbered number s = eqb s.number number

-- the test whether it is this very sample: its number, its pair, and each field of its answer
abbrev pub same_index : ℤ → ℤ → Bool
same_index x y = le_z x y && le_z y x

abbrev pub same_answer : Answer → Answer → Bool
same_answer a b =
    eqb (number_of a) (number_of b)
    && (eqb (method_of a) (method_of b)
    && (same_index (index_of a) (index_of b) && (eqb (lower_of a) (lower_of b) && eqb (upper_of a) (upper_of b))))

abbrev pub same : Sample → Sample → Bool
same s t = eqb s.number t.number && (eqb s.u t.u && (eqb s.y t.y && same_answer s.answer t.answer))

-- it passes of that sample, and of no other
pub record SameSample : Type 0 where
  pub itself : (s : Sample) → same s s ≡ true
  pub only : (s t : Sample) → same s t ≡ true → s ≡ t
