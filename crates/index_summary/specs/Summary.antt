-- Change request #102: "Asked, it gives the lowest and highest index, the sum of indices and the count for each of A, B settled and B near". A summary of
-- answers, made by adding them one after the other, and what it is for a summary to be right.
use Rattle.std.specs.Prelude.{ℕ, ◌+◌, ◌-◌, ◌≡◌, ◌⊎◌, Bool, cond, ◌&&◌, List, [], ◌∷◌, eqb, ℤ, pos, negsuc, ◌+ℤ◌, ◌-ℤ◌, ◌≤ℤ◌, Result}
use Rattle.std.specs.Int.{int_min, int_max}
use Rattle.std.specs.Int.Signed.{lt_z}
use Rattle.index.specs.declared.answer.Index.{Index}
use Rattle.index.specs.Answer.{index_of, method_of}
use Rattle.index_summary.specs.declared.Summary as declared

-- ---- the walk

-- 1 where the two methods are the same
abbrev pub one : ℕ → ℕ → ℕ
one method same = cond (eqb method same) 1 0

-- the methods that are counted, by document 01: "1 A, 2 B settled, 3 B near"
abbrev pub method_a : ℕ
method_a = 1

abbrev pub method_settled : ℕ
method_settled = 2

abbrev pub method_near : ℕ
method_near = 3

-- the summary of one answer, and a summary with one answer more
unfoldable pub alone_of : {R : Type 0} → Result Index R → declared.Summary
alone_of answer = record {
  lowest = index_of answer;
  highest = index_of answer;
  sum = index_of answer;
  a = one (method_of answer) method_a;
  settled = one (method_of answer) method_settled;
  near = one (method_of answer) method_near;
}

unfoldable pub joined_of : {R : Type 0} → declared.Summary → Result Index R → declared.Summary
joined_of t answer = record {
  lowest = int_min t.lowest (index_of answer);
  highest = int_max t.highest (index_of answer);
  sum = t.sum +ℤ index_of answer;
  a = t.a + one (method_of answer) method_a;
  settled = t.settled + one (method_of answer) method_settled;
  near = t.near + one (method_of answer) method_near;
}

-- what the code begins with: every index is below the one and above the other, for 32 bits hold it, with sign or without. One answer added to it makes
-- the summary of that answer
abbrev pub above_all : ℤ
above_all = pos 4294967296

abbrev pub below_all : ℤ
below_all = negsuc 4294967296

abbrev pub nothing : declared.Summary
nothing = record { lowest = above_all; highest = below_all; sum = pos 0; a = 0; settled = 0; near = 0 }

-- is it of no answers: is nothing counted?
abbrev pub is_of_none : declared.Summary → Bool
is_of_none t = eqb t.a 0 && (eqb t.settled 0 && eqb t.near 0)

-- ---- one answer less

-- is a above b; and is the index of an answer above the lowest, and the highest above it, so that neither of them leaves with it?
abbrev pub is_above : ℤ → ℤ → Bool
is_above a b = lt_z b a

abbrev pub is_between : {R : Type 0} → declared.Summary → Result Index R → Bool
is_between t answer = is_above (index_of answer) t.lowest && is_above t.highest (index_of answer)

-- a sum without one index, and a count without so many, 0 where there are not as many
abbrev pub sum_without : ℤ → ℤ → ℤ
sum_without sum index = sum -ℤ index

abbrev pub count_without : ℕ → ℕ → ℕ
count_without count less = count - less

-- a summary with one such answer less
unfoldable pub without_of : {R : Type 0} → declared.Summary → Result Index R → declared.Summary
without_of t answer = record {
  lowest = t.lowest;
  highest = t.highest;
  sum = sum_without t.sum (index_of answer);
  a = count_without t.a (one (method_of answer) method_a);
  settled = count_without t.settled (one (method_of answer) method_settled);
  near = count_without t.near (one (method_of answer) method_near);
}

-- ---- when a summary is right

-- every answer of a list, and some answer of it
abbrev pub All : {R : Type 0} → (Result Index R → Type 0) → List (Result Index R) → Type 0
All P [] = Unit
All P (answer ∷ answers) = P answer × All P answers

abbrev pub Some : {R : Type 0} → (Result Index R → Type 0) → List (Result Index R) → Type 0
Some P [] = ⊥
Some P (answer ∷ answers) = P answer ⊎ Some P answers

unfoldable pub sum_of : {R : Type 0} → List (Result Index R) → ℤ
sum_of [] = pos 0
sum_of (answer ∷ answers) = index_of answer +ℤ sum_of answers

-- how many are by a method
unfoldable pub count_of : {R : Type 0} → ℕ → List (Result Index R) → ℕ
count_of method [] = 0
count_of method (answer ∷ answers) = cond (eqb (method_of answer) method) 1 0 + count_of method answers

-- the lowest index is at or below every index and is one of them, the highest likewise; the sum is of all, and each count is of its method
pub record SummaryOf {R : Type 0} (answers : List (Result Index R)) (t : declared.Summary) : Type 0 where
  pub lowest_least : All (λ answer. t.lowest ≤ℤ index_of answer) answers
  pub lowest_held : Some (λ answer. t.lowest ≡ index_of answer) answers
  pub highest_most : All (λ answer. index_of answer ≤ℤ t.highest) answers
  pub highest_held : Some (λ answer. t.highest ≡ index_of answer) answers
  pub sum_is : t.sum ≡ sum_of answers
  pub a_is : t.a ≡ count_of 1 answers
  pub settled_is : t.settled ≡ count_of 2 answers
  pub near_is : t.near ≡ count_of 3 answers
