-- A summary with one answer less: its numbers fit their fields, and after the answers in any order it is the summary that was there before this one came.
use Prim.Native.Nat.{ℕ, ◌+◌, ◌≤◌}
use mathlib.Core.Path.{◌≡◌}
use mathlib.Core.Bool.{true, false}
use native.Mathlib.Omega.{arith}
use lib.IntN.{ℤ, ◌+ℤ◌, +ℤ_comm}
use lib.Signed.{◌≤ℤ◌}
use Rattle.std.proofs.lemmas.Int.{ints, clamps}
use Rattle.std.specs.Int.{int_min, int_max}
use Rattle.index.specs.declared.answer.Index.{Index}
use Rattle.index.specs.Answer.{index_of}
use Rattle.std.specs.Prelude.{Result}
use Rattle.index_summary.specs.declared.Summary.{Summary}
use Rattle.index_summary.specs.Summary.{alone_of, joined_of, is_above, is_between, sum_without, count_without, without_of}
use Rattle.index_summary.specs.Preconditions.{most, Within, is_within}
use Rattle.index_summary.proofs.Fits.{within_more}

-- ---- the test whether its numbers fit

pub passes : (t : Summary) → is_within t ≡ true → Within most t
unfolding is_within
passes t h = record { lowest = grind arith; highest = grind arith; sum = grind arith; a = grind arith; settled = grind arith; near = grind arith }

pub fits_passes : (n : ℕ) (t : Summary) → n ≤ most → Within n t → is_within t ≡ true
unfolding is_within
fits_passes n t l v =
    let w = within_more n most t l v in
    grind (arith, w)

-- ---- the order in which answers are added

pub joined_swapped : {R : Type 0} (t : Summary) (x y : Result Index R) → joined_of (joined_of t x) y ≡ joined_of (joined_of t y) x
unfolding joined_of
joined_swapped t x y =
    let lowest : (a b c : ℤ) → int_min (int_min a b) c ≡ int_min (int_min a c) b = λ a b c. omega (arith, ints, clamps) in
    let highest : (a b c : ℤ) → int_max (int_max a b) c ≡ int_max (int_max a c) b = λ a b c. omega (arith, ints, clamps) in
    let sum : (a b c : ℤ) → (a +ℤ b) +ℤ c ≡ (a +ℤ c) +ℤ b = λ a b c. omega (arith, ints) in
    let count : (a b c : ℕ) → a + b + c ≡ a + c + b = λ a b c. omega arith in
    grind (arith, lowest, highest, sum, count)

pub alone_swapped : {R : Type 0} (x y : Result Index R) → joined_of (alone_of x) y ≡ joined_of (alone_of y) x
unfolding joined_of alone_of
alone_swapped x y =
    let lowest : (a b : ℤ) → int_min a b ≡ int_min b a = λ a b. omega (arith, ints, clamps) in
    let highest : (a b : ℤ) → int_max a b ≡ int_max b a = λ a b. omega (arith, ints, clamps) in
    let count : (a b : ℕ) → a + b ≡ b + a = λ a b. omega arith in
    grind (arith, lowest, highest, count, +ℤ_comm)

-- ---- an answer more whose index is among the others: the lowest and the highest stay

pub lowest_kept : (a i : ℤ) → a ≤ℤ i → int_min a i ≡ a
lowest_kept a i h = omega (arith, ints, clamps)

pub highest_kept : (a i : ℤ) → i ≤ℤ a → int_max a i ≡ a
highest_kept a i h = omega (arith, ints, clamps)

-- ---- one answer more, and the same one less

not_above_itself : (z : ℤ) → is_above z z ≡ false
not_above_itself z = grind (arith, ints)

pub alone_not_between : {R : Type 0} (x : Result Index R) → is_between (alone_of x) x ≡ false
unfolding alone_of
alone_not_between x = rw (not_above_itself (index_of x))

lowest_left : (a i : ℤ) → is_above i (int_min a i) ≡ true → int_min a i ≡ a
lowest_left a i h = grind (arith, ints)

highest_left : (a i : ℤ) → is_above (int_max a i) i ≡ true → int_max a i ≡ a
highest_left a i h = grind (arith, ints)

sum_left : (a i : ℤ) → sum_without (a +ℤ i) i ≡ a
sum_left a i = omega (arith, ints)

count_left : (a b : ℕ) → count_without (a + b) b ≡ a
count_left a b = omega arith

pub joined_without : {R : Type 0} (t : Summary) (x : Result Index R) → is_between (joined_of t x) x ≡ true → without_of (joined_of t x) x ≡ t
unfolding joined_of without_of
joined_without t x h = grind (arith, lowest_left, highest_left, sum_left, count_left)
