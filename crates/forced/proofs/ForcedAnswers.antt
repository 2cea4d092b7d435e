-- The answers to these pairs are forced. By A and where a pair is refused, the definitions compute. By B the two whole numbers beside Q·N bound what any p
-- and P show of the index: of (22830, 5050) that it is from 156.42 to 156.43; of (144936, 16776) neither that it is at least nor that it is at most 124.5.
use Prim.Native.Nat.{ℕ, ◌*◌, ◌^◌, ◌≤◌, ◌<◌}
use mathlib.Core.Path.{◌≡◌, refl, sym, ◌∙◌, ap, subst}
use mathlib.Core.Bool.{true}
use native.Mathlib.Omega.{arith}
use native.Mathlib.Nat.{le_trans, le_of_mul-le-mul_right, one-le-pow}
use lib.Dec.{lit≤}
use lib.IntN.{ℤ, pos, negsuc}
use lib.Count.{count_leading_zeros}
use Rattle.laws.proofs.Contradiction.{impossible, not_some}
use Rattle.laws.proofs.Powers.{exponents_le}
use Rattle.reference.specs.Viscosity.{in_units}
use Rattle.reference.specs.Table1.{table1}
use Rattle.reference.specs.Basis.{entry, at_place, l_at, h_at}
use Rattle.logarithm.specs.Tables.{first_table, second_table}
use Rattle.logarithm.specs.Log2.{log2_of, fraction_of, mantissa, zeros_of, entry_at, entry_of, times_factor, level_log, level_rest, tail_of, rest_of}
use Rattle.shown_index.specs.declared.Mark.{Mark}
use Rattle.shown_index.specs.declared.Mark.TheVariants as mark
use Rattle.shown_index.specs.declared.ByB.{ByB}
use Rattle.logarithm.specs.Fractions.{Q}
use Rattle.shown_index.specs.Terms.{c}
use Rattle.shown_index.specs.ChosenIndex.{shows_least, shows_most}
use Rattle.shown_index.proofs.Shows.{least_shows, most_shows}
use Rattle.std.specs.Prelude.{Ok, Err}
use Rattle.reference.specs.declared.refusal.Refusal.TheVariants.{ThinAt100}
use Rattle.reference.specs.Refusal.{number_of_refusal}
use Rattle.index.proofs.Determined.{same_refusal}
use Rattle.index.specs.declared.answer.Index.TheVariants.{A, B}
use Rattle.index.specs.Questions.{refusal}
use Rattle.index.specs.ProcedureA.{rounded_a, index_a}
use Rattle.index.specs.ProcedureB.{AtLeast, AtMost, SettledAt, NearAt, Marked}
use Rattle.index.specs.Answer.{Answer, method_of_mark, method_of, index_of, lower_of, upper_of, RightAnswer}
use Rattle.forced.specs.ForcedAnswers.{Forced156, ForcedNear125, ForcedAnswers}
use Rattle.logarithm.proofs.Log2.{enclosed}
use Rattle.forced.proofs.Fractions.{Numbers, lower_most, upper_least, bounds}

-- ---- by A, and refused

only_a : (u y : ℕ) (i : ℤ) → refusal u y ≡ 0 → h_at y ≤ in_units u → index_a u y ≡ i → (a : Answer) → RightAnswer u y a → a ≡ Ok (A i)
only_a u y i q h e (Err n) r = not_some (number_of_refusal n) (r.number ∙ q) r.case
only_a u y i q h e (Ok (A x)) r = ap (λ (k : ℤ). Ok (A k)) (r.case.1 ∙ e)
only_a u y i q h e (Ok (B b)) r = let below : in_units u < h_at y = r.case.below in absurd (omega arith)

by_a : (a : Answer) → RightAnswer 73300 8860 a → a ≡ Ok (A (pos 92))
unfolding index_a rounded_a l_at h_at at_place entry table1
by_a = only_a 73300 8860 (pos 92) refl (lit≤ tt) refl

at_h : (a : Answer) → RightAnswer 28490 5000 a → a ≡ Ok (A (pos 100))
unfolding index_a rounded_a l_at h_at at_place entry table1
at_h = only_a 28490 5000 (pos 100) refl (lit≤ tt) refl

half : (a : Answer) → RightAnswer 7986 2000 a → a ≡ Ok (A (pos 0))
unfolding index_a rounded_a l_at h_at at_place entry table1
half = only_a 7986 2000 (pos 0) refl (lit≤ tt) refl

negative_half : (a : Answer) → RightAnswer 8018 2000 a → a ≡ Ok (A (negsuc 1))
unfolding index_a rounded_a l_at h_at at_place entry table1
negative_half = only_a 8018 2000 (negsuc 1) refl (lit≤ tt) refl

one_and_a_half : (a : Answer) → RightAnswer 7970 2000 a → a ≡ Ok (A (pos 2))
unfolding index_a rounded_a l_at h_at at_place entry table1
one_and_a_half = only_a 7970 2000 (pos 2) refl (lit≤ tt) refl

minus_two_and_a_half : (a : Answer) → RightAnswer 8034 2000 a → a ≡ Ok (A (negsuc 1))
unfolding index_a rounded_a l_at h_at at_place entry table1
minus_two_and_a_half = only_a 8034 2000 (negsuc 1) refl (lit≤ tt) refl

thickest : (a : Answer) → RightAnswer 1000000000 2000 a → a ≡ Ok (A (negsuc 62499499))
unfolding index_a rounded_a l_at h_at at_place entry table1
thickest = only_a 1000000000 2000 (negsuc 62499499) refl (lit≤ tt) refl

only_refused : (a : Answer) → RightAnswer 20000 1999 a → a ≡ Err ThinAt100
only_refused (Err n) r = ap Err (same_refusal n ThinAt100 r.number)
only_refused (Ok (A i)) r = impossible r.number
only_refused (Ok (B b)) r = impossible r.number

-- ---- by B

-- an order of powers of ten is one of their exponents
exponents : (a b : ℕ) → 10 ^ a * 10 ^ (7 * Q) ≤ 10 ^ b * 10 ^ (7 * Q) → a ≤ b
exponents a b h = exponents_le 10 a b (omega arith) (le_of_mul-le-mul_right {k = 10 ^ (7 * Q)} h (one-le-pow (7 * Q) 10 (omega arith)))

-- a right answer to a pair below H is by B
by_mark : (P : Answer → Type 0) (u y : ℕ) → refusal u y ≡ 0 → in_units u < h_at y
    → ((b : ByB) → Marked b.mark u y b.index b.lower b.upper → P (Ok (B b))) → (a : Answer) → RightAnswer u y a → P a
by_mark P u y q l f (Err n) r = not_some (number_of_refusal n) (r.number ∙ q) r.case
by_mark P u y q l f (Ok (A i)) r = let h : h_at y ≤ in_units u = r.case.0 in absurd (omega arith)
by_mark P u y q l f (Ok (B b)) r = f b r.case.marked

-- ---- (22830, 5050): Q·N lies between 2,469,440 and 2,469,441, which stand for an index from 156.42 to 156.43

p156 : ℕ
p156 = 2469440

p156_is : p156 ≡ 2469440
unfolding p156
p156_is = refl

numbers_156 : Numbers 22830 5050 289750000000 p156 14034745000 14034030000
unfolding p156 h_at at_place entry table1 log2_of fraction_of mantissa zeros_of entry_at entry_of times_factor level_log level_rest tail_of rest_of first_table second_table count_leading_zeros
numbers_156 =
    record {
      h_is = refl;
      y_log = enclosed _ tt tt;
      h_log = enclosed _ tt tt;
      thicker_log = enclosed _ tt tt;
      thinner_log = enclosed _ tt tt;
      most_log = enclosed _ tt tt;
      least_log = enclosed _ tt tt;
      lower = lit≤ tt;
      upper = lit≤ tt;
      index_most = lit≤ tt;
      index_least = lit≤ tt;
    }

-- the far ends of the ranges of p and P
far_lower : shows_most 2435078 15550 ≡ true
unfolding shows_most log2_of fraction_of mantissa zeros_of entry_at entry_of times_factor level_log level_rest tail_of rest_of first_table second_table count_leading_zeros
far_lower = refl

far_upper : shows_least 2472281 15650 ≡ true
unfolding shows_least log2_of fraction_of mantissa zeros_of entry_at entry_of times_factor level_log level_rest tail_of rest_of first_table second_table count_leading_zeros
far_upper = refl

bounds_156 : (r s p P : ℕ) → AtLeast 22830 5050 r p → AtMost 22830 5050 s P → (1000 * c r ≤ 14034745000) × (14034030000 ≤ 1000 * c s)
bounds_156 = bounds _ _ _ _ _ _ (omega arith) (omega arith) numbers_156

module _ (k p P : ℕ) where
  only_156 : SettledAt 22830 5050 k p P → k ≡ 156
  only_156 h =
      let b = bounds_156 _ _ p P h.at_least h.at_most in
      omega (arith, b.0, b.1)

  never_near : NearAt 22830 5050 k p P → ⊥
  never_near h =
      let b = bounds_156 _ _ p P h.at_least h.at_most in
      omega (arith, b.0, b.1)

forced_156 : (p P : ℕ) → SettledAt 22830 5050 156 p P → Forced156 (method_of_mark mark.Settled) (pos 156) p P
forced_156 p P h =
    record {
      settled = refl;
      index_is = refl;
      shown = h;
      lower_least = exponents 2435078 p (le_trans (most_shows 2435078 15550 (omega arith) (omega arith) far_lower) h.at_least.index);
      lower_most = omega (arith, p156_is, lower_most _ _ _ _ _ _ (omega arith) (omega arith) numbers_156 _ p h.at_least);
      upper_least = omega (arith, p156_is, upper_least _ _ _ _ _ _ (omega arith) (omega arith) numbers_156 _ P h.at_most);
      upper_most = exponents P 2472281 (le_trans h.at_most.index (least_shows 2472281 15650 (omega arith) (omega arith) far_upper));
    }

marked_156 : (m : Mark) (k p P : ℕ) → Marked m 22830 5050 k p P → Forced156 (method_of_mark m) (pos k) p P
marked_156 mark.Settled k p P h =
    let e : k ≡ 156 = only_156 k p P h in
    subst (λ (j : ℕ). Forced156 (method_of_mark mark.Settled) (pos j) p P) (sym e) (forced_156 p P (subst (λ (j : ℕ). SettledAt 22830 5050 j p P) e h))
marked_156 mark.Near k p P h = absurd (never_near k p P h)

-- ---- (144936, 16776): Q·N and that of 124.5 lie between 1,176,125 and 1,176,126; c(12450) is 11,751,750

p125 : ℕ
p125 = 1176125

p125_is : p125 ≡ 1176125
unfolding p125
p125_is = refl

numbers_125 : Numbers 144936 16776 1766160000000 p125 11751749999 11751750001
unfolding p125 h_at at_place entry table1 log2_of fraction_of mantissa zeros_of entry_at entry_of times_factor level_log level_rest tail_of rest_of first_table second_table count_leading_zeros
numbers_125 =
    record {
      h_is = refl;
      y_log = enclosed _ tt tt;
      h_log = enclosed _ tt tt;
      thicker_log = enclosed _ tt tt;
      thinner_log = enclosed _ tt tt;
      most_log = enclosed _ tt tt;
      least_log = enclosed _ tt tt;
      lower = lit≤ tt;
      upper = lit≤ tt;
      index_most = lit≤ tt;
      index_least = lit≤ tt;
    }

bounds_125 : (r s p P : ℕ) → AtLeast 144936 16776 r p → AtMost 144936 16776 s P → (1000 * c r ≤ 11751749999) × (11751750001 ≤ 1000 * c s)
bounds_125 = bounds _ _ _ _ _ _ (omega arith) (omega arith) numbers_125

module _ (k p P : ℕ) where
  never_settled : SettledAt 144936 16776 k p P → ⊥
  never_settled h =
      let b = bounds_125 _ _ p P h.at_least h.at_most in
      omega (arith, b.0, b.1)

  only_125 : NearAt 144936 16776 k p P → k ≡ 125
  only_125 h =
      let b = bounds_125 _ _ p P h.at_least h.at_most in
      omega (arith, b.0, b.1)

forced_125 : (p P : ℕ) → NearAt 144936 16776 125 p P → ForcedNear125 (method_of_mark mark.Near) (pos 125) p P
forced_125 p P h =
    record {
      near = refl;
      index_is = refl;
      shown = h;
      lower_most = omega (arith, p125_is, lower_most _ _ _ _ _ _ (omega arith) (omega arith) numbers_125 _ p h.at_least);
      upper_least = omega (arith, p125_is, upper_least _ _ _ _ _ _ (omega arith) (omega arith) numbers_125 _ P h.at_most);
    }

marked_125 : (m : Mark) (k p P : ℕ) → Marked m 144936 16776 k p P → ForcedNear125 (method_of_mark m) (pos k) p P
marked_125 mark.Settled k p P h = absurd (never_settled k p P h)
marked_125 mark.Near k p P h =
    let e : k ≡ 125 = only_125 k p P h in
    subst (λ (j : ℕ). ForcedNear125 (method_of_mark mark.Near) (pos j) p P) (sym e) (forced_125 p P (subst (λ (j : ℕ). NearAt 144936 16776 j p P) e h))

pub forced_answers : ForcedAnswers
forced_answers =
    record {
      by_a = by_a;
      at_h = at_h;
      half = half;
      negative_half = negative_half;
      one_and_a_half = one_and_a_half;
      minus_two_and_a_half = minus_two_and_a_half;
      thickest = thickest;
      by_b =
          by_mark (λ (a : Answer). Forced156 (method_of a) (index_of a) (lower_of a) (upper_of a)) 22830 5050 refl (omega (arith, numbers_156.h_is))
          (λ b h. marked_156 b.mark b.index b.lower b.upper h);
      near =
          by_mark (λ (a : Answer). ForcedNear125 (method_of a) (index_of a) (lower_of a) (upper_of a)) 144936 16776 refl (omega (arith, numbers_125.h_is))
          (λ b h. marked_125 b.mark b.index b.lower b.upper h);
      refused = only_refused;
    }
