-- What any right answer is, from the request's words.
use Prim.Native.Nat.{ℕ, ◌+◌, ◌*◌, ◌-◌, ◌≤◌, ◌<◌}
use mathlib.Core.Path.{◌≡◌, refl, sym, ap, ◌∙◌, subst, subst₂}
use mathlib.Core.Logic.{⊎_elim}
use native.Mathlib.Omega.{arith}
use native.Mathlib.Nat.{le_trans, mul-add, add-mul, mul_assoc, mul-le-mul_left, mul-le-mul_right}
use lib.Dec.{T, ltb, leb, leb→le, lit<, lit≤}
use lib.Count.{count_leading_zeros}
use lib.IntN.{ℤ, pos, negsuc, sub_ℕ}
use lib.Signed.{◌≤ℤ◌}
use Rattle.laws.proofs.Contradiction.{not_some}
use Rattle.laws.proofs.Difference.{difference, sub_same, sub_le}
use Rattle.laws.proofs.Order.{by_order}
use Rattle.laws.proofs.Powers.{ring, one_pow}
use Rattle.logarithm.specs.Scale.{scale, width, unit, log10}
use Rattle.logarithm.specs.Tables.{first_table, second_table}
use Rattle.logarithm.specs.Log2.{log2_of, fraction_of, mantissa, zeros_of, entry_at, entry_of, times_factor, level_log, level_rest, tail_of, rest_of}
use Rattle.logarithm.specs.Fractions.{Q, Q_is, Q_number}
use Rattle.logarithm.proofs.Log2.{enclosed}
use Rattle.logarithm.proofs.Constants.{ten}
use Rattle.logarithm.proofs.FromLogarithms.{logs_le, one_above, one_below}
use Rattle.std.specs.Prelude.{Result, Ok, Err}
use Rattle.gravity_constant.specs.declared.questions.Refusal.{Refusal}
use Rattle.gravity_constant.specs.declared.questions.Refusal.TheVariants.{ViscosityOutside, DensityOutside, DivisorNotAboveZero}
use Rattle.gravity_constant.specs.declared.questions.Temperature.{Temperature}
use Rattle.gravity_constant.specs.declared.questions.Temperature.TheVariants.{At40, At100}
use Rattle.gravity_constant.specs.declared.answer.Constant.{Constant}
use Rattle.gravity_constant.specs.Questions.{refusal, refusal_of, number_of_refusal}
use Rattle.gravity_constant.specs.Formula.{density_taken, dividend_slope, divisor_slope, argument, divisor}
use Rattle.gravity_constant.specs.Answer.{number_of, Encloses, Fits, NoDivisor, RightFound, RightConstant}
use Rattle.gravity_constant.specs.Chosen.{digits}
use Rattle.gravity_constant.specs.Preconditions.{least_divisor}
use Rattle.gravity_constant.specs.Forced.{ForcedNumbers, ForcedLimits, HasK, ForcedConstants, ForcedFractions}
use Rattle.gravity_constant.proofs.QuestionOrder.{passes}
use Rattle.gravity_constant.proofs.Enclosure.{argument_least, argument_most}
use Rattle.gravity_constant.proofs.WholeNumbers.{divisor_top, D, A, B, divisor_is, dividend_is, plain}
use Rattle.gravity_constant.proofs.AnyFractions.{decades, from, Between, between, most, not_above_zero, not_below_zero}

-- ---- the number

-- the fractions of an oil that the limits do not refuse, counted
pub counted : (t : Temperature) (v d : ℕ) (lower upper : ℤ) → refusal t v d ≡ 0 → Encloses t v lower upper → Between (argument t v) lower upper
counted t v d lower upper z e =
    between (argument t v) lower upper (argument_least t v (passes t v d z).least) e.below e.above e.close

-- the divisor is above zero at every n that is not too great
pub few_enough : (t : Temperature) (n : ℕ) → n ≤ (digits t + 1) * Q_number + 64 → least_divisor * Q_number + divisor_slope t * n ≤ divisor_top t decades
few_enough At40 n h = omega arith
few_enough At100 n h = omega arith

divides : (t : Temperature) (n : ℕ) → n ≤ (digits t + 1) * Q_number + 64 → divisor t (sub_ℕ n from) ≤ℤ pos 0 → ⊥
divides t n h l =
    let f = few_enough t n h in
    let p : pos (D t decades n) ≤ℤ pos 0 = subst (λ (z : ℤ). z ≤ℤ pos 0) (divisor_is t decades n (omega (arith, f))) l in
    omega (arith, f, leb→le (D t decades n) 0 p.le)

no_23 : (t : Temperature) (v d : ℕ) → refusal t v d ≡ 0 → NoDivisor t v → ⊥
no_23 t v d z r =
    let b = counted t v d r.lower r.upper z r.encloses in
    let m = most (argument t v) (digits t) r.lower r.upper (argument_most t v (passes t v d z).most) b in
    ⊎_elim
    (λ (l : divisor t r.lower ≤ℤ pos 0). divides t b.n (omega (arith, m.0)) (subst (λ (f : ℤ). divisor t f ≤ℤ pos 0) b.lower_is l))
    (λ (l : divisor t r.upper ≤ℤ pos 0). divides t b.m m.1 (subst (λ (f : ℤ). divisor t f ≤ℤ pos 0) b.upper_is l))
    r.fails

not_refused : (t : Temperature) (v d : ℕ) (r : Refusal) → RightConstant t v d (Err r) → refusal t v d ≡ 0 → ⊥
not_refused t v d r right z =
    ⊎_elim
    (λ (l : (0 < number_of_refusal r) × (number_of_refusal r ≡ refusal t v d)). not_some (number_of_refusal r) (l.1 ∙ z) l.0)
    (λ (l : (number_of_refusal r ≡ 23) × (refusal t v d ≡ 0) × NoDivisor t v). no_23 t v d z l.2)
    right

-- a refusal is that of its number
refusal_is : (r : Refusal) → r ≡ refusal_of (number_of_refusal r)
refusal_is ViscosityOutside = refl
refusal_is DensityOutside = refl
refusal_is DivisorNotAboveZero = refl

pub forced_numbers : ForcedNumbers
forced_numbers = record { refused = only_refused; answered = only_answered; number = only_number }
  where
    only_number : (t : Temperature) (v d : ℕ) (a : Result Constant Refusal) → RightConstant t v d a → number_of a ≡ refusal t v d
    only_number t v d (Err r) right =
        ⊎_elim
        (λ (l : (0 < number_of_refusal r) × (number_of_refusal r ≡ refusal t v d)). l.1)
        (λ (l : (number_of_refusal r ≡ 23) × (refusal t v d ≡ 0) × NoDivisor t v). absurd (no_23 t v d l.1 l.2))
        right
    only_number t v d (Ok c) right = sym right.passes

    only_refused : (t : Temperature) (v d : ℕ) (a : Result Constant Refusal) → RightConstant t v d a → 0 < refusal t v d → a ≡ Err (refusal_of (refusal t v d))
    only_refused t v d (Err r) right p = ap Err (refusal_is r ∙ ap refusal_of (only_number t v d (Err r) right))
    only_refused t v d (Ok c) right p = not_some (refusal t v d) right.passes p

    only_answered : (t : Temperature) (v d : ℕ) (a : Result Constant Refusal) → RightConstant t v d a → refusal t v d ≡ 0 → number_of a ≡ 0
    only_answered t v d a right z = only_number t v d a right ∙ z

pub forced_limits : ForcedLimits
forced_limits =
    record {
      below_40 = refl;
      least_40 = refl;
      greatest_40 = refl;
      above_40 = refl;
      below_100 = refl;
      least_100 = refl;
      greatest_100 = refl;
      above_100 = refl;
      too_light = refl;
      lightest = refl;
      heaviest = refl;
      too_heavy = refl;
      low_and_light = refl;
      low_and_heavy = refl;
      high_and_light = refl;
      high_and_heavy = refl;
    }

-- ---- k, with the divisor D and the dividend A − B as plain numbers

-- i − j is p − q: one more would be above the formula by more than 0.51, and one less below it
only_one : (i j p q D A B : ℕ) → 100 * (i * D) + 100000 * B ≤ 100000 * A + 100 * (j * D) + 51 * D
    → 100000 * A + 100 * (j * D) ≤ 100000 * B + 100 * (i * D) + 51 * D
    → 100000 * A + 100 * (q * D) + 51 * D < 100000 * B + 100 * (p * D) + 100 * D
    → 100000 * B + 100 * (p * D) + 51 * D < 100000 * A + 100 * (q * D) + 100 * D
    → sub_ℕ i j ≡ sub_ℕ p q
only_one i j p q D A B least most great small =
    sub_same i j p q
    (by_order (p + j) (i + q)
    (λ l. let m : (p + j + 1) * D ≤ (i + q) * D = mul-le-mul_right D (omega arith) in
    absurd (omega (arith, simp ring at m, least, great)))
    (λ l. by_order (i + q) (p + j)
    (λ k. let m : (i + q + 1) * D ≤ (p + j) * D = mul-le-mul_right D (omega arith) in
    absurd (omega (arith, simp ring at m, most, small)))
    (λ k. omega arith)))

-- ---- a straight line in n, between two n: it is under another where it is so at both

line : (a b c d lo hi n : ℕ) → a + b * lo < c + d * lo → a + b * hi < c + d * hi → lo ≤ n → n ≤ hi → a + b * n < c + d * n
line a b c d lo hi n at-lo at-hi l h =
    by_order d b
    (λ steeper. let m : d * (hi - n) ≤ b * (hi - n) = mul-le-mul_right (hi - n) (omega arith) in
    let e : hi ≡ n + (hi - n) = omega arith in
    omega (arith, m, at-hi, ap (λ (k : ℕ). b * k) e ∙ mul-add b n (hi - n), ap (λ (k : ℕ). d * k) e ∙ mul-add d n (hi - n)))
    (λ flatter. let m : b * (n - lo) ≤ d * (n - lo) = mul-le-mul_right (n - lo) flatter in
    let e : n ≡ lo + (n - lo) = omega arith in
    omega (arith, m, at-lo, ap (λ (k : ℕ). b * k) e ∙ mul-add b lo (n - lo), ap (λ (k : ℕ). d * k) e ∙ mul-add d lo (n - lo)))

-- the same with a divisor D = S − e·n on both sides
module _ (a w u c x z S e : ℕ) where
  abbrev Under : ℕ → Type 0
  Under n = a + w * n + u * (S - e * n) < c + x * n + z * (S - e * n)

  whole : (u n : ℕ) → e * n ≤ S → u * (S - e * n) + u * e * n ≡ u * S
  whole u n h =
      let p : S - e * n + e * n ≡ S = omega arith in
      ap (λ (k : ℕ). u * (S - e * n) + k) (mul_assoc u e n) ∙ sym (mul-add u (S - e * n) (e * n)) ∙ ap (λ (k : ℕ). u * k) p

  flat : (n : ℕ) → e * n ≤ S → Under n → a + u * S + (w + z * e) * n < c + z * S + (x + u * e) * n
  flat n h l = omega (arith, l, whole u n h, whole z n h, add-mul w (z * e) n, add-mul x (u * e) n)

  under : (lo hi n : ℕ) → e * hi ≤ S → Under lo → Under hi → lo ≤ n → n ≤ hi → Under n
  under lo hi n few at-lo at-hi l h =
      let m : e * n ≤ e * hi = mul-le-mul_left e h in
      let k : e * lo ≤ e * hi = mul-le-mul_left e (le_trans l h) in
      let r = line (a + u * S) (w + z * e) (c + z * S) (x + u * e) lo hi n (flat lo (le_trans k few) at-lo) (flat hi few at-hi) l h in
      omega (arith, r, whole u n (le_trans m few), whole z n (le_trans m few), add-mul w (z * e) n, add-mul x (u * e) n)

-- ---- at each oil: n lies from lo to hi, and there k is p − q

-- at n, one more than p − q is above the formula by more than 0.51, and one less is below it
abbrev Great : Temperature → ℕ → ℕ → ℕ → ℕ → Type 0
Great t d p q = Under (100000 * A t decades d) 0 (100 * q + 51) (100000 * (density_taken t * Q_number)) (100000 * dividend_slope t) (100 * p + 100) (divisor_top t decades) (divisor_slope t)

abbrev Small : Temperature → ℕ → ℕ → ℕ → ℕ → Type 0
Small t d p q = Under (100000 * (density_taken t * Q_number)) (100000 * dividend_slope t) (100 * p + 51) (100000 * A t decades d) 0 (100 * q + 100) (divisor_top t decades) (divisor_slope t)

-- what is computed for an oil stands as premises; 10 times its argument is what `Between` speaks of
module _ (t : Temperature) (v d lo hi p q : ℕ)
    (passed : refusal t v d ≡ 0)
    (some : T (leb 1 (10 * argument t v)))
    (few : T (ltb (10 * argument t v) (2 * unit)))
    (high : (log2_of (10 * argument t v) + width) * Q_number < log10 * (hi + 1))
    (low : (log10 + 1) * (lo + 63) < log2_of (10 * argument t v) * Q_number)
    (divides-there : divisor_slope t * hi ≤ divisor_top t decades)
    (great-lo : Great t d p q lo) (great-hi : Great t d p q hi) (small-lo : Small t d p q lo) (small-hi : Small t d p q hi) where
  -- where the n of a lower fraction lies
  not_high : (lower upper : ℤ) (b : Between (argument t v) lower upper) → b.n ≤ hi
  not_high lower upper b =
      let x = 10 * argument t v in
      let h = logs_le scale b.n Q 10 1 1 x log10 0 0 (log2_of x + width) ten.below (one_below scale) (one_above scale)
      (enclosed x some few).above (rw (one_pow b.n, one_pow Q) (omega (arith, b.below))) in
      by_order hi b.n
      (λ l. let m : log10 * (hi + 1) ≤ log10 * b.n = mul-le-mul_left log10 (omega arith) in absurd (omega (arith, rw Q_is at h, m, high)))
      (λ l. l)

  not_low : (lower upper : ℤ) (b : Between (argument t v) lower upper) → lo ≤ b.n
  not_low lower upper b =
      let x = 10 * argument t v in
      let h = logs_le scale b.m Q 1 x 10 1 0 (log2_of x) (log10 + 1) 0 (one_below scale) (enclosed x some few).below ten.above
      (one_above scale) (rw (one_pow b.m, one_pow Q) (omega (arith, b.above))) in
      by_order b.n lo
      (λ l. let m : (log10 + 1) * b.m ≤ (log10 + 1) * (lo + 63) = mul-le-mul_left (log10 + 1) (omega (arith, b.close)) in
      absurd (omega (arith, rw Q_is at h, m, low)))
      (λ l. l)

  fits_there : (n : ℕ) → n ≤ hi → divisor_slope t * n ≤ divisor_top t decades
  fits_there n h = le_trans (mul-le-mul_left (divisor_slope t) h) divides-there

  k_is : (c : Constant) → RightFound t v d c → c.thousandths ≡ sub_ℕ p q
  k_is c r =
      let b = counted t v d c.lower c.upper passed r.encloses in
      let l = not_low c.lower c.upper b in
      let h = not_high c.lower c.upper b in
      let k = difference c.thousandths in
      let r' = plain t d k.i k.j (D t decades b.n) (A t decades d) (B t b.n) (sub_ℕ b.n from) (divisor_is t decades b.n (fits_there b.n h)) (dividend_is t decades b.n d)
      (subst₂ (Fits t d) k.is b.lower_is r.at_lower) in
      let great = under _ _ _ _ _ _ _ _ lo hi b.n divides-there great-lo great-hi l h in
      let small = under _ _ _ _ _ _ _ _ lo hi b.n divides-there small-lo small-hi l h in
      k.is
      ∙ only_one k.i k.j p q (D t decades b.n) (A t decades d) (B t b.n) r'.least r'.most (omega (arith, simp ring at great)) (omega (arith, simp ring at small))

  only_k : (z : ℤ) → sub_ℕ p q ≡ z → (a : Result Constant Refusal) → RightConstant t v d a → HasK a z
  only_k z e (Err y) r = not_refused t v d y r passed
  only_k z e (Ok c) r = k_is c r ∙ e

-- ---- the oils, computed

pub forced_constants : ForcedConstants
unfolding log2_of fraction_of mantissa zeros_of entry_at entry_of times_factor level_log level_rest tail_of rest_of first_table second_table count_leading_zeros
forced_constants =
    record {
      light = only_k At40 9500 8700 77209654 77209774 840 0 refl tt tt (lit< tt) (lit< tt) (lit≤ tt) (lit< tt) (lit< tt) (lit< tt) (lit< tt) (pos 840) refl;
      heavy = only_k At40 46000 8750 94077384 94077504 815 0 refl tt tt (lit< tt) (lit< tt) (lit≤ tt) (lit< tt) (lit< tt) (lit< tt) (lit< tt) (pos 815) refl;
      zero_40 = only_k At40 6500 8600 67108764 67108884 844 0 refl tt tt (lit< tt) (lit< tt) (lit≤ tt) (lit< tt) (lit< tt) (lit< tt) (lit< tt) (pos 844) refl;
      below_zero = only_k At40 1000000000 5000 167772019 167772139 0 905 refl tt tt (lit< tt) (lit< tt) (lit≤ tt) (lit< tt) (lit< tt) (lit< tt) (lit< tt) (negsuc 904) refl;
      below_half_40 = only_k At40 5501 8750 16777116 16777236 911 0 refl tt tt (lit< tt) (lit< tt) (lit≤ tt) (lit< tt) (lit< tt) (lit< tt) (lit< tt) (pos 911) refl;
      above_half_40 = only_k At40 5501 8650 16777116 16777236 904 0 refl tt tt (lit< tt) (lit< tt) (lit≤ tt) (lit< tt) (lit< tt) (lit< tt) (lit< tt) (pos 904) refl;
      light_100 = only_k At100 2500 8700 70975055 70975175 835 0 refl tt tt (lit< tt) (lit< tt) (lit≤ tt) (lit< tt) (lit< tt) (lit< tt) (lit< tt) (pos 835) refl;
      zero_100 = only_k At100 1800 9000 67108764 67108884 880 0 refl tt tt (lit< tt) (lit< tt) (lit≤ tt) (lit< tt) (lit< tt) (lit< tt) (lit< tt) (pos 880) refl;
      below_half_100 = only_k At100 801 8540 16777116 16777236 942 0 refl tt tt (lit< tt) (lit< tt) (lit≤ tt) (lit< tt) (lit< tt) (lit< tt) (lit< tt) (pos 942) refl;
      above_half_100 = only_k At100 801 8600 16777116 16777236 948 0 refl tt tt (lit< tt) (lit< tt) (lit≤ tt) (lit< tt) (lit< tt) (lit< tt) (lit< tt) (pos 948) refl;
    }

-- ---- the fractions

-- a number that is counted from −4 is at most −m
below_minus : (z : ℤ) (n m : ℕ) → z ≡ sub_ℕ n from → n + m ≤ from → z ≤ℤ sub_ℕ 0 m
below_minus z n m e h = subst (λ (y : ℤ). y ≤ℤ sub_ℕ 0 m) (sym e) (sub_le n from 0 m (omega (arith, h)))

pub forced_fractions : ForcedFractions
forced_fractions = record { at_zero = zero; below_zero = below }
  where
    zero : (c : Constant) → RightFound At40 6500 8600 c → (c.lower ≤ℤ pos 0) × (pos 0 ≤ℤ c.upper)
    zero c r = (not_above_zero c.lower r.encloses.below, not_below_zero c.upper r.encloses.above)

    below : (c : Constant) → RightFound At100 801 8540 c → (c.lower ≤ℤ negsuc 50331647) × (c.upper ≤ℤ negsuc 50331583)
    below c r =
        let b = counted At100 801 8540 c.lower c.upper refl r.encloses in
        let m = most 1 0 c.lower c.upper (omega arith) b in
        (below_minus c.lower b.n 50331648 b.lower_is (omega (arith, m.0)), below_minus c.upper b.m 50331584 b.upper_is (omega (arith, m.1)))
