-- How free k and the fractions are: from what `Fits` says in whole numbers, at the lower fraction.
use Prim.Native.Nat.{ℕ, ◌+◌, ◌*◌, ◌-◌, ◌≤◌, ◌<◌}
use mathlib.Core.Path.{◌≡◌, sym, ap, ◌∙◌, subst, subst₂}
use native.Mathlib.Omega.{arith}
use native.Mathlib.Nat.{le_trans, mul-add, mul-le-mul_right}
use lib.IntN.{ℤ, pos, negsuc, sub_ℕ, ◌+ℤ◌}
use lib.Signed.{◌≤ℤ◌}
use Rattle.laws.proofs.Difference.{Difference, difference, sub_plus, sub_le}
use Rattle.laws.proofs.Order.{by_order}
use Rattle.laws.proofs.Powers.{ring, exponents_le}
use Rattle.logarithm.specs.Fractions.{Q_number}
use Rattle.gravity_constant.specs.declared.questions.Temperature.{Temperature}
use Rattle.gravity_constant.specs.declared.questions.Temperature.TheVariants.{At40, At100}
use Rattle.gravity_constant.specs.declared.answer.Constant.{Constant}
use Rattle.gravity_constant.specs.Questions.{least_density, greatest_density}
use Rattle.gravity_constant.specs.Formula.{dividend_slope, divisor_slope, argument}
use Rattle.gravity_constant.specs.Answer.{Fits, RightFound}
use Rattle.gravity_constant.specs.Chosen.{digits}
use Rattle.gravity_constant.specs.Preconditions.{least_divisor}
use Rattle.gravity_constant.specs.Forced.{LeftFree}
use Rattle.gravity_constant.proofs.QuestionOrder.{passes}
use Rattle.gravity_constant.proofs.Enclosure.{argument_most}
use Rattle.gravity_constant.proofs.WholeNumbers.{divisor_top, D, A, B, Plain, divisor_is, dividend_is, plain}
use Rattle.gravity_constant.proofs.AnyFractions.{decades, from, Between, most}
use Rattle.gravity_constant.proofs.Forced.{counted, few_enough}

-- ---- the least and the greatest k, i − j

not_least : (i j D A B : ℕ) → Plain i j D A B → 100000 * B < 100000 * A + 90549 * D → j ≤ i + 905
not_least i j D A B r h =
    by_order (i + 905) j
    (λ l. let m : (i + 906) * D ≤ j * D = mul-le-mul_right D (omega arith) in absurd (omega (arith, simp ring at m, r.most, h)))
    (λ l. l)

not_most : (i j D A B : ℕ) → Plain i j D A B → 100000 * A < 100000 * B + 259249 * D → i ≤ j + 2592
not_most i j D A B r h =
    by_order (j + 2592) i
    (λ l. let m : (j + 2593) * D ≤ i * D = mul-le-mul_right D (omega arith) in absurd (omega (arith, simp ring at m, r.least, h)))
    (λ l. l)

-- the formula at every n that a lower fraction may have
above_least : (t : Temperature) (d n : ℕ) → least_density ≤ d → n ≤ (digits t + 1) * Q_number → 100000 * B t n < 100000 * A t decades d + 90549 * D t decades n
above_least At40 d n l h = omega arith
above_least At100 d n l h = omega arith

below_most : (t : Temperature) (d n : ℕ) → d ≤ greatest_density → n ≤ (digits t + 1) * Q_number → 100000 * A t decades d < 100000 * B t n + 259249 * D t decades n
below_most At40 d n l h = omega arith
below_most At100 d n l h = omega arith

-- ---- a right constant in whole numbers

record Counted (t : Temperature) (d : ℕ) (c : Constant) (n i j : ℕ) : Type 0 where
  k_is : c.thousandths ≡ sub_ℕ i j
  lower_is : c.lower ≡ sub_ℕ n from
  large : least_divisor * Q_number + divisor_slope t * n ≤ divisor_top t decades
  in_numbers : Plain i j (D t decades n) (A t decades d) (B t n)
  not_below : j ≤ i + 905
  not_above : i ≤ j + 2592

module _ (t : Temperature) (v d : ℕ) (c : Constant) (r : RightFound t v d c) where
  b : Between (argument t v) c.lower c.upper
  b = counted t v d c.lower c.upper r.passes r.encloses

  k : Difference c.thousandths
  k = difference c.thousandths

  in_whole_numbers : Counted t d c b.n k.i k.j
  in_whole_numbers =
      let a = passes t v d r.passes in
      let m = most (argument t v) (digits t) c.lower c.upper (argument_most t v a.most) b in
      let large = few_enough t b.n (omega (arith, m.0)) in
      let p =
      plain t d k.i k.j (D t decades b.n) (A t decades d) (B t b.n) (sub_ℕ b.n from) (divisor_is t decades b.n (omega (arith, large)))
      (dividend_is t decades b.n d) (subst₂ (Fits t d) k.is b.lower_is r.at_lower) in
      record {
        k_is = k.is;
        lower_is = b.lower_is;
        large = large;
        in_numbers = p;
        not_below = not_least k.i k.j _ _ _ p (above_least t d b.n a.lightest m.0);
        not_above = not_most k.i k.j _ _ _ p (below_most t d b.n a.heaviest m.0);
      }

-- ---- two of one oil: i − j and i' − j', at most 64 apart in n. b and e are the slopes, s how far one n is past the other

-- a k that is 2 more than another would be further from it than twice 0.51 and what the formula changes by between the two n
too_far : (i j i' j' D X : ℕ) → 100 * (i * D) + 100 * (j' * D) ≤ 100 * (j * D) + 100 * (i' * D) + 102 * D + X → X < 98 * D → i + j' ≤ j + i' + 1
too_far i j i' j' D X h l =
    by_order (j + i' + 1) (i + j')
    (λ more. let m : (j + i' + 2) * D ≤ (i + j') * D = mul-le-mul_right D (omega arith) in absurd (omega (arith, simp ring at m, h, l)))
    (λ less. less)

-- the second n is s past the first
past : (i j i' j' D A B r w : ℕ) → Plain i j (D + r) A B → Plain i' j' D A (B + w) → j ≤ i + 905 → 90551 * r + 100000 * w < 98 * D → i + j' ≤ j + i' + 1
past i j i' j' D A B r w p q l h =
    too_far i j i' j' D (90551 * r + 100000 * w)
    (omega (arith, simp ring at p.least, q.most, simp ring at (mul-le-mul_right r l))) h

-- the first n is s past the second
before : (i j i' j' D A B r w : ℕ) → Plain i j D A (B + w) → Plain i' j' (D + r) A B → i' ≤ j' + 2592 → 259251 * r < 98 * D → i + j' ≤ j + i' + 1
before i j i' j' D A B r w p q l h =
    too_far i j i' j' D (259251 * r)
    (omega (arith, p.least, simp ring at q.most, simp ring at (mul-le-mul_right r l))) h

-- the divisor and what is taken off, s further on
further_d : (t : Temperature) (n s : ℕ) → divisor_slope t * (n + s) ≤ divisor_top t decades → D t decades n ≡ D t decades (n + s) + divisor_slope t * s
further_d t n s h = omega (arith, h, mul-add (divisor_slope t) n s)

further_b : (t : Temperature) (n s : ℕ) → B t (n + s) ≡ B t n + dividend_slope t * s
further_b t n s = omega (arith, mul-add (dividend_slope t) n s)

lost : (t : Temperature) (s : ℕ) → s ≤ 64 → (90551 * (divisor_slope t * s) + 100000 * (dividend_slope t * s) < least_divisor * Q_number) × (259251 * (divisor_slope t * s) < least_divisor * Q_number)
lost At40 s h = (omega arith, omega arith)
lost At100 s h = (omega arith, omega arith)

module _ (t : Temperature) (d : ℕ) (c e : Constant) (n i j m x y : ℕ) (f : Counted t d c n i j) (g : Counted t d e m x y) where
  apart_past : (s : ℕ) → m ≡ n + s → s ≤ 64 → i + y ≤ j + x + 1
  apart_past s is few =
      let k : divisor_slope t * (n + s) ≤ divisor_top t decades = omega (arith, ap (λ (z : ℕ). divisor_slope t * z) is, g.large) in
      past i j x y (D t decades (n + s)) (A t decades d) (B t n) (divisor_slope t * s) (dividend_slope t * s)
      (subst (λ (z : ℕ). Plain i j z (A t decades d) (B t n)) (further_d t n s k) f.in_numbers)
      (subst (λ (z : ℕ). Plain x y (D t decades (n + s)) (A t decades d) z) (further_b t n s) (subst (λ (z : ℕ). Plain x y (D t decades z) (A t decades d) (B t z)) is g.in_numbers))
      f.not_below
      (omega (arith, lost t s few, g.large, ap (λ (z : ℕ). divisor_slope t * z) is))

  apart_before : (s : ℕ) → n ≡ m + s → s ≤ 64 → i + y ≤ j + x + 1
  apart_before s is few =
      let k : divisor_slope t * (m + s) ≤ divisor_top t decades = omega (arith, ap (λ (z : ℕ). divisor_slope t * z) is, f.large) in
      before i j x y (D t decades (m + s)) (A t decades d) (B t m) (divisor_slope t * s) (dividend_slope t * s)
      (subst (λ (z : ℕ). Plain i j (D t decades (m + s)) (A t decades d) z) (further_b t m s) (subst (λ (z : ℕ). Plain i j (D t decades z) (A t decades d) (B t z)) is f.in_numbers))
      (subst (λ (z : ℕ). Plain x y z (A t decades d) (B t m)) (further_d t m s k) g.in_numbers)
      g.not_above
      (omega (arith, lost t s few, f.large, ap (λ (z : ℕ). divisor_slope t * z) is))

  one_apart : n ≤ m + 64 → m ≤ n + 64 → i + y ≤ j + x + 1
  one_apart a b = by_order n m (λ l. apart_past (m - n) (omega arith) (omega arith)) (λ l. apart_before (n - m) (omega arith) (omega arith))

-- ---- any two right constants

-- a lower numerator is at most 64 above another, since it is not above the other's upper one
close : (t : Temperature) (v d : ℕ) (c e : Constant) (f : RightFound t v d c) (g : RightFound t v d e) → (b t v d c f).n ≤ (b t v d e g).n + 64
close t v d c e f g =
    let p = b t v d c f in
    let q = b t v d e g in
    le_trans (exponents_le 10 p.n q.m (omega arith) (le_trans p.below q.above)) q.close

pub left_free : LeftFree
left_free = record { least = not_under; most = not_over; constants = one; fractions = few }
  where
    not_under : (t : Temperature) (v d : ℕ) (c : Constant) → RightFound t v d c → negsuc 904 ≤ℤ c.thousandths
    not_under t v d c r =
        let w = in_whole_numbers t v d c r in
        subst (λ (z : ℤ). negsuc 904 ≤ℤ z) (sym w.k_is) (sub_le 0 905 (k t v d c r).i (k t v d c r).j (omega (arith, w.not_below)))

    not_over : (t : Temperature) (v d : ℕ) (c : Constant) → RightFound t v d c → c.thousandths ≤ℤ pos 2592
    not_over t v d c r =
        let w = in_whole_numbers t v d c r in
        subst (λ (z : ℤ). z ≤ℤ pos 2592) (sym w.k_is) (sub_le (k t v d c r).i (k t v d c r).j 2592 0 (omega (arith, w.not_above)))

    one : (t : Temperature) (v d : ℕ) (c e : Constant) → RightFound t v d c → RightFound t v d e → c.thousandths ≤ℤ (e.thousandths +ℤ pos 1)
    one t v d c e f g =
        let w = in_whole_numbers t v d c f in
        let u = in_whole_numbers t v d e g in
        let l = one_apart t d c e _ (k t v d c f).i (k t v d c f).j _ (k t v d e g).i (k t v d e g).j w u (close t v d c e f g) (close t v d e c g f) in
        subst₂ ◌≤ℤ◌ (sym w.k_is) (sym (ap (λ (z : ℤ). z +ℤ pos 1) u.k_is ∙ sub_plus (k t v d e g).i (k t v d e g).j 1))
        (sub_le (k t v d c f).i (k t v d c f).j ((k t v d e g).i + 1) (k t v d e g).j (omega (arith, l)))

    few : (t : Temperature) (v d : ℕ) (c e : Constant) → RightFound t v d c → RightFound t v d e → c.lower ≤ℤ (e.lower +ℤ pos 64)
    few t v d c e f g =
        let w = in_whole_numbers t v d c f in
        let u = in_whole_numbers t v d e g in
        subst₂ ◌≤ℤ◌ (sym w.lower_is) (sym (ap (λ (z : ℤ). z +ℤ pos 64) u.lower_is ∙ sub_plus (b t v d e g).n from 64))
        (sub_le (b t v d c f).n from ((b t v d e g).n + 64) from (omega (arith, close t v d c e f g)))
