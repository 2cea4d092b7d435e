-- The two numerators from the logarithms of y, U and H: p / Q is at or below N and P / Q at or above it, shown by whole powers; P is p + 1 or
-- p + 2, and p is at most 11/6 of Q. Neither falls as the logarithm of H rises or those of y and U fall.
use Prim.Native.Nat.{ℕ, ◌+◌, ◌*◌, ◌-◌, ◌^◌, ◌≤◌, ◌<◌}
use mathlib.Core.Path.{◌≡◌, refl, sym, ap, subst}
use native.Mathlib.Omega.{arith}
use native.Mathlib.Nat.{mul-le-mul_left, le_of_mul-le-mul_right, div-mul-le_self, lt-div-mul-add, zero-div, pow-zero, pow-le-pow_left}
use borrow.Author.Tests.{le-leb, lt-leb}
use Rattle.laws.proofs.Order.{by_order, quotient_le}
use Rattle.laws.proofs.Powers.{ring}
use Rattle.logarithm.specs.Scale.{scale, scale_number, width, log1000}
use Rattle.logarithm.specs.Log2.{Enclosed}
use Rattle.logarithm.proofs.FromLogarithms.{powers_le, scale_positive}
use Rattle.logarithm.specs.Fractions.{Q, Q_is, Q_number}
use Rattle.shown_index.specs.ChosenIndex.{most_lower}
use Rattle.index.specs.Preconditions.{InBounds}
use Rattle.index.specs.ChosenFractions.{lower_from, upper_from}
use Rattle.logarithm.proofs.Constants.{thousand}

-- what is known of the logarithms of an oil below H
pub record Logarithms (y U H ly lU lH : ℕ) : Type 0 where
  pub y_is : Enclosed y ly
  pub units_is : Enclosed U lU
  pub h_at_is : Enclosed H lH
  pub below : U ≤ H
  pub order : lU ≤ lH
  -- Y is at least 2
  pub least : log1000 + scale_number ≤ ly + width
  -- H/U is at most 128
  pub close : lH ≤ lU + width + 7 * scale_number
  -- (H/U)^6 is at most Y^11
  pub range : 6 * lH + 11 * log1000 ≤ 6 * (lU + width) + 11 * (ly + width)

-- ---- with the logarithms as plain numbers

few_algebra : (K p w D : ℕ) → 0 < w → p * w ≤ K * D → 6 * D ≤ 11 * w → 6 * p ≤ 11 * K
few_algebra K p w D z h l =
    le_of_mul-le-mul_right {k = w} (simp ring (omega (arith, h, simp ring at (mul-le-mul_left K l)))) z

-- K·D' ≤ (p + 2)·e, where K·D < (p + 1)·(e + s), D' ≤ D + g and what the two sides differ by is at most e
upper_algebra : (K p e s D D' g : ℕ) → D' ≤ D + g → K * D < p * (e + s) + (e + s) → p * s + s + K * g ≤ e → K * D' ≤ (p + 2) * e
upper_algebra K p e s D D' g d l w = simp ring (omega (arith, simp ring at (mul-le-mul_left K d), simp ring at l, w))

lower_sum : (p v ly lU lH : ℕ) → p * v ≤ Q_number * (lH - (lU + width)) → lU + width ≤ lH → ly + width ≡ v + log1000
    → (ly + width) * p + (lU + width) * Q_number ≤ log1000 * p + lH * Q_number
lower_sum p v ly lU lH h l e =
    let q : (ly + width) * p ≡ (v + log1000) * p = ap (λ (k : ℕ). k * p) e in
    simp ring (omega (arith, simp ring at q, h))

upper_sum : (P v ly lU lH : ℕ) → Q_number * (lH + width - lU) ≤ P * v → lU ≤ lH → ly ≡ v + (log1000 + 1)
    → (log1000 + 1) * P + (lH + width) * Q_number ≤ ly * P + lU * Q_number
upper_sum P v ly lU lH h o e =
    let q : ly * P ≡ (v + (log1000 + 1)) * P = ap (λ (k : ℕ). k * P) e in
    simp ring (omega (arith, simp ring at q, h))

-- P is p + 1 or p + 2
pub upper_cases : {R : Type 0} (ly lU lH p : ℕ) →
    (Q_number * (lH + width - lU) ≤ (p + 1) * (ly - (log1000 + 1)) → upper_from ly lU lH p ≡ p + 1 → R)
    → ((p + 1) * (ly - (log1000 + 1)) < Q_number * (lH + width - lU) → upper_from ly lU lH p ≡ p + 2 → R) → R
unfolding upper_from
upper_cases ly lU lH p f g =
    by_order ((p + 1) * (ly - (log1000 + 1))) (Q_number * (lH + width - lU))
    (λ a. g a (rw (lt-leb _ _ a) refl))
    (λ b. f b (rw (le-leb _ _ b) refl))

-- ---- which way they go: neither rises as the logarithm of y or of U does, or as that of H falls

module _ (ly lU lH ky kU kH : ℕ) (y : ly ≤ ky) (u : lU ≤ kU) (h : kH ≤ lH) where
  pub lower_falls : log1000 < ly + width → lower_from ky kU kH ≤ lower_from ly lU lH
  unfolding lower_from
  lower_falls some = quotient_le _ _ (ly + width - log1000) (ky + width - log1000) (mul-le-mul_left Q_number (omega arith)) (omega arith) (omega arith)

  pub upper_falls : (p q : ℕ) → q ≤ p → upper_from ky kU kH q ≤ upper_from ly lU lH p
  upper_falls p q l =
      let goal : Q_number * (kH + width - kU) ≤ Q_number * (lH + width - lU) = mul-le-mul_left Q_number (omega arith) in
      let longer : (p + 1) * (ly - (log1000 + 1)) ≤ (p + 1) * (ky - (log1000 + 1)) = mul-le-mul_left (p + 1) (omega arith) in
      upper_cases ly lU lH p
      (λ a e. upper_cases ky kU kH q (λ b f. omega arith)
      (λ b f. by_order q p (λ m. omega arith)
      (λ m. let same : (q + 1) * (ky - (log1000 + 1)) ≡ (p + 1) * (ky - (log1000 + 1)) = ap (λ (n : ℕ). (n + 1) * (ky - (log1000 + 1))) (omega arith) in
      absurd (omega arith))))
      (λ a e. upper_cases ky kU kH q (λ b f. omega arith) (λ b f. omega arith))

-- ---- how large they get: for the code's arithmetic

pub lower_none : (ly lU lH : ℕ) → lH ≤ lU + width → lower_from ly lU lH ≡ 0
unfolding lower_from
lower_none ly lU lH l = let e : lH - (lU + width) ≡ 0 = omega arith in rw e (zero-div _)

small_algebra : (p d e K n s : ℕ) → p * d ≤ K * n → n ≤ 7 * s → s ≤ d → e ≤ d → 0 < s → (p ≤ 7 * K) × ((p + 1) * e ≤ K * (7 * s) + e)
small_algebra p d e K n s h l m g z =
    let a : p * s ≤ 7 * K * s = simp ring (omega (arith, mul-le-mul_left p m, simp ring at (mul-le-mul_left K l))) in
    (le_of_mul-le-mul_right a z, simp ring (omega (arith, mul-le-mul_left p g, simp ring at (mul-le-mul_left K l))))

pub lower_small : (ly lU lH : ℕ) → InBounds ly lU lH →
    (lower_from ly lU lH ≤ 7 * Q_number) × ((lower_from ly lU lH + 1) * (ly - (log1000 + 1)) ≤ Q_number * (7 * scale_number) + (ly - (log1000 + 1)))
unfolding lower_from
lower_small ly lU lH b =
    small_algebra _ (ly + width - log1000) (ly - (log1000 + 1)) Q_number (lH - (lU + width)) scale_number (div-mul-le_self _ _) (omega (arith, b.close)) (omega (arith, b.least)) (omega arith) (omega arith)

-- ---- what they show

module _ (y U H ly lU lH : ℕ) (o : Logarithms y U H ly lU lH) where
  pub in_bounds : InBounds ly lU lH
  in_bounds = record { least = o.least; most = o.y_is.small; order = o.order; close = o.close; small = o.h_at_is.small }

  floor : lower_from ly lU lH * (ly + width - log1000) ≤ Q_number * (lH - (lU + width))
  unfolding lower_from
  floor = div-mul-le_self _ _

  not_floor : Q_number * (lH - (lU + width)) < lower_from ly lU lH * (ly + width - log1000) + (ly + width - log1000)
  unfolding lower_from
  not_floor = lt-div-mul-add (omega (arith, o.least))

  pub few : lower_from ly lU lH ≤ most_lower
  few =
      let r : 6 * lower_from ly lU lH ≤ 11 * Q_number =
      few_algebra Q_number (lower_from ly lU lH) (ly + width - log1000) (lH - (lU + width)) (omega (arith, o.least)) floor (omega (arith, o.range, o.least)) in
      omega arith

  pub lower_shows : y ^ lower_from ly lU lH * U ^ Q ≤ 1000 ^ lower_from ly lU lH * H ^ Q
  lower_shows =
      by_order lH (lU + width)
      (λ l. rw (lower_none ly lU lH (omega arith), pow-zero y, pow-zero 1000) (mul-le-mul_left 1 (pow-le-pow_left o.below Q)))
      (λ l. let s = lower_sum (lower_from ly lU lH) (ly + width - log1000) ly lU lH floor l (omega (arith, o.least)) in
      powers_le scale (lower_from ly lU lH) Q y U 1000 H (ly + width) (lU + width) log1000 lH scale_positive
      o.y_is.above o.units_is.above thousand.below o.h_at_is.below (rw Q_is s))

  enough : Q_number * (lH + width - lU) ≤ (lower_from ly lU lH + 2) * (ly - (log1000 + 1))
  enough =
      let e : ly + width - log1000 ≡ ly - (log1000 + 1) + (width + 1) = omega (arith, o.least) in
      upper_algebra Q_number (lower_from ly lU lH) (ly - (log1000 + 1)) (width + 1) (lH - (lU + width)) (lH + width - lU) (2 * width)
      (omega arith)
      (subst (λ (w : ℕ). Q_number * (lH - (lU + width)) < lower_from ly lU lH * w + w) e not_floor)
      (omega (arith, few, o.least))

  -- P is p + 1 or p + 2, and P times the logarithm of Y at its least reaches Q times the logarithm of H/U at its greatest
  pub record Upper (P : ℕ) : Type 0 where
    pub more : lower_from ly lU lH < P
    pub most : P ≤ lower_from ly lU lH + 2
    pub reaches : Q_number * (lH + width - lU) ≤ P * (ly - (log1000 + 1))

  pub upper : Upper (upper_from ly lU lH (lower_from ly lU lH))
  upper =
      upper_cases ly lU lH (lower_from ly lU lH)
      (λ b e. subst Upper (sym e) (record { more = omega arith; most = omega arith; reaches = b }))
      (λ a e. subst Upper (sym e) (record { more = omega arith; most = omega arith; reaches = enough }))

  pub upper_shows : (P : ℕ) → Upper P → 1000 ^ P * H ^ Q ≤ y ^ P * U ^ Q
  upper_shows P v =
      let s = upper_sum P (ly - (log1000 + 1)) ly lU lH v.reaches o.order (omega (arith, o.least)) in
      powers_le scale P Q 1000 H y U (log1000 + 1) (lH + width) ly lU scale_positive
      thousand.above o.h_at_is.above o.y_is.below o.units_is.below (rw Q_is s)
