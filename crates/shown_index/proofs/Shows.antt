-- The two tests on logarithms: what they say as inequalities, how they follow each other, what they show by whole powers, and what trying k says by
-- them.
use Prim.Native.Nat.{ℕ, ◌+◌, ◌*◌, ◌-◌, ◌^◌, ◌≤◌, ◌<◌}
use mathlib.Core.Path.{◌≡◌, sym, ap, subst}
use mathlib.Core.Bool.{true, false}
use mathlib.Core.Logic.{⊎_elim}
use native.Mathlib.Omega.{arith}
use native.Mathlib.Nat.{eq-or-lt_of_le}
use borrow.Author.Tests.{leb-true, leb-false, le-leb, lt-leb}
use Rattle.laws.proofs.Powers.{pow_one, pow_mul}
use Rattle.logarithm.specs.Scale.{scale, scale_number, width, log10, log10000000}
use Rattle.logarithm.specs.Log2.{log2_of}
use Rattle.logarithm.proofs.Log2.{log2_enclosed}
use Rattle.logarithm.proofs.FromLogarithms.{logs_le, one_below}
use Rattle.logarithm.proofs.Fractions.{power_below, power_above}
use Rattle.shown_index.specs.declared.search.Trial.TheVariants as trial
use Rattle.logarithm.specs.Fractions.{Q, Q_is, Q_number}
use Rattle.shown_index.specs.Terms.{c, least_index, most_index}
use Rattle.shown_index.specs.Preconditions.{least_r, most_r, LogOfC}
use Rattle.shown_index.specs.ChosenIndex.{most_lower, shows_least, shows_most, trial_of}
use Rattle.logarithm.proofs.Constants.{ten_million, one_two_eight_above}
use Rattle.shown_index.proofs.Growth.{apart, c_range, c_apart}

-- ---- the logarithm of c, where the code looks at it

-- half an index below the least and below the greatest, in hundredths
abbrev pub below_least : ℕ
below_least = 100 * least_index - 50

abbrev pub below_most : ℕ
below_most = 100 * most_index - 50

pub log_of_c : (r : ℕ) → 100 * least_index + 50 ≤ r → r ≤ 100 * most_index + 50 → LogOfC (log2_of (c r))
log_of_c r l h =
    let e = log2_enclosed (c r) (c_range r (omega arith) (omega arith)) in
    let g = apart 10000000 (c r) log10000000 (log2_of (c r) + width) (omega arith) (omega arith) (omega arith) ten_million.below e.above in
    let m = logs_le scale 1 1 (c r) 1 10000000 128 (log2_of (c r)) 0 (log10000000 + 1) (7 * scale_number) e.below (one_below scale) ten_million.above
    one_two_eight_above (rw (pow_one (c r)) (omega arith)) in
    record { more = omega arith; most = omega arith }

-- ---- the tests as inequalities

pub least_true : (p r : ℕ) → shows_least p r ≡ true → (log2_of (c r) + width) * Q_number ≤ log10 * p + log10000000 * Q_number
unfolding shows_least
least_true p r e = leb-true _ _ e

pub least_false : (p r : ℕ) → shows_least p r ≡ false → log10 * p + log10000000 * Q_number < (log2_of (c r) + width) * Q_number
unfolding shows_least
least_false p r e = leb-false _ _ e

pub true_least : (p r : ℕ) → (log2_of (c r) + width) * Q_number ≤ log10 * p + log10000000 * Q_number → shows_least p r ≡ true
unfolding shows_least
true_least p r h = le-leb _ _ h

pub false_least : (p r : ℕ) → log10 * p + log10000000 * Q_number < (log2_of (c r) + width) * Q_number → shows_least p r ≡ false
unfolding shows_least
false_least p r h = lt-leb _ _ h

pub most_true : (P r : ℕ) → shows_most P r ≡ true → (log10 + 1) * P + (log10000000 + 1) * Q_number ≤ log2_of (c r) * Q_number
unfolding shows_most
most_true P r e = leb-true _ _ e

pub most_false : (P r : ℕ) → shows_most P r ≡ false → log2_of (c r) * Q_number < (log10 + 1) * P + (log10000000 + 1) * Q_number
unfolding shows_most
most_false P r e = leb-false _ _ e

pub true_most : (P r : ℕ) → (log10 + 1) * P + (log10000000 + 1) * Q_number ≤ log2_of (c r) * Q_number → shows_most P r ≡ true
unfolding shows_most
true_most P r h = le-leb _ _ h

-- ---- what trying k says, where k is settled

pub trial_settled :
    (k p P : ℕ) → shows_least p (100 * k + 50) ≡ false → shows_least p (100 * k - 50) ≡ true → shows_most P (100 * k + 50) ≡ true
    → trial_of k p P ≡ trial.Settled
unfolding trial_of
trial_settled k p P a b d = rw (a, b, d)

-- ---- a greater p shows a smaller index too, and a smaller P shows the same

c_in_order : (r s : ℕ) → least_r ≤ r → r ≤ s → s ≤ most_r → log2_of (c r) ≤ log2_of (c s)
c_in_order r s l h m =
    ⊎_elim (λ (e : r ≡ s). let f : log2_of (c r) ≡ log2_of (c s) = ap (λ (n : ℕ). log2_of (c n)) e in omega arith)
    (λ (a : r < s). omega (arith, c_apart r s l a m))
    (eq-or-lt_of_le h)

pub least_easier : (p q r s : ℕ) → q ≤ p → least_r ≤ r → r ≤ s → s ≤ most_r → shows_least q s ≡ true → shows_least p r ≡ true
least_easier p q r s l a h m e = true_least p r (omega (arith, least_true q s e, c_in_order r s a h m))

pub most_easier : (P R r : ℕ) → R ≤ P → shows_most P r ≡ true → shows_most R r ≡ true
most_easier P R r l e = true_most R r (omega (arith, most_true P r e))

-- ---- what they show

seven : 10000000 ^ Q ≡ 10 ^ (7 * Q)
seven = sym (pow_mul 10 7 Q)

pub least_shows : (p r : ℕ) → least_r ≤ r → r ≤ most_r → shows_least p r ≡ true → c r ^ Q ≤ 10 ^ p * 10 ^ (7 * Q)
least_shows p r l h e =
    let t = least_true p r e in
    subst (λ (k : ℕ). c r ^ Q ≤ 10 ^ p * k) seven
    (power_above p Q (c r) 10000000 (log2_of (c r) + width) log10000000 (log2_enclosed (c r) (c_range r l h)).above ten_million.below
    (rw Q_is (omega arith)))

pub most_shows : (P r : ℕ) → least_r ≤ r → r ≤ most_r → shows_most P r ≡ true → 10 ^ P * 10 ^ (7 * Q) ≤ c r ^ Q
most_shows P r l h e =
    let t = most_true P r e in
    subst (λ (k : ℕ). 10 ^ P * k ≤ c r ^ Q) seven
    (power_below P Q (c r) 10000000 (log2_of (c r)) (log10000000 + 1) (log2_enclosed (c r) (c_range r l h)).below ten_million.above
    (rw Q_is (omega arith)))

-- ---- beside a half: where p does not show at least r + 1 and P does not show at most r + 1, p shows at least r and P at most r + 2

module _ (p P r : ℕ) (few : p ≤ most_lower) (next : P ≤ p + 2) (low : least_r ≤ r) (high : r ≤ 100 * most_index)
    (l : shows_least p (r + 1) ≡ false) (g : shows_most P (r + 1) ≡ false) where
  pub beside_least : shows_least p r ≡ true
  beside_least = true_least p r (omega (arith, c_apart r (r + 1) low (omega arith) (omega arith), most_false P (r + 1) g))

  pub beside_most : shows_most P (r + 2) ≡ true
  beside_most = true_most P (r + 2) (omega (arith, c_apart (r + 1) (r + 2) (omega arith) (omega arith) (omega arith), least_false p (r + 1) l))
