-- The search for k by halving: it keeps "shown below, not shown above", and ends at the one k of which at least 100·k − 50 is shown and at
-- least 100·k + 50 is not. Any other way of finding such a k finds the same.
use Prim.Native.Nat.{ℕ, zero, suc, ◌+◌, ◌*◌, ◌-◌, ◌/◌, ◌^◌, ◌≤◌, ◌<◌}
use mathlib.Core.Path.{◌≡◌, refl, sym, ◌∙◌, ap, subst}
use mathlib.Core.Bool.{Bool, true, false, cond}
use native.Mathlib.Omega.{arith}
use native.Mathlib.Nat.{pow-suc, le_trans, le_of_eq, mul_comm, mul-le-mul_right, pow-le-pow_left}
use lib.Dec.{lit≤}
use lib.Pow.{pow-add}
use Rattle.laws.proofs.Order.{by_order}
use Rattle.laws.proofs.Powers.{mul_pow, pow_mul, pow_swap, exponents_le}
use Rattle.logarithm.specs.Scale.{scale, scale_is, width, log10, log10000000}
use Rattle.logarithm.specs.Log2.{log2_of}
use Rattle.logarithm.proofs.Log2.{log2_enclosed}
use Rattle.shown_index.specs.declared.Mark.TheVariants as mark
use Rattle.shown_index.specs.declared.search.Trial.TheVariants as trial
use Rattle.shown_index.specs.Terms.{c, least_index, most_index}
use Rattle.laws.proofs.Contradiction.{impossible, both_ways}
use Rattle.shown_index.specs.ChosenIndex.{most_lower, shows_least, shows_most, search_of, whole_of, made, marked_of, trial_of, chosen_index}
use Rattle.logarithm.proofs.Constants.{ten, ten_million}
use Rattle.shown_index.proofs.Growth.{growth, apart, c_range}
use Rattle.shown_index.proofs.Shows.{true_least, false_least, least_easier, below_least, below_most}

pub record Bracket (p lo hi : ℕ) : Type 0 where
  pub order : lo < hi
  pub least : least_index ≤ lo
  pub most : hi ≤ most_index
  pub shown : shows_least p (100 * lo - 50) ≡ true
  pub not_shown : shows_least p (100 * hi - 50) ≡ false

-- ---- the start: every p shows at least 99.50, since c is below 10^7 there, and no p shows at least 9,999.50

log_below_least : growth + log2_of (c below_least) ≤ log10000000 + 1
log_below_least = apart (c below_least) 10000000 (log2_of (c below_least)) (log10000000 + 1) (omega arith) (omega arith) (omega arith) (log2_enclosed (c below_least) (c_range below_least (omega arith) (omega arith))).below ten_million.above

-- a lower logarithm of x and an upper one of z, scaled by S, where twice the n-th power of x is at most the k-th power of z
twice_below : (S l x n z k B : ℕ) → 2 ^ l ≤ x ^ S → z ^ S ≤ 2 ^ B → 2 * x ^ n ≤ z ^ k → l * n + S ≤ B * k
twice_below S l x n z k B hx hz h =
    exponents_le 2 (l * n + S) (B * k) (omega arith)
    (le_trans (le_of_eq (pow-add 2 (l * n) S ∙ ap (λ (m : ℕ). m * 2 ^ S) (pow_mul 2 l n)))
    (le_trans (mul-le-mul_right (2 ^ S) (pow-le-pow_left hx n))
    (le_trans (le_of_eq (ap (λ (m : ℕ). m * 2 ^ S) (pow_swap x S n) ∙ mul_comm ((x ^ n) ^ S) (2 ^ S) ∙ sym (mul_pow 2 (x ^ n) S)))
    (le_trans (pow-le-pow_left h S)
    (le_trans (le_of_eq (pow_swap z k S)) (le_trans (pow-le-pow_left hz k) (le_of_eq (sym (pow_mul 2 B k)))))))))

-- c(999,950)^18 is at least 2·10^159, and 159/18 is 11/6 + 7
log_below_most : log10 * 159 + scale ≤ (log2_of (c below_most) + width) * 18
log_below_most =
    twice_below scale log10 10 159 (c below_most) 18 (log2_of (c below_most) + width) ten.below
    (log2_enclosed (c below_most) (c_range below_most (omega arith) (omega arith))).above (lit≤ tt)

pub hundred_shown : (p r : ℕ) → r ≡ below_least → shows_least p r ≡ true
hundred_shown p r e = rw e (true_least p below_least (omega (arith, log_below_least)))

pub greatest_not_shown : (p r : ℕ) → p ≤ most_lower → r ≡ below_most → shows_least p r ≡ false
greatest_not_shown p r h e = rw e (false_least p below_most (omega (arith, log_below_most, scale_is)))

pub bracket_start : (p : ℕ) → p ≤ most_lower → Bracket p least_index most_index
bracket_start p h =
    record {
      order = omega arith;
      least = omega arith;
      most = omega arith;
      shown = hundred_shown p below_least refl;
      not_shown = greatest_not_shown p below_most h refl;
    }

-- ---- one halving

module _ (p lo hi : ℕ) (b : Bracket p lo hi) (wide : lo + 1 < hi) where
  pub bracket_up : shows_least p (100 * ((lo + hi) / 2) - 50) ≡ true → Bracket p ((lo + hi) / 2) hi
  bracket_up e = record { order = omega arith; least = omega (arith, b.least); most = b.most; shown = e; not_shown = b.not_shown }

  pub bracket_down : shows_least p (100 * ((lo + hi) / 2) - 50) ≡ false → Bracket p lo ((lo + hi) / 2)
  bracket_down e = record { order = omega arith; least = b.least; most = omega (arith, b.most); shown = b.shown; not_shown = e }

-- ---- no greater k for a smaller p

pub no_more : (p q k n : ℕ) → q ≤ p → Bracket p k (k + 1) → Bracket q n (n + 1) → n ≤ k
no_more p q k n l a b =
    by_order k n
    (λ m. both_ways (least_easier p q (100 * (k + 1) - 50) (100 * n - 50) l (omega (arith, a.least)) (omega arith) (omega (arith, b.most)) b.shown) a.not_shown)
    (λ m. m)

-- ---- f halvings of at most 2^f candidates

halved : (lo hi f : ℕ) → hi ≤ lo + 2 ^ suc f → (hi ≤ (lo + hi) / 2 + 2 ^ f) × ((lo + hi) / 2 ≤ lo + 2 ^ f)
halved lo hi f h = (omega (arith, pow-suc 2 f), omega (arith, pow-suc 2 f))

-- where only one candidate is left, more halvings keep it
stays : (f p lo : ℕ) → Bracket p lo (lo + 1) → search_of f p lo (lo + 1) ≡ lo
unfolding search_of
stays zero p lo b = refl
stays (suc f) p lo b =
    let m : (lo + (lo + 1)) / 2 ≡ lo = omega arith in
    rw m (rw b.shown (stays f p lo b))

pub search_law : (f p lo hi : ℕ) → Bracket p lo hi → hi ≤ lo + 2 ^ f → Bracket p (search_of f p lo hi) (search_of f p lo hi + 1)
unfolding search_of
search_law zero p lo hi b h =
    let e : hi ≡ lo + 1 = omega (arith, b.order) in
    subst (λ (k : ℕ). Bracket p lo k) e b
search_law (suc f) p lo hi b h =
    by_order (lo + 1) hi
    (λ wide. halve_once (shows_least p (100 * ((lo + hi) / 2) - 50)) refl wide (search_law f p ((lo + hi) / 2) hi) (search_law f p lo ((lo + hi) / 2)))
    (λ one. let e : hi ≡ lo + 1 = omega (arith, b.order) in
    let d : Bracket p lo (lo + 1) = subst (λ (k : ℕ). Bracket p lo k) e b in
    let s : search_of (suc f) p lo hi ≡ lo = ap (search_of (suc f) p lo) e ∙ stays (suc f) p lo d in
    subst (λ (k : ℕ). Bracket p k (k + 1)) (sym s) d)
  where
    halve : Bool → ℕ
    halve t = cond t (search_of f p ((lo + hi) / 2) hi) (search_of f p lo ((lo + hi) / 2))

    halve_once : (t : Bool) → shows_least p (100 * ((lo + hi) / 2) - 50) ≡ t → lo + 1 < hi
        → (Bracket p ((lo + hi) / 2) hi → hi ≤ (lo + hi) / 2 + 2 ^ f → Bracket p (search_of f p ((lo + hi) / 2) hi) (search_of f p ((lo + hi) / 2) hi + 1))
        → (Bracket p lo ((lo + hi) / 2) → (lo + hi) / 2 ≤ lo + 2 ^ f → Bracket p (search_of f p lo ((lo + hi) / 2)) (search_of f p lo ((lo + hi) / 2) + 1))
        → Bracket p (halve t) (halve t + 1)
    halve_once true e wide up down = up (bracket_up p lo hi b wide e) (halved lo hi f h).0
    halve_once false e wide up down = down (bracket_down p lo hi b wide e) (halved lo hi f h).1

pub whole : (p : ℕ) → p ≤ most_lower → Bracket p (whole_of p) (whole_of p + 1)
unfolding whole_of
whole p h = search_law 14 p least_index most_index (bracket_start p h) (lit≤ tt)

-- only one k has that bracket, so that whatever finds one finds this one
pub only_one : (p k : ℕ) → p ≤ most_lower → Bracket p k (k + 1) → k ≡ whole_of p
only_one p k h b =
    omega (arith, no_more p p (whole_of p) k (omega arith) (whole p h) b, no_more p p k (whole_of p) (omega arith) b (whole p h))

-- ---- what trying k shows, where it finds the index

pub record Tried (k p P : ℕ) (most : Bool) : Type 0 where
  pub bracket : Bracket p k (k + 1)
  pub marked : shows_most P (100 * k + 50) ≡ most

-- the three tests behind a trial that finds the index, settled or near
trial_tests :
    (a b d m : Bool) → cond a trial.Higher (cond b (cond d trial.Settled trial.Near) trial.Lower) ≡ cond m trial.Settled trial.Near
    → (a ≡ false) × (b ≡ true) × (d ≡ m)
trial_tests true b d true e = impossible cc
trial_tests true b d false e = impossible cc
trial_tests false true true true e = (refl, refl, refl)
trial_tests false true true false e = impossible cc
trial_tests false true false true e = impossible cc
trial_tests false true false false e = (refl, refl, refl)
trial_tests false false d true e = impossible cc
trial_tests false false d false e = impossible cc

module _ (k p P : ℕ) (least : least_index ≤ k) (most : k < most_index) where
  between : shows_least p (100 * k + 50) ≡ false → shows_least p (100 * k - 50) ≡ true → Bracket p k (k + 1)
  between a b =
      let e : 100 * k + 50 ≡ 100 * (k + 1) - 50 = omega arith in
      record { order = omega arith; least = least; most = omega arith; shown = b; not_shown = subst (λ (r : ℕ). shows_least p r ≡ false) e a }

  pub tried : (m : Bool) → trial_of k p P ≡ cond m trial.Settled trial.Near → Tried k p P m
  unfolding trial_of
  tried m e =
      let t = trial_tests (shows_least p (100 * k + 50)) (shows_least p (100 * k - 50)) (shows_most P (100 * k + 50)) m e in
      record { bracket = between t.0 t.1; marked = t.2 }

-- ---- the mark

pub marked_settled : (k p P : ℕ) → shows_most P (100 * k + 50) ≡ true → marked_of k p P ≡ made k mark.Settled p P
unfolding marked_of
marked_settled k p P e = rw e

pub marked_near : (k p P : ℕ) → shows_most P (100 * k + 50) ≡ false → marked_of k p P ≡ made (k + 1) mark.Near p P
unfolding marked_of
marked_near k p P e = rw e

-- a k that a trial finds is the one that the search would find
module _ (k p P : ℕ) (least : least_index ≤ k) (most : k < most_index) (few : p ≤ most_lower) where
  pub settled_chosen : trial_of k p P ≡ trial.Settled → made k mark.Settled p P ≡ chosen_index p P
  settled_chosen e =
      let t = tried k p P least most true e in
      sym (marked_settled k p P t.marked) ∙ ap (λ (n : ℕ). marked_of n p P) (only_one p k few t.bracket)

  pub near_chosen : trial_of k p P ≡ trial.Near → made (k + 1) mark.Near p P ≡ chosen_index p P
  near_chosen e =
      let t = tried k p P least most false e in
      sym (marked_near k p P t.marked) ∙ ap (λ (n : ℕ). marked_of n p P) (only_one p k few t.bracket)
