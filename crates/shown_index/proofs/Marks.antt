-- What the chosen mark says is shown by p and P; and a smaller p and a smaller P give no greater index.
use Prim.Native.Nat.{ℕ, ◌+◌, ◌*◌, ◌-◌, ◌^◌, ◌≤◌, ◌<◌}
use mathlib.Core.Path.{◌≡◌, refl, sym, subst}
use mathlib.Core.Bool.{Bool, true, false, cond}
use native.Mathlib.Omega.{arith}
use Rattle.laws.proofs.Contradiction.{both_ways}
use Rattle.laws.proofs.Order.{by_order}
use Rattle.shown_index.specs.declared.Mark.TheVariants as mark
use Rattle.shown_index.specs.declared.search.Trial.TheVariants as trial
use Rattle.shown_index.specs.declared.ByB.{ByB}
use Rattle.shown_index.specs.Preconditions.{least_r}
use Rattle.logarithm.specs.Fractions.{Q}
use Rattle.shown_index.specs.Terms.{c, least_index, most_index}
use Rattle.shown_index.specs.RightIndex.{IndexBetween, RightIndex}
use Rattle.shown_index.specs.ChosenIndex.{most_lower, shows_least, shows_most, whole_of, made, marked_of, chosen_index, trial_of}
use Rattle.shown_index.proofs.Shows.{least_shows, most_shows, beside_least, beside_most, most_easier}
use Rattle.shown_index.proofs.Halving.{Bracket, no_more, whole, settled_chosen}

-- ---- the mark is right, for a k found for p

module _ (p P k : ℕ) (few : p ≤ most_lower) (next : P ≤ p + 2) (b : Bracket p k (k + 1)) where
  settled : shows_most P (100 * k + 50) ≡ true → IndexBetween (100 * k - 50) (100 * k + 50) p P
  settled e =
      record {
        at_least = least_shows p (100 * k - 50) (omega (arith, b.least)) (omega (arith, b.most)) b.shown;
        at_most = most_shows P (100 * k + 50) (omega (arith, b.least)) (omega (arith, b.most)) e;
      }

  near : shows_most P (100 * k + 50) ≡ false → IndexBetween (100 * (k + 1) - 51) (100 * (k + 1) - 49) p P
  near e =
      let half : 100 * k + 50 ≡ 100 * k + 49 + 1 = omega arith in
      let same : 100 * (k + 1) - 50 ≡ 100 * k + 49 + 1 = omega arith in
      let l : shows_least p (100 * k + 49 + 1) ≡ false = subst (λ (r : ℕ). shows_least p r ≡ false) same b.not_shown in
      let g : shows_most P (100 * k + 49 + 1) ≡ false = subst (λ (r : ℕ). shows_most P r ≡ false) half e in
      let low : least_r ≤ 100 * k + 49 = omega (arith, b.least) in
      let high : 100 * k + 49 ≤ 100 * most_index = omega (arith, b.most) in
      let first : 100 * k + 49 ≡ 100 * (k + 1) - 51 = omega arith in
      let last : 100 * k + 49 + 2 ≡ 100 * (k + 1) - 49 = omega arith in
      record {
        at_least = subst (λ (r : ℕ). c r ^ Q ≤ 10 ^ p * 10 ^ (7 * Q)) first (least_shows p (100 * k + 49) low (omega arith) (beside_least p P (100 * k + 49) few next low high l g));
        at_most = subst (λ (r : ℕ). 10 ^ P * 10 ^ (7 * Q) ≤ c r ^ Q) last (most_shows P (100 * k + 49 + 2) (omega arith) (omega arith) (beside_most p P (100 * k + 49) few next low high l g));
      }

  marked_right : RightIndex (marked_of k p P)
  unfolding marked_of
  marked_right = go (shows_most P (100 * k + 50)) refl
    where
      go : (t : Bool) → shows_most P (100 * k + 50) ≡ t → RightIndex (cond t (made k mark.Settled p P) (made (k + 1) mark.Near p P))
      go true e = record { least = omega (arith, b.least); most = omega (arith, b.most); shown = settled e }
      go false e = record { least = omega (arith, b.least); most = omega (arith, b.most); shown = near e }

pub right_index : (p P : ℕ) → p ≤ most_lower → P ≤ p + 2 → RightIndex (chosen_index p P)
right_index p P few next = marked_right p P (whole_of p) few next (whole p few)

pub settled_right :
    (k p P : ℕ) → least_index ≤ k → k < most_index → p ≤ most_lower → P ≤ p + 2 → trial_of k p P ≡ trial.Settled
    → RightIndex (made k mark.Settled p P)
settled_right k p P least most few next e = subst RightIndex (sym (settled_chosen k p P least most few e)) (right_index p P few next)

-- ---- p and P are the record's, whatever the mark

pub numerators_kept : (p P : ℕ) → ((chosen_index p P).lower ≡ p) × ((chosen_index p P).upper ≡ P)
unfolding marked_of
numerators_kept p P = go (whole_of p) (shows_most P (100 * whole_of p + 50))
  where
    go : (k : ℕ) (t : Bool) → ((cond t (made k mark.Settled p P) (made (k + 1) mark.Near p P)).lower ≡ p) × ((cond t (made k mark.Settled p P) (made (k + 1) mark.Near p P)).upper ≡ P)
    go k true = (refl, refl)
    go k false = (refl, refl)

-- ---- a smaller p and a smaller P give no greater index

module _ (p q P R k n : ℕ) (l : q ≤ p) (h : R ≤ P) (a : Bracket p k (k + 1)) (b : Bracket q n (n + 1)) where
  less : n ≤ k
  less = no_more p q k n l a b

  marked_falls : (marked_of n q R).index ≤ (marked_of k p P).index
  unfolding marked_of
  marked_falls = go (shows_most P (100 * k + 50)) (shows_most R (100 * n + 50)) refl refl
    where
      marked : ℕ → ℕ → ℕ → Bool → ByB
      marked p P k t = cond t (made k mark.Settled p P) (made (k + 1) mark.Near p P)

      go : (t s : Bool) → shows_most P (100 * k + 50) ≡ t → shows_most R (100 * n + 50) ≡ s → (marked q R n s).index ≤ (marked p P k t).index
      go true true e f = less
      go true false e f =
          by_order n k (λ m. omega arith)
          (λ m. let same : n ≡ k = omega (arith, less) in
          both_ways (most_easier P R (100 * k + 50) h e) (subst (λ (j : ℕ). shows_most R (100 * j + 50) ≡ false) same f))
      go false true e f = omega (arith, less)
      go false false e f = omega (arith, less)

pub index_falls : (p q P R : ℕ) → p ≤ most_lower → q ≤ p → R ≤ P → (chosen_index q R).index ≤ (chosen_index p P).index
index_falls p q P R few l h = marked_falls p q P R (whole_of p) (whole_of q) l h (whole p few) (whole q (omega arith))
