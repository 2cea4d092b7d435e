-- The walk over a stretch of y: what was found is an index of the stretch, and no index before the next y is beyond it.
use Prim.Native.Nat.{ℕ, ◌+◌, ◌*◌, ◌-◌, ◌<◌, ◌≤◌}
use mathlib.Core.Path.{◌≡◌, sym, ◌∙◌, subst}
use mathlib.Core.Bool.{false}
use mathlib.Core.Logic.{◌⊎◌, inl, inr, ⊎_elim}
use native.Mathlib.Omega.{arith}
use lib.IntN.{ℤ}
use lib.Signed.{◌≤ℤ◌, ≤ℤ_refl}
use Rattle.std.specs.Prelude.{min}
use Rattle.std.proofs.Math.Nat.{min-le_right, min-eq_left, min-eq_right}
use Rattle.laws.proofs.Order.{by_order}
use Rattle.reference.specs.Basis.{last_row}
use Rattle.span.specs.declared.extreme.Extreme.{Extreme}
use Rattle.span.specs.declared.extreme.Extreme.TheVariants.{Least, Greatest}
use Rattle.span.specs.Extremes.{NotBeyond, of_two, is_beyond}
use Rattle.span.specs.Span.{index_at}
use Rattle.span.specs.Preconditions.{Stretch, InOnePart}
use Rattle.span.specs.Bound.{index_between, bound_of, end_of, first_of, last_of}
use Rattle.span.proofs.Extremes.{joins, two_first, two_second, two_is, two_kept}
use Rattle.span.proofs.Bounded.{between_same, bound_holds, bound_alone, passes_at}

lesser_some : (a b : ℕ) → 0 < a → 0 < b → 0 < min a b
lesser_some a b p q = by_order a b (λ l. omega (arith, min-eq_left {n = a} {m = b} (omega arith))) (λ l. omega (arith, min-eq_right {n = b} {m = a} l))

-- k is an index of the stretch
pub record AnIndex (u from to : ℕ) (k : ℤ) : Type 0 where
  pub at : ℕ
  pub first : from ≤ at
  pub last : at ≤ to
  pub is : index_at u at ≡ k

-- an index that was found, and the y that are left to look at, from `next` to `last`: beyond the other y no index is beyond what was found
pub record Walked (which : Extreme) (u from to last next width : ℕ) (found : ℤ) : Type 0 where
  pub index : AnIndex u from to found
  pub low : from ≤ next
  pub high : last ≤ to
  pub some : next ≤ last → 0 < width
  pub inside : next ≤ last → next + width ≤ last + 1
  pub none_beyond : (n : ℕ) → from ≤ n → n ≤ to → (n < next) ⊎ (last < n) → NotBeyond which found (index_at u n)

-- at the start all y but one end are left
pub starts : (which : Extreme) (u from to : ℕ) (k : ℤ) → Stretch u from to → k ≡ index_between u (end_of which from to) (end_of which from to)
    → Walked which u from to (last_of which to) (first_of which from) (to - from) k
starts Least u from to k s is =
    let e : k ≡ index_at u from = is ∙ between_same u from (passes_at u from to from s (omega arith) s.order) in
    record {
      index = record { at = from; first = omega arith; last = s.order; is = sym e };
      low = omega arith;
      high = omega arith;
      some = λ h. omega arith;
      inside = λ h. omega arith;
      none_beyond = λ n a b h. let same : from ≡ n = ⊎_elim (λ (i : n < from + 1). omega arith) (λ (i : to < n). absurd (omega arith)) h in
          subst (λ (m : ℕ). k ≤ℤ index_at u m) same (rw e (≤ℤ_refl _));
    }
starts Greatest u from to k s is =
    let e : k ≡ index_at u to = is ∙ between_same u to (passes_at u from to to s s.order (omega arith)) in
    record {
      index = record { at = to; first = s.order; last = omega arith; is = sym e };
      low = omega arith;
      high = omega arith;
      some = λ h. omega (arith, s.least);
      inside = λ h. omega (arith, s.least);
      none_beyond = λ n a b h. let same : to ≡ n = ⊎_elim (λ (i : n < from). absurd (omega arith)) (λ (i : to - 1 < n). omega (arith, s.least, s.order)) h in
          subst (λ (m : ℕ). index_at u m ≤ℤ k) same (rw e (≤ℤ_refl _));
    }

module _ (which : Extreme) (u from to last : ℕ) (s : Stretch u from to) (part : InOnePart from to) where
  module _ (next width : ℕ) (found : ℤ) (w : Walked which u from to last next width found) (more : next ≤ last) where
    stretch : Stretch u next (next + (width - 1))
    stretch =
        record {
          order = omega (arith, w.some more);
          narrow = omega (arith, s.narrow, w.low, w.high, w.inside more, w.some more);
          least = omega (arith, s.least, w.low);
          most = omega (arith, s.most, w.high, w.inside more, w.some more);
          thickest = s.thickest;
          thicker = omega (arith, s.thicker, w.high, w.inside more, w.some more);
        }

    part_of : InOnePart next (next + (width - 1))
    part_of = ⊎_elim (λ (h : to ≤ last_row). inl (omega (arith, w.high, w.inside more, w.some more))) (λ (h : last_row < from). inr (omega (arith, w.low))) part

    module _ (bound : ℤ) (is : bound ≡ bound_of which u next (next + (width - 1))) where
      -- what is found is an index still, and nothing in the stretch is beyond it
      none_more : (n : ℕ) → from ≤ n → n ≤ to → (n < next + width) ⊎ (last < n) → NotBeyond which (of_two which found bound) (index_at u n)
      none_more n a b h =
          by_order n next
          (λ i. joins which (of_two which found bound) found (index_at u n) (two_first which found bound) (w.none_beyond n a b (inl i)))
          (λ i. ⊎_elim
          (λ (j : n < next + width). joins which (of_two which found bound) bound (index_at u n) (two_second which found bound)
          (rw is (bound_holds which u next (next + (width - 1)) n stretch part_of i (omega (arith, w.some more)))))
          (λ (j : last < n). joins which (of_two which found bound) found (index_at u n) (two_first which found bound) (w.none_beyond n a b (inr j)))
          h)

      index_more : (is_beyond which bound found ≡ false) ⊎ (width ≤ 1) → AnIndex u from to (of_two which found bound)
      index_more (inl e) = subst (AnIndex u from to) (sym (two_kept which found bound e)) w.index
      index_more (inr l) =
          let one : width ≡ 1 = omega (arith, w.some more) in
          let alone : next + (width - 1) ≡ next = omega arith in
          let here : bound ≡ index_at u next = rw alone at is ∙ bound_alone which u next (passes_at u from to next s w.low (omega (arith, w.high))) in
          ⊎_elim
          (λ (e : of_two which found bound ≡ found). subst (AnIndex u from to) (sym e) w.index)
          (λ (e : of_two which found bound ≡ bound). record { at = next; first = w.low; last = omega (arith, w.high); is = sym (e ∙ here) })
          (two_is which found bound)

      pub passed : (is_beyond which bound found ≡ false) ⊎ (width ≤ 1) → (wider : ℕ) → wider ≡ min (2 * width) (last + 1 - (next + width))
          → Walked which u from to last (next + width) wider (of_two which found bound)
      passed e wider l =
          record {
            index = index_more e;
            low = omega (arith, w.low);
            high = w.high;
            some = λ m. omega (arith, l, lesser_some (2 * width) (last + 1 - (next + width)) (omega (arith, w.some more)) (omega arith));
            inside = λ m. rw l (omega (arith, min-le_right (2 * width) (last + 1 - (next + width))));
            none_beyond = none_more;
          }
