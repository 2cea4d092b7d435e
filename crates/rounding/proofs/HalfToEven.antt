-- `nearest` is the only number that is at most a half away from the fraction and even where it is exactly a half away; and it rises with the fraction. Each
-- number with sign is a difference of two whole numbers: "at most a half away" is then two orders of whole numbers.
use Prim.Native.Nat.{ℕ, suc, ◌+◌, ◌*◌, ◌-◌, ◌/◌, ◌%◌, ◌<◌, ◌≤◌}
use mathlib.Core.Path.{◌≡◌, refl, sym, ◌∙◌, ap, subst₂}
use mathlib.Core.Bool.{Bool, true, false, cond}
use lib.IntN.{ℤ, pos, negsuc, nat_abs, sub_ℕ, ◌-ℤ◌, ◌*ℤ◌}
use lib.Signed.{◌≤ℤ◌, ≤ℤ_refl}
use native.Mathlib.Omega.{arith}
use native.Mathlib.Nat.{add-mul, div-add-mod', mod-lt, mul-le-mul_left}
use borrow.Author.Tests.{ltb-true, ltb-false}
use Rattle.laws.proofs.Difference.{sub_pos, sub_neg, sub_same, sub_le, le_sub, pos_is, neg_is, sub_sub, sub_times, difference}
use Rattle.laws.proofs.Order.{by_order}
use Rattle.laws.proofs.Powers.{ring}
use Rattle.rounding.specs.Nearest.{even_of, nearer, nearest_whole, nearest}
use Rattle.rounding.specs.HalfToEven.{distance, HalfToEven, EveryQuotient}

-- ---- HalfToEven in whole numbers

-- the fraction is (a − b) / d and the number i − j: it is at most a half above and at most a half below, and even at either half
pub record WithinHalf (a b i j d : ℕ) : Type 0 where
  pub low : 2 * (b + i * d) ≤ 2 * (a + j * d) + d
  pub high : 2 * (a + j * d) ≤ 2 * (b + i * d) + d
  pub low_even : 2 * (b + i * d) ≡ 2 * (a + j * d) + d → (i + j) % 2 ≡ 0
  pub high_even : 2 * (a + j * d) ≡ 2 * (b + i * d) + d → (i + j) % 2 ≡ 0

size : (a b : ℕ) → nat_abs (sub_ℕ a b) ≡ a - b + (b - a)
size a b =
    by_order a b
    (λ l. rw (sub_neg a b l) (omega arith))
    (λ l. rw (sub_pos a b l) (omega arith))

parity : (i j : ℕ) → nat_abs (sub_ℕ i j) % 2 ≡ (i + j) % 2
parity i j = rw (size i j) (by_order i j (λ l. omega arith) (λ l. omega arith))

away : (a b i j d : ℕ) → distance (sub_ℕ a b) d (sub_ℕ i j) ≡ a + j * d - (b + i * d) + (b + i * d - (a + j * d))
away a b i j d =
    ap nat_abs (ap (λ (z : ℤ). sub_ℕ a b -ℤ z) (sub_times d i j) ∙ sub_sub a b (i * d) (j * d))
    ∙ size (a + j * d) (b + i * d)

module _ (a b i j d : ℕ) where
  to_within_half : HalfToEven (sub_ℕ a b) d (sub_ℕ i j) → WithinHalf a b i j d
  to_within_half h =
      let far = away a b i j d in
      record {
        low = omega (arith, far, h.within_half);
        high = omega (arith, far, h.within_half);
        low_even = λ e. sym (parity i j) ∙ h.even_at_half (omega (arith, far, e));
        high_even = λ e. sym (parity i j) ∙ h.even_at_half (omega (arith, far, e));
      }

  pub from_within_half : WithinHalf a b i j d → HalfToEven (sub_ℕ a b) d (sub_ℕ i j)
  from_within_half n =
      let far = away a b i j d in
      record {
        within_half = omega (arith, far, n.low, n.high);
        even_at_half = λ e. parity i j
            ∙ by_order (a + j * d) (b + i * d)
            (λ l. n.low_even (omega (arith, far, e)))
            (λ l. n.high_even (omega (arith, far, e)));
      }

-- ---- a greater fraction has no lower number

at_least : (s d : ℕ) → 0 < d → s ≤ s * d
at_least s d h = omega (arith, mul-le-mul_left {m = 1} {n = d} s h)

-- if it had one: of (a − b) / d and (a' − b') / e, which is not less, the numbers are i − j and i' − j', which is v + 1 lower. s and t are twice what the two
-- distances are short of a half, in parts of 1 / d and 1 / e; then s, t and v are 0
module _ (a b i j d a' b' i' j' e s t v : ℕ) where
  nothing_left : 2 * (b + i * d) + s ≡ 2 * (a + j * d) + d
      → 2 * (a' + j' * e) + t ≡ 2 * (b' + i' * e) + e
      → i' + j + 1 + v ≡ i + j'
      → a * e + b' * d ≤ a' * d + b * e
      → s * e + t * d + 2 * (v * (d * e)) ≤ 0
  nothing_left f g h l =
      let f' = ap (λ (n : ℕ). n * e) f in
      let g' = ap (λ (n : ℕ). n * d) g in
      let h' = ap (λ (n : ℕ). n * (d * e)) h in
      simp ring (omega (arith, simp ring at f', simp ring at g', simp ring at h', simp ring at l))

within_half_rises : (a b i j d a' b' i' j' e : ℕ) → WithinHalf a b i j d → WithinHalf a' b' i' j' e → 0 < d → 0 < e → a * e + b' * d ≤ a' * d + b * e → i + j' ≤ i' + j
within_half_rises a b i j d a' b' i' j' e n m p q l =
    by_order (i' + j) (i + j')
    (λ h.
    let s : ℕ = 2 * (a + j * d) + d - 2 * (b + i * d) in
    let t : ℕ = 2 * (b' + i' * e) + e - 2 * (a' + j' * e) in
    let v : ℕ = i + j' - (i' + j + 1) in
    let all = nothing_left a b i j d a' b' i' j' e s t v (omega (arith, n.low)) (omega (arith, m.high)) (omega arith) l in
    let s0 : s ≡ 0 = omega (arith, all, at_least s e q) in
    let t0 : t ≡ 0 = omega (arith, all, at_least t d p) in
    let v0 : v ≡ 0 = omega (arith, all, at_least v (d * e) (omega (arith, at_least d e q))) in
    absurd (omega (arith, n.low_even (omega (arith, n.low, s0)), m.high_even (omega (arith, m.high, t0)), v0)))
    (λ h. h)

pub half_to_even_rises : (y z : ℤ) (d e : ℕ) (k l : ℤ) → HalfToEven y d k → HalfToEven z e l → 0 < d → 0 < e → (y *ℤ pos e) ≤ℤ (z *ℤ pos d) → k ≤ℤ l
half_to_even_rises y z d e k l n m p q h =
    let y' = difference y in
    let z' = difference z in
    let k' = difference k in
    let l' = difference l in
    subst₂ (λ (v w : ℤ). v ≤ℤ w) (sym k'.is) (sym l'.is)
    (sub_le k'.i k'.j l'.i l'.j
    (within_half_rises y'.i y'.j k'.i k'.j d z'.i z'.j l'.i l'.j e
    (to_within_half y'.i y'.j k'.i k'.j d (subst₂ (λ (v w : ℤ). HalfToEven v d w) y'.is k'.is n))
    (to_within_half z'.i z'.j l'.i l'.j e (subst₂ (λ (v w : ℤ). HalfToEven v e w) z'.is l'.is m))
    p q
    (le_sub (y'.i * e) (y'.j * e) (z'.i * d) (z'.j * d)
    (subst₂ (λ (v w : ℤ). v ≤ℤ w)
    (ap (λ (v : ℤ). v *ℤ pos e) y'.is ∙ sub_times e y'.i y'.j)
    (ap (λ (v : ℤ). v *ℤ pos d) z'.is ∙ sub_times d z'.i z'.j) h))))

-- ---- the definition gives such a number

within_half_turned : (a b i j d : ℕ) → WithinHalf a b i j d → WithinHalf b a j i d
within_half_turned a b i j d n =
    record {
      low = n.high;
      high = n.low;
      low_even = λ e. omega (arith, n.high_even e);
      high_even = λ e. omega (arith, n.low_even e);
    }

-- of a choice by two tests
chosen : (P : ℕ → Type 0) (s t : Bool) {i j k : ℕ} → (s ≡ true → P i) → (s ≡ false → t ≡ true → P j) → (s ≡ false → t ≡ false → P k) → P (cond s i (cond t j k))
chosen P true t f g h = f refl
chosen P false true f g h = g refl refl
chosen P false false f g h = h refl refl

-- n is q·d + r, with r below d
module _ (n d q r : ℕ) (whole : q * d + r ≡ n) (small : r < d) where
  next : (q + 1) * d ≡ q * d + d
  next = omega (arith, add-mul q 1 d)

  down : 2 * r < d → WithinHalf n 0 q 0 d
  down h =
      record {
        low = omega (arith, whole);
        high = omega (arith, whole);
        low_even = λ e. absurd (omega (arith, whole, e));
        high_even = λ e. absurd (omega (arith, whole, e));
      }

  up : d < 2 * r → WithinHalf n 0 (q + 1) 0 d
  up h =
      record {
        low = omega (arith, whole, next);
        high = omega (arith, whole, next, small);
        low_even = λ e. absurd (omega (arith, whole, next, e));
        high_even = λ e. absurd (omega (arith, whole, next, small, e));
      }

  at_half : 2 * r ≡ d → WithinHalf n 0 (even_of q) 0 d
  at_half h =
      by_order (q % 2) 1
      (λ l. let e : even_of q ≡ q = omega arith in
      rw e (record { low = omega (arith, whole); high = omega (arith, whole); low_even = λ f. omega arith; high_even = λ f. omega arith }))
      (λ l. let e : even_of q ≡ q + 1 = omega arith in
      rw e (record { low = omega (arith, whole, next); high = omega (arith, whole, next); low_even = λ f. omega arith; high_even = λ f. omega arith }))

  nearer_within_half : WithinHalf n 0 (nearer q r d) 0 d
  nearer_within_half =
      chosen (λ (k : ℕ). WithinHalf n 0 k 0 d) _ _
      (λ e. down (omega (arith, ltb-true _ _ e)))
      (λ e f. up (omega (arith, ltb-true _ _ f)))
      (λ e f. at_half (omega (arith, ltb-false _ _ e, ltb-false _ _ f)))

pub whole_within_half : (n d : ℕ) → 0 < d → WithinHalf n 0 (nearest_whole n d) 0 d
whole_within_half n d p = nearer_within_half n d (n / d) (n % d) (div-add-mod' n d) (mod-lt n p)

pub nearest_is : (z : ℤ) (d : ℕ) → 0 < d → HalfToEven z d (nearest z d)
nearest_is (pos n) d p =
    let k = nearest_whole n d in
    subst₂ (λ (z w : ℤ). HalfToEven z d w) (sym (pos_is n)) (sym (pos_is k)) (from_within_half n 0 k 0 d (whole_within_half n d p))
nearest_is (negsuc n) d p =
    let k = nearest_whole (suc n) d in
    subst₂ (λ (z w : ℤ). HalfToEven z d w) (sym (neg_is (suc n))) (sym (neg_is k))
    (from_within_half 0 (suc n) 0 k d (within_half_turned (suc n) 0 k 0 d (whole_within_half (suc n) d p)))

-- ---- the statement

both_ways : (k l : ℤ) → k ≤ℤ l → l ≤ℤ k → k ≡ l
both_ways k l h g =
    let k' = difference k in
    let l' = difference l in
    let h' = le_sub k'.i k'.j l'.i l'.j (subst₂ (λ (v w : ℤ). v ≤ℤ w) k'.is l'.is h) in
    let g' = le_sub l'.i l'.j k'.i k'.j (subst₂ (λ (v w : ℤ). v ≤ℤ w) l'.is k'.is g) in
    k'.is ∙ sub_same k'.i k'.j l'.i l'.j (omega (arith, h', g')) ∙ sym l'.is

pub nearest_only : (z : ℤ) (d : ℕ) (k : ℤ) → 0 < d → HalfToEven z d k → k ≡ nearest z d
nearest_only z d k p h =
    let same = ≤ℤ_refl (z *ℤ pos d) in
    both_ways k (nearest z d)
    (half_to_even_rises z z d d k (nearest z d) h (nearest_is z d p) p p same)
    (half_to_even_rises z z d d (nearest z d) k (nearest_is z d p) h p p same)

pub every_quotient : EveryQuotient
every_quotient =
    record {
      is = nearest_is;
      only = nearest_only;
      rises = λ y z d e p q h. half_to_even_rises y z d e (nearest y d) (nearest z e) (nearest_is y d p) (nearest_is z e q) p q h;
    }
