-- The logarithm never falls as its argument rises: within a slot each level and the tail rise, and one computed test for each level compares
-- the last mantissa of a slot with the first of the next.
use mathlib.Core.Path.{◌≡◌, refl, sym, ap, ◌∙◌, subst}
use mathlib.Core.Bool.{Bool}
use mathlib.Core.List.{List}
use Prim.Native.Nat.{ℕ, zero, suc, ◌+◌, ◌*◌, ◌-◌, ◌/◌, ◌%◌, ◌^◌, ◌≤◌, ◌<◌}
use native.Mathlib.Nat.{le_trans, add-mul, mul-le-mul_right, lt_of_mul-lt-mul_right}
use native.Mathlib.Omega.{arith}
use lib.Dec.{T, leb, leb→le}
use lib.Pow.{pow_mono}
use Rattle.laws.proofs.Computed.{up_to, below}
use Rattle.laws.proofs.Order.{by_order}
use Rattle.logarithm.specs.Scale.{scale_number, unit}
use Rattle.logarithm.specs.Tables.{first_table, second_table}
use Rattle.logarithm.specs.Log2.{packing, first_spacing, second_spacing, zeros_of, mantissa, entry_at, entry_of, times_factor, level_log, level_rest, tail_of, rest_of, fraction_of, log2_of, slot_count, mantissa_zeros}
use Rattle.logarithm.specs.Preconditions.{InRange}
use Rattle.logarithm.proofs.Level.{CertifiedTable, small_at, factor_rounds_down, slot, slot_in, first_certified, second_certified}
use Rattle.logarithm.proofs.Log2.{whole_part, normal, first_level}

-- ---- a function that rises within each slot and from each slot to the next

-- the last mantissa of slot i, and the first of the next
abbrev last_of : ℕ → ℕ → ℕ
last_of S i = unit + (i + 1) * S - 1

abbrev next_of : ℕ → ℕ → ℕ
next_of S i = unit + (i + 1) * S

module _ (f : ℕ → ℕ) (S n : ℕ) (some : 0 < S)
    (in-slot : (m m' : ℕ) → unit ≤ m → m ≤ m' → m' < unit + n * S → (m - unit) / S ≡ (m' - unit) / S → f m ≤ f m')
    (across : (i : ℕ) → i + 1 < n → f (last_of S i) ≤ f (next_of S i)) where
  -- the slot of a mantissa, told by its ends
  slot_is : (i m : ℕ) → unit + i * S ≤ m → m < unit + (i + 1) * S → (m - unit) / S ≡ i
  slot_is i m l h =
      let a : (m - unit) / S < i + 1 = slot_in S (i + 1) m some (omega arith) h in
      let b : i ≤ (m - unit) / S = by_order ((m - unit) / S) i (λ q. absurd (low q)) (λ q. q) in
      omega arith
    where
      low : (m - unit) / S < i → ⊥
      low q =
          let r = (slot S m (omega arith) some).1 in
          let k : (m - unit) / S + 1 ≤ i = omega arith in
          omega (arith, mul-le-mul_right S k)

  -- from m in slot i to m' in slot i + k
  rises_over : (k i m m' : ℕ) → unit ≤ m → m < unit + n * S → unit ≤ m' → m' < unit + n * S → m ≤ m' → (m - unit) / S ≡ i → (m' - unit) / S ≡ i + k → f m ≤ f m'
  rises_over zero i m m' l h l' h' o e e' = in-slot m m' l o h' (omega arith)
  rises_over (suc k) i m m' l h l' h' o e e' =
      let p = slot S m l some in
      let p' = slot S m' l' some in
      let q : i + suc k < n = subst (λ (j : ℕ). j < n) e' (slot_in S n m' some l' h') in
      let m-high : m < unit + (i + 1) * S = subst (λ (j : ℕ). m < unit + (j + 1) * S) e p.1 in
      let m'-low : unit + (i + suc k) * S ≤ m' = subst (λ (j : ℕ). unit + j * S ≤ m') e' p'.0 in
      let two : (i + 1 + 1) * S ≤ n * S = mul-le-mul_right S (omega arith) in
      let reach : (i + 1) * S ≤ (i + suc k) * S = mul-le-mul_right S (omega arith) in
      let split1 : (i + 1) * S ≡ i * S + S = add-mul i 1 S ∙ (let z : i * S + 1 * S ≡ i * S + S = omega arith in z) in
      let split2 : (i + 1 + 1) * S ≡ (i + 1) * S + S = add-mul (i + 1) 1 S ∙ (let z : (i + 1) * S + 1 * S ≡ (i + 1) * S + S = omega arith in z) in
      let last-slot : (last_of S i - unit) / S ≡ i = slot_is i (last_of S i) (omega arith) (omega arith) in
      let next-slot : (next_of S i - unit) / S ≡ i + 1 = slot_is (i + 1) (next_of S i) (omega arith) (omega arith) in
      le_trans (in-slot m (last_of S i) l (omega arith) (omega arith) (e ∙ sym last-slot))
      (le_trans (across i (omega arith))
      (rises_over k (i + 1) (next_of S i) m' (omega arith) (omega arith) l' h' (omega arith) next-slot (omega arith)))

  rises_in_slots : (m m' : ℕ) → unit ≤ m → m ≤ m' → m' < unit + n * S → f m ≤ f m'
  rises_in_slots m m' l o h =
      by_order ((m' - unit) / S) ((m - unit) / S) (λ q. absurd (backwards q))
      (λ q. rises_over ((m' - unit) / S - (m - unit) / S) ((m - unit) / S) m m' l (omega arith) (omega arith) h o refl (omega arith))
    where
      backwards : (m' - unit) / S < (m - unit) / S → ⊥
      backwards q =
          let p = (slot S m l some).0 in
          let p' = (slot S m' (omega arith) some).1 in
          let k : (m' - unit) / S + 1 ≤ (m - unit) / S = omega arith in
          omega (arith, mul-le-mul_right S k)

-- ---- within a slot

-- a factor keeps the order of two mantissas
factor_rises : (D m m' p : ℕ) → p % packing < D → m ≤ m' → times_factor D m p ≤ times_factor D m' p
factor_rises D m m' p j h =
    let a = factor_rounds_down D m p j in
    let b = factor_rounds_down D m' p j in
    let k : m * (D - p % packing) ≤ m' * (D - p % packing) = mul-le-mul_right (D - p % packing) h in
    let g : times_factor D m p * D < suc (times_factor D m' p) * D = omega arith in
    let r : times_factor D m p < suc (times_factor D m' p) = lt_of_mul-lt-mul_right D g in
    omega arith

-- so does a level, for two mantissas of one slot
module _ {D S room w n : ℕ} {table : List ℕ} (c : CertifiedTable D S room w n table) (some : 0 < S)
    (m m' : ℕ) (l : unit ≤ m) (o : m ≤ m') (h : m' < unit + n * S) (e : (m - unit) / S ≡ (m' - unit) / S) where
  level_takes_same : level_log table S m ≡ level_log table S m'
  unfolding level_log entry_of
  level_takes_same = ap (λ (i : ℕ). entry_at table i / packing) e

  level_leaves_more : level_rest table S D m ≤ level_rest table S D m'
  unfolding level_rest entry_of
  level_leaves_more =
      subst (λ (i : ℕ). times_factor D m (entry_at table i) ≤ times_factor D m' (entry_at table ((m' - unit) / S))) (sym e)
      (factor_rises D m m' (entry_at table ((m' - unit) / S)) (small_at c ((m' - unit) / S) (slot_in S n m' some (omega arith) h)) o)

tail_rises : (m m' : ℕ) → m ≤ m' → tail_of m ≤ tail_of m'
unfolding tail_of
tail_rises m m' h = omega arith

-- ---- the second level with the tail

-- the last slot of a level, counted from 0: every slot before it has a next one
abbrev last_slot : ℕ
last_slot = 255

rest_test : ℕ → Bool
rest_test i = leb (rest_of (last_of second_spacing i)) (rest_of (next_of second_spacing i))

rest_tested : T (up_to rest_test last_slot)
unfolding rest_test rest_of tail_of level_rest level_log entry_of entry_at times_factor second_table
rest_tested = tt

rest_across : (i : ℕ) → i + 1 < slot_count → rest_of (last_of second_spacing i) ≤ rest_of (next_of second_spacing i)
unfolding rest_test
rest_across i h = leb→le _ _ (below rest_test last_slot rest_tested i (omega arith))

rest_in_slot :
    (m m' : ℕ) → unit ≤ m → m ≤ m' → m' < unit + slot_count * second_spacing → (m - unit) / second_spacing ≡ (m' - unit) / second_spacing
    → rest_of m ≤ rest_of m'
unfolding rest_of
rest_in_slot m m' l o h e =
    let t = level_takes_same second_certified (omega arith) m m' l o h e in
    let r = level_leaves_more second_certified (omega arith) m m' l o h e in
    omega (arith, t, tail_rises _ _ r)

pub rest_rises : (m m' : ℕ) → unit ≤ m → m ≤ m' → m' < unit + slot_count * second_spacing → rest_of m ≤ rest_of m'
rest_rises = rises_in_slots rest_of second_spacing slot_count (omega arith) rest_in_slot rest_across

-- ---- the first level with the rest

fraction_test : ℕ → Bool
fraction_test i = leb (fraction_of (last_of first_spacing i)) (fraction_of (next_of first_spacing i))

fraction_tested : T (up_to fraction_test last_slot)
unfolding fraction_test fraction_of rest_of tail_of level_rest level_log entry_of entry_at times_factor first_table second_table
fraction_tested = tt

fraction_across : (i : ℕ) → i + 1 < slot_count → fraction_of (last_of first_spacing i) ≤ fraction_of (next_of first_spacing i)
unfolding fraction_test
fraction_across i h = leb→le _ _ (below fraction_test last_slot fraction_tested i (omega arith))

fraction_in_slot :
    (m m' : ℕ) → unit ≤ m → m ≤ m' → m' < unit + slot_count * first_spacing → (m - unit) / first_spacing ≡ (m' - unit) / first_spacing
    → fraction_of m ≤ fraction_of m'
unfolding fraction_of
fraction_in_slot m m' l o h e =
    let t = level_takes_same first_certified (omega arith) m m' l o h e in
    let a = first_level m l (omega arith) in
    let a' = first_level m' (omega arith) (omega arith) in
    let r = rest_rises _ _ a.least (level_leaves_more first_certified (omega arith) m m' l o h e) a'.most in
    omega (arith, t, r)

pub fraction_rises : (m m' : ℕ) → unit ≤ m → m ≤ m' → m' < 2 * unit → fraction_of m ≤ fraction_of m'
fraction_rises m m' l o h = rises_in_slots fraction_of first_spacing slot_count (omega arith) fraction_in_slot fraction_across m m' l o (omega arith)

-- a mantissa's logarithm is at most 1
end_tested : T (leb (fraction_of (2 * unit - 1)) scale_number)
unfolding fraction_of rest_of tail_of level_rest level_log entry_of entry_at times_factor first_table second_table
end_tested = tt

fraction_at_end : fraction_of (2 * unit - 1) ≤ scale_number
fraction_at_end = leb→le _ _ end_tested

-- ---- the whole

zeros_fall : (x y : ℕ) → InRange x → InRange y → x ≤ y → zeros_of y ≤ zeros_of x
zeros_fall x y r s h =
    let t = whole_part x r in
    let u = whole_part y s in
    by_order (zeros_of x) (zeros_of y)
    (λ q. let z : 2 ^ suc u.0 ≤ 2 ^ t.0 = pow_mono (omega (arith, t.1.zeros, u.1.zeros)) in absurd (omega (arith, t.1.least, u.1.most)))
    (λ q. q)

mantissa_rises : (x y : ℕ) → x ≤ y → zeros_of x ≡ zeros_of y → mantissa x ≤ mantissa y
unfolding mantissa
mantissa_rises x y o e = rw e (mul-le-mul_right (2 ^ (zeros_of y - mantissa_zeros)) o)

pub log2_rises : (x y : ℕ) → 1 ≤ x → x ≤ y → y < 2 * unit → log2_of x ≤ log2_of y
unfolding log2_of
log2_rises x y l o h =
    let r : InRange x = record { least = l; most = omega arith } in
    let s : InRange y = record { least = omega arith; most = h } in
    let n = normal x r in
    let k = normal y s in
    let z = zeros_fall x y r s o in
    by_order (zeros_of y) (zeros_of x)
    (λ (q : zeros_of y < zeros_of x).
    let g : fraction_of (mantissa x) ≤ scale_number = le_trans (fraction_rises (mantissa x) (2 * unit - 1) n.least (omega (arith, n.most)) (omega arith)) fraction_at_end in
    omega (arith, n.few, n.many, k.few, k.many))
    (λ (q : zeros_of x ≤ zeros_of y).
    let e : zeros_of x ≡ zeros_of y = omega arith in
    let g : fraction_of (mantissa x) ≤ fraction_of (mantissa y) = fraction_rises (mantissa x) (mantissa y) n.least (mantissa_rises x y o e) k.most in
    omega arith)
