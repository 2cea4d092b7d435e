-- The tail: the logarithm of (P + d) / P, for d up to some room, lies at most a little above a multiple of d. Both sides come from one slope,
-- that of the logarithm at the far end M = P + room: from P to P + d it rises by at least that slope, and from P + d to M too.
use mathlib.Core.Path.{◌≡◌, refl, ap, ◌∙◌}
use Prim.Native.Nat.{ℕ, ◌+◌, ◌*◌, ◌-◌, ◌/◌, ◌^◌, ◌≤◌, ◌<◌}
use native.Mathlib.Nat.{le_trans, le_of_eq, mul_assoc, mul-le-mul_right, le_of_mul-le-mul_left, one-le-pow, pow-le-pow_left}
use native.Mathlib.Omega.{arith}
use lib.Pow.{pow-add, pow_pos, pow_mono}
use lib.Dec.{T}
use Rattle.laws.proofs.Powers.{mul_pow, pow_mul, pow_swap, root, raise, steps_at_most}
use Rattle.logarithm.specs.Scale.{scale, scale_is, unit}
use Rattle.logarithm.specs.Log2.{slope, slope_divisor, tail_of}
use Rattle.logarithm.proofs.Certificate.{least, most, at_least, at_most, least_power, most_power}
use Rattle.logarithm.proofs.Level.{cancel_below, tail_room}

-- ---- over any numbers

-- a bound of a factor's power F, taken n times
bound_times : (g M N F n : ℕ) → 2 ^ g * M ^ F ≤ N ^ F → 2 ^ (g * n) * (M ^ n) ^ F ≤ (N ^ n) ^ F
bound_times g M N F n h =
    rw (pow_mul 2 g n, pow_swap M n F, pow_swap N n F, ← mul_pow (2 ^ g) (M ^ F) n) (pow-le-pow_left h n)

-- n steps below M rise by at least n times the slope g at M
rises_by_slope : (g M a n F : ℕ) → 0 < M → a + n ≤ M → 2 ^ g * M ^ F ≤ (M + 1) ^ F → 2 ^ (g * n) * a ^ F ≤ (a + n) ^ F
rises_by_slope g M a n F q l c =
    cancel_below ((a + n) ^ F) (a ^ F) ((M ^ n) ^ F) (((M + 1) ^ n) ^ F) (2 ^ (g * n)) (one-le-pow F (M ^ n) (one-le-pow n M q))
    (raise a ((M + 1) ^ n) (a + n) (M ^ n) F (omega (arith, steps_at_most M a n l))) (bound_times g M (M + 1) F n c)

-- back from the finer unit, F = E * R
unfine : (t R E X : ℕ) → 2 ^ (t * R) * X ^ (E * R) ≡ (2 ^ t * X ^ E) ^ R
unfine t R E X = rw (pow_mul 2 t R, pow_mul X E R, ← mul_pow (2 ^ t) (X ^ E) R) refl

module _ (g M P d t E R F : ℕ) (pos : 0 < M) (some : 0 < R) (finer : F ≡ E * R) (slopes : 2 ^ g * M ^ F ≤ (M + 1) ^ F) where
  tail_below : P + d ≤ M → t * R ≤ g * d → 2 ^ t * P ^ E ≤ (P + d) ^ E
  tail_below l k =
      root R some
      (rw (← unfine t R E P, ← pow_mul (P + d) E R, ← finer)
      (le_trans (mul-le-mul_right (P ^ F) (pow_mono k)) (rises_by_slope g M P d F pos l slopes)))

  tail_above : (n whole : ℕ) → P + d + n ≡ M → M ^ F ≤ 2 ^ whole * P ^ F → whole ≤ g * n + t * R → (P + d) ^ E ≤ 2 ^ t * P ^ E
  tail_above n whole e h k =
      root R some
      (rw (← unfine t R E P, ← pow_mul (P + d) E R, ← finer)
      (le_of_mul-le-mul_left {k = 2 ^ (g * n)}
      (le_trans (rises_by_slope g M (P + d) n F pos (le_of_eq e) slopes)
      (le_trans (rw e h)
      (le_trans (mul-le-mul_right (P ^ F) (pow_mono k))
      (le_of_eq (ap (λ (x : ℕ). x * P ^ F) (pow-add 2 (g * n) (t * R)) ∙ mul_assoc (2 ^ (g * n)) (2 ^ (t * R)) (P ^ F))))))
      (pow_pos (g * n))))

-- ---- the code's tail

-- a finer unit, in which the slope is a whole number; shut, as `scale` is
fine : ℕ
fine = 2 ^ 76

fine_is : fine ≡ 2 ^ 76
unfolding fine
fine_is = refl

fine_split : fine ≡ scale * slope_divisor
unfolding fine
fine_split = rw scale_is refl

-- the far end, and the logarithm of top / unit in the finer unit, rounded up (tools/log-tables --constants)
abbrev top : ℕ
top = unit + tail_room

abbrev top_log : ℕ
top_log = 1676245526943305894

slope_test : T (at_least 76 0 (top + 1) top slope)
unfolding at_least least
slope_test = tt

top_test : T (at_most 76 0 top unit top_log)
unfolding at_most most
top_test = tt

slope_at_top : 2 ^ slope * top ^ fine ≤ (top + 1) ^ fine
slope_at_top = least_power 76 0 (top + 1) top slope fine fine_is slope_test

rise_to_top : top ^ fine ≤ 2 ^ top_log * unit ^ fine
rise_to_top = most_power 76 0 top unit top_log fine (omega arith) fine_is top_test

-- how far the tail may lie below the logarithm
abbrev pub tail_width : ℕ
tail_width = 13

pub record OnTail (m t : ℕ) : Type 0 where
  pub below : 2 ^ t * unit ^ scale ≤ m ^ scale
  pub above : m ^ scale ≤ 2 ^ (t + tail_width) * unit ^ scale

tail_over : (d : ℕ) → d < tail_room → OnTail (unit + d) (d * slope / slope_divisor)
tail_over d l =
    record {
      below = tail_below slope top unit d (d * slope / slope_divisor) scale slope_divisor fine (omega arith) (omega arith) fine_split slope_at_top (omega arith) (omega arith);
      above =
          tail_above slope top unit d (d * slope / slope_divisor + tail_width) scale slope_divisor fine (omega arith) (omega arith) fine_split slope_at_top
          (tail_room - d) top_log (omega arith) rise_to_top (omega arith);
    }

pub tail : (m : ℕ) → unit ≤ m → m < unit + tail_room → OnTail m (tail_of m)
unfolding tail_of
tail m l h =
    let e : unit + (m - unit) ≡ m = omega arith in
    rw e at (tail_over (m - unit) (omega arith))
