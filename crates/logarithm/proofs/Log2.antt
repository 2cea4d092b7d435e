-- `log2_of` encloses the logarithm: `log2_enclosed`. Then what the proof of the code asks of a shift.
use mathlib.Core.Path.{◌≡◌, refl, sym, ap, ◌∙◌, subst}
use Prim.Native.Nat.{ℕ, zero, suc, ◌+◌, ◌*◌, ◌-◌, ◌/◌, ◌%◌, ◌^◌, ◌≤◌, ◌<◌}
use native.Mathlib.Nat.{mul_assoc, mul-le-mul_left, mul-le-mul_right, le_of_mul-le-mul_right, mul-lt-mul_of_pos_right, add-mul, mod-eq_of_lt, pow-suc, pow-lt-pow_left}
use native.Mathlib.Omega.{arith}
use lib.Pow.{pow-add, pow_pos, pow_mono}
use lib.Dec.{T, ltb, leb, lit<, lit≤}
use lib.Count.{count_leading_zeros, leading_length}
use Rattle.laws.proofs.Order.{by_order}
use Rattle.laws.proofs.Powers.{mul_pow, pow_mul}
use Rattle.logarithm.specs.Scale.{scale, scale_is, scale_number, width, unit, bound}
use Rattle.logarithm.specs.Tables.{first_table, second_table}
use Rattle.logarithm.specs.Log2.{first_spacing, first_divisor, second_spacing, second_divisor, zeros_of, mantissa, level_log, level_rest, tail_of, rest_of, fraction_of, log2_of, Enclosed, slot_count, mantissa_zeros, one_zeros}
use Rattle.logarithm.specs.Preconditions.{InRange}
use Rattle.logarithm.proofs.Level.{Factored, level, first_width, second_width, tail_room, first_certified, second_certified}
use Rattle.logarithm.proofs.Tail.{tail, tail_width}

-- ---- the mantissa: two levels and the tail

-- f is the logarithm of m / unit, too low by at most w
record Fraction (m f w : ℕ) : Type 0 where
  below : 2 ^ f * unit ^ scale ≤ m ^ scale
  above : m ^ scale ≤ 2 ^ (f + w) * unit ^ scale

join_below : (t u A B C : ℕ) → 2 ^ t * B ≤ A → 2 ^ u * C ≤ B → 2 ^ (t + u) * C ≤ A
join_below t u A B C h l = rw (pow-add 2 t u) (omega (arith, mul-le-mul_left (2 ^ t) l))

join_above : (t u A B C : ℕ) → A ≤ 2 ^ t * B → B ≤ 2 ^ u * C → A ≤ 2 ^ (t + u) * C
join_above t u A B C h l = rw (pow-add 2 t u) (omega (arith, mul-le-mul_left (2 ^ t) l))

-- a level before a fraction
prepend : {room v m a t : ℕ} → Factored room v m a t → (f w : ℕ) → Fraction a f w → Fraction m (t + f) (v + w)
prepend {v = v} {m = m} {a = a} {t = t} s f w r =
    record {
      below = join_below t f (m ^ scale) (a ^ scale) (unit ^ scale) s.below r.below;
      above =
          subst (λ (x : ℕ). m ^ scale ≤ 2 ^ x * unit ^ scale) (let e : t + v + (f + w) ≡ t + f + (v + w) = omega arith in e)
          (join_above (t + v) (f + w) (m ^ scale) (a ^ scale) (unit ^ scale) s.above r.above);
    }

-- what each level leaves of a mantissa
pub first_level :
    (m : ℕ) → unit ≤ m → m < 2 * unit
    → Factored (slot_count * second_spacing) first_width m (level_rest first_table first_spacing first_divisor m) (level_log first_table first_spacing m)
first_level m l h = level first_certified m (omega arith) l (omega arith)

pub second_level :
    (m : ℕ) → unit ≤ m → m < unit + slot_count * second_spacing
    → Factored tail_room second_width m (level_rest second_table second_spacing second_divisor m) (level_log second_table second_spacing m)
second_level m l h = level second_certified m (omega arith) l h

rest_law : (m : ℕ) → unit ≤ m → m < unit + slot_count * second_spacing → Fraction m (rest_of m) (second_width + tail_width)
unfolding rest_of
rest_law m l h =
    let s = second_level m l h in
    let r = tail (level_rest second_table second_spacing second_divisor m) s.least s.most in
    prepend s (tail_of (level_rest second_table second_spacing second_divisor m)) tail_width (record { below = r.below; above = r.above })

-- what each part may be too low by adds up to the width
widths : first_width + (second_width + tail_width) ≡ width
widths = refl

fraction_law : (m : ℕ) → unit ≤ m → m < 2 * unit → Fraction m (fraction_of m) width
unfolding fraction_of
fraction_law m l h =
    let s = first_level m l h in
    let a : ℕ = level_rest first_table first_spacing first_divisor m in
    subst (λ (w : ℕ). Fraction m (level_log first_table first_spacing m + rest_of a) w) widths
    (prepend s (rest_of a) (second_width + tail_width) (rest_law a s.least s.most))

-- ---- the number

-- j is the whole part of the logarithm of x: the length of x / 2 in bits
pub record Whole (x j : ℕ) : Type 0 where
  pub zeros : zeros_of x + j ≡ one_zeros
  pub least : 2 ^ j ≤ x
  pub most : x < 2 ^ suc j

pub whole_part : (x : ℕ) → InRange x → (j : ℕ) × Whole x j
unfolding zeros_of
whole_part x r =
    let t = leading_length 64 (x / 2) (omega (arith, r.most)) in
    (t.0, record { zeros = t.1; least = least t.0 t.3; most = omega (arith, pow-suc 2 t.0, t.2) })
  where
    least : (j : ℕ) → 2 ^ j ≤ 2 * (x / 2) + 1 → 2 ^ j ≤ x
    least zero h = omega (arith, r.least)
    least (suc j) h = omega (arith, pow-suc 2 j)

-- the zeros of x / 2, and x shifted up to 49 bits
pub record Normal (x : ℕ) : Type 0 where
  pub few : mantissa_zeros ≤ zeros_of x
  pub many : zeros_of x ≤ one_zeros
  pub least : unit ≤ mantissa x
  pub most : mantissa x < 2 * unit

pub normal : (x : ℕ) → InRange x → Normal x
unfolding mantissa
normal x r =
    let t = whole_part x r in
    let j : ℕ = t.0 in
    let z : ℕ = zeros_of x in
    let w : Whole x j = t.1 in
    let k : j < 49 = by_order j 49 (λ q. q) (λ q. let p : 2 ^ 49 ≤ 2 ^ j = pow_mono q in absurd (omega (arith, w.least, r.most))) in
    let s : j + (z - mantissa_zeros) ≡ 48 = omega (arith, w.zeros) in
    let s' : suc j + (z - mantissa_zeros) ≡ 49 = omega (arith, w.zeros) in
    record {
      few = omega (arith, w.zeros);
      many = omega (arith, w.zeros);
      least = subst (λ (y : ℕ). y ≤ x * 2 ^ (z - mantissa_zeros)) (sym (pow-add 2 j (z - mantissa_zeros)) ∙ ap (λ (y : ℕ). 2 ^ y) s) (mul-le-mul_right (2 ^ (z - mantissa_zeros)) w.least);
      most = subst (λ (y : ℕ). x * 2 ^ (z - mantissa_zeros) < y) (sym (pow-add 2 (suc j) (z - mantissa_zeros)) ∙ ap (λ (y : ℕ). 2 ^ y) s') (mul-lt-mul_of_pos_right w.most (pow_pos (z - mantissa_zeros)));
    }

-- from the mantissa m = x * 2^s back to x, where s + k = 48
module _ (x s k : ℕ) (e : s + k ≡ 48) where
  shifted_power : (x * 2 ^ s) ^ scale ≡ x ^ scale * 2 ^ (s * scale)
  shifted_power = mul_pow x (2 ^ s) scale ∙ ap (λ (y : ℕ). x ^ scale * y) (sym (pow_mul 2 s scale))

  shift_and_whole : 48 * scale ≡ k * scale_number + s * scale
  shift_and_whole =
      ap (λ (y : ℕ). y * scale) (sym e) ∙ add-mul s k scale
      ∙ (let q : k * scale ≡ k * scale_number = ap (λ (y : ℕ). k * y) scale_is in omega arith)

  unit_power : (g : ℕ) → 2 ^ g * unit ^ scale ≡ 2 ^ (g + k * scale_number) * 2 ^ (s * scale)
  unit_power g =
      ap (λ (y : ℕ). 2 ^ g * y) (sym (pow_mul 2 48 scale) ∙ ap (λ (y : ℕ). 2 ^ y) shift_and_whole ∙ pow-add 2 (k * scale_number) (s * scale))
      ∙ sym (mul_assoc (2 ^ g) (2 ^ (k * scale_number)) (2 ^ (s * scale)))
      ∙ ap (λ (y : ℕ). y * 2 ^ (s * scale)) (sym (pow-add 2 g (k * scale_number)))

  shift_back : (f : ℕ) → Fraction (x * 2 ^ s) f width → (2 ^ (f + k * scale_number) ≤ x ^ scale) × (x ^ scale ≤ 2 ^ (f + k * scale_number + width))
  shift_back f h = (
    le_of_mul-le-mul_right {k = 2 ^ (s * scale)} (rw (← shifted_power, ← unit_power f) h.below) (pow_pos (s * scale)),
    le_of_mul-le-mul_right {k = 2 ^ (s * scale)}
        (rw (← shifted_power)
        (subst (λ (y : ℕ). (x * 2 ^ s) ^ scale ≤ 2 ^ y * 2 ^ (s * scale)) (let q : f + width + k * scale_number ≡ f + k * scale_number + width = omega arith in q)
        (rw (← unit_power (f + width)) h.above))) (pow_pos (s * scale)),
  )

-- x is below 2^49, so its logarithm is below 49 * E
below_bound : (x r : ℕ) → x < 2 * unit → 2 ^ r ≤ x ^ scale → r < bound
below_bound x r h l =
    let u : x ^ scale < 2 ^ (49 * scale) = subst (λ (y : ℕ). x ^ scale < y) (sym (pow_mul 2 49 scale)) (pow-lt-pow_left h (λ z. omega (arith, scale_is))) in
    by_order r (49 * scale) (λ q. omega (arith, scale_is)) (λ q. let v : 2 ^ (49 * scale) ≤ 2 ^ r = pow_mono q in absurd (omega arith))

-- the enclosure of the logarithm
pub log2_enclosed : (x : ℕ) → InRange x → Enclosed x (log2_of x)
unfolding log2_of mantissa
log2_enclosed x r =
    let n = normal x r in
    let h =
    shift_back x (zeros_of x - mantissa_zeros) (one_zeros - zeros_of x) (omega (arith, n.few, n.many)) (fraction_of (mantissa x))
    (fraction_law (mantissa x) n.least n.most) in
    record { value = refl; below = h.0; above = h.1; small = below_bound x (log2_of x) r.most h.0 }

-- the logarithm of a number that can be computed with
pub enclosed : (x : ℕ) → T (leb 1 x) → T (ltb x (2 * unit)) → Enclosed x (log2_of x)
enclosed x a b = log2_enclosed x (record { least = lit≤ a; most = lit< b })

-- ---- for the proof of the code: x shifted up fits its type, and is the mantissa. z is the code's count of the zeros of x / 2

pub shift_fits : (x z : ℕ) → InRange x → z ≡ count_leading_zeros 64 (x / 2) → (x * 2 ^ (z - mantissa_zeros)) % 2 ^ 64 ≡ mantissa x
unfolding mantissa zeros_of
shift_fits x z r e = let n = normal x r in rw e (mod-eq_of_lt (omega (arith, n.most)))
