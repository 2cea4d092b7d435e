-- The logarithm to the base 2 of a whole number, step by step as the code computes it, and what the code promises of it.
-- No reader has to believe the value: a crate above cites the laws about `log2_of` (`log2_enclosed` of proofs/Log2.antt, `log2_rises` of
-- proofs/Rise.antt) and opens it only to compute the logarithm of a literal.
use Rattle.std.specs.Prelude.{◌≡◌, List, ℕ, ◌+◌, ◌*◌, ◌-◌, ◌/◌, ◌%◌, ◌^◌, ◌≤◌, ◌<◌, get_or}
use Rattle.std.specs.Int.Count.{count_leading_zeros}
use Rattle.logarithm.specs.Scale.{scale, scale_number, width, unit, bound}
use Rattle.logarithm.specs.Tables.{first_table, second_table}

-- ---- the constants of the two levels and of the tail, as the source has them

-- an entry is t * packing + j
abbrev pub packing : ℕ
packing = 32768

-- how many slots a level has, and a table entries
abbrev pub slot_count : ℕ
slot_count = 256

-- slots of the first level are 2^40 apart, its factors are over 2^16
abbrev pub first_spacing : ℕ
first_spacing = 1099511627776

abbrev pub first_divisor : ℕ
first_divisor = 65536

-- slots of the second level are 2^32 apart, its factors are over 2^23
abbrev pub second_spacing : ℕ
second_spacing = 4294967296

abbrev pub second_divisor : ℕ
second_divisor = 8388608

-- the tail: d over the unit counts d * slope / slope_divisor
abbrev pub slope : ℕ
slope = 387264545

abbrev pub slope_divisor : ℕ
slope_divisor = 1099511627776

-- ---- the value

-- the leading zeros of half a mantissa, a number of 48 bits, and of half of 1, which is 0
abbrev pub mantissa_zeros : ℕ
mantissa_zeros = 16

abbrev pub one_zeros : ℕ
one_zeros = 64

-- the leading zeros of x / 2, from 16 for 2^48 to 64 for 1: one more than x has
unfoldable pub zeros_of : ℕ → ℕ
zeros_of x = count_leading_zeros 64 (x / 2)

-- x shifted up to 49 bits
unfoldable pub mantissa : ℕ → ℕ
mantissa x = x * 2 ^ (zeros_of x - mantissa_zeros)

-- entry i of a table
unfoldable pub entry_at : List ℕ → ℕ → ℕ
entry_at table i = get_or table i 0

-- the entry of the mantissa m in a table whose slots are s apart
unfoldable pub entry_of : List ℕ → ℕ → ℕ → ℕ
entry_of table s m = entry_at table ((m - unit) / s)

-- m times the factor (d - j) / d of the entry p, rounded down
unfoldable pub times_factor : ℕ → ℕ → ℕ → ℕ
times_factor d m p = m - (m * (p % packing) + (d - 1)) / d

-- what a level makes of m: the logarithm that it takes out, and the mantissa that it leaves
unfoldable pub level_log : List ℕ → ℕ → ℕ → ℕ
level_log table s m = entry_of table s m / packing

unfoldable pub level_rest : List ℕ → ℕ → ℕ → ℕ → ℕ
level_rest table s d m = times_factor d m (entry_of table s m)

-- the tail, for what is left over the unit
unfoldable pub tail_of : ℕ → ℕ
tail_of m = (m - unit) * slope / slope_divisor

-- the second level and the tail, for a mantissa that the first level left
unfoldable pub rest_of : ℕ → ℕ
rest_of m = level_log second_table second_spacing m + tail_of (level_rest second_table second_spacing second_divisor m)

-- the logarithm of the mantissa m over its unit
unfoldable pub fraction_of : ℕ → ℕ
fraction_of m = level_log first_table first_spacing m + rest_of (level_rest first_table first_spacing first_divisor m)

unfoldable pub log2_of : ℕ → ℕ
log2_of x = fraction_of (mantissa x) + (one_zeros - zeros_of x) * scale_number

-- ---- the promise

-- r / E is the logarithm of x, or below it by at most width / E
pub record Enclosed (x r : ℕ) : Type 0 where
  pub value : r ≡ log2_of x
  pub below : 2 ^ r ≤ x ^ scale
  pub above : x ^ scale ≤ 2 ^ (r + width)
  pub small : r < bound

-- what one level, an inner function, answers: the mantissa a that it leaves and the logarithm t that it takes out
pub record Reduces (table : List ℕ) (s d m a t : ℕ) : Type 0 where
  pub mantissa : a ≡ level_rest table s d m
  pub log : t ≡ level_log table s m
  pub small : t < 2 * unit
