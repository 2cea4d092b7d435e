-- One level: a mantissa m times the factor (D - j) / D of its slot, rounded down. A computed test of a whole table shows that each level
-- leaves a mantissa in the next one's range, and by which power of two it grew smaller.
use mathlib.Core.Path.{◌≡◌, sym, ap, ◌∙◌}
use mathlib.Core.Bool.{Bool, ◌&&◌}
use mathlib.Core.List.{List}
use Prim.Native.Nat.{ℕ, suc, ◌+◌, ◌*◌, ◌-◌, ◌/◌, ◌%◌, ◌^◌, ◌≤◌, ◌<◌}
use native.Mathlib.Nat.{le_trans, le_of_lt, lt_of_lt_of_le, lt_of_le_of_lt, mul-add, add-mul, mul-le-mul_left, mul-le-mul_right, mul-lt-mul_of_pos_right, le_of_mul-le-mul_right, lt_of_mul-lt-mul_right, div-mul-le_self, lt-div-mul-add, div-lt_iff_lt-mul, one-le-pow}
use native.Mathlib.Omega.{arith}
use lib.Dec.{T, ltb, leb, leb→le, ltb→lt}
use Rattle.laws.proofs.Computed.{and_left, and_right, up_to, below}
use Rattle.laws.proofs.Powers.{raise}
use Rattle.logarithm.specs.Scale.{scale, scale_is, unit}
use Rattle.logarithm.specs.Tables.{first_table, second_table}
use Rattle.logarithm.specs.Log2.{packing, first_spacing, first_divisor, second_spacing, second_divisor, entry_at, entry_of, times_factor, level_log, level_rest, slot_count}
use Rattle.logarithm.proofs.Certificate.{least, most, at_least, at_most, least_power, most_power}

-- ---- one entry

-- The test of the entry p at slot i of a level with divisor D and spacing S: with j = p % packing, m * (D - j) / D stays from unit to
-- below unit + room at each mantissa m of the slot, and 2^t ≤ (D / (D - j))^E and (D / (D - j) * (unit + 1) / unit)^E ≤ 2^(t + w)
-- hold for t = p / packing. The factor (unit + 1) / unit pays for the rounding of m.
pub entry_test : ℕ → ℕ → ℕ → ℕ → ℕ → ℕ → Bool
entry_test D S room w i p =
    ltb (p % packing) D
    && (leb (unit * D) ((unit + i * S) * (D - p % packing))
    && (leb ((unit + (i + 1) * S) * (D - p % packing)) ((unit + room) * D)
    && (at_least 36 0 D (D - p % packing) (p / packing)
    && at_most 36 0 (D * (unit + 1)) ((D - p % packing) * unit) (p / packing + w))))

-- what it shows of an entry
pub record Entry (D S room w i p : ℕ) : Type 0 where
  pub small : p % packing < D
  pub lower : unit * D ≤ (unit + i * S) * (D - p % packing)
  pub upper : (unit + (i + 1) * S) * (D - p % packing) ≤ (unit + room) * D
  pub least : 2 ^ (p / packing) * (D - p % packing) ^ scale ≤ D ^ scale
  pub most : (D * (unit + 1)) ^ scale ≤ 2 ^ (p / packing + w) * ((D - p % packing) * unit) ^ scale

entry_of_test : (D S room w i p : ℕ) → T (entry_test D S room w i p) → Entry D S room w i p
unfolding entry_test
entry_of_test D S room w i p h =
    let c : ℕ = D - p % packing in
    let t1 : Bool = ltb (p % packing) D in
    let t2 : Bool = leb (unit * D) ((unit + i * S) * c) in
    let t3 : Bool = leb ((unit + (i + 1) * S) * c) ((unit + room) * D) in
    let t4 : Bool = at_least 36 0 D c (p / packing) in
    let t5 : Bool = at_most 36 0 (D * (unit + 1)) (c * unit) (p / packing + w) in
    let h1 : T (t2 && (t3 && (t4 && t5))) = and_right t1 (t2 && (t3 && (t4 && t5))) h in
    let h2 : T (t3 && (t4 && t5)) = and_right t2 (t3 && (t4 && t5)) h1 in
    let h3 : T (t4 && t5) = and_right t3 (t4 && t5) h2 in
    let q : p % packing < D = ltb→lt (p % packing) D (and_left t1 (t2 && (t3 && (t4 && t5))) h) in
    record {
      small = q;
      lower = leb→le (unit * D) ((unit + i * S) * c) (and_left t2 (t3 && (t4 && t5)) h1);
      upper = leb→le ((unit + (i + 1) * S) * c) ((unit + room) * D) (and_left t3 (t4 && t5) h2);
      least = least_power 36 0 D c (p / packing) scale scale_is (and_left t4 t5 h3);
      most = most_power 36 0 (D * (unit + 1)) (c * unit) (p / packing + w) scale (omega arith) scale_is (and_right t4 t5 h3);
    }

-- the test of entry i of a table, and a table of n entries that all pass
pub test_at : ℕ → ℕ → ℕ → ℕ → List ℕ → ℕ → Bool
test_at D S room w table i = entry_test D S room w i (entry_at table i)

pub record CertifiedTable (D S room w n : ℕ) (table : List ℕ) : Type 0 where
  pub tested : T (up_to (test_at D S room w table) n)

entry_at_lem : {D S room w n : ℕ} {table : List ℕ} → CertifiedTable D S room w n table → (i : ℕ) → i < n → Entry D S room w i (entry_at table i)
unfolding test_at
entry_at_lem {D} {S} {room} {w} {n} {table} c i h =
    entry_of_test D S room w i (entry_at table i) (below (test_at D S room w table) n c.tested i h)

-- ---- one factor

-- m' is m times the factor: smaller by a power between 2^t and 2^(t + w), and in range
pub record Factored (room w m m' t : ℕ) : Type 0 where
  pub least : unit ≤ m'
  pub most : m' < unit + room
  pub below : 2 ^ t * m' ^ scale ≤ m ^ scale
  pub above : m ^ scale ≤ 2 ^ (t + w) * m' ^ scale

-- the rounded quotient q of a / D, and m - q for a = m * j: m times (D - j) / D, rounded down
rounded_up : (D a : ℕ) → 0 < D → (a ≤ (a + (D - 1)) / D * D) × ((a + (D - 1)) / D * D < a + D)
rounded_up D a p =
    let l : (a + (D - 1)) / D * D ≤ a + (D - 1) = div-mul-le_self (a + (D - 1)) D in
    let h : a + (D - 1) < (a + (D - 1)) / D * D + D = lt-div-mul-add p in
    (omega arith, omega arith)

rest_rounded_down :
    (D j c m q m' : ℕ) → c + j ≡ D → m' + q ≡ m → m * j ≤ q * D → q * D < m * j + D → (m' * D ≤ m * c) × (m * c < m' * D + D)
rest_rounded_down D j c m q m' e f l h =
    let u : m * c + m * j ≡ m * D = sym (mul-add m c j) ∙ ap (λ (x : ℕ). m * x) e in
    let v : m' * D + q * D ≡ m * D = sym (add-mul m' q D) ∙ ap (λ (x : ℕ). x * D) f in
    (omega arith, omega arith)

quotient_at_most : (D j m q : ℕ) → j < D → q * D < m * j + D → q ≤ m
quotient_at_most D j m q l h =
    let k : j ≤ D = le_of_lt l in
    let g : q * D < suc m * D = omega (arith, mul-le-mul_left m k) in
    let g2 : q < suc m = lt_of_mul-lt-mul_right D g in
    omega arith

-- m times the factor of the entry p is the quotient m * (D - j) / D, rounded down
pub factor_rounds_down :
    (D m p : ℕ) → p % packing < D
    → (times_factor D m p * D ≤ m * (D - p % packing)) × (m * (D - p % packing) < times_factor D m p * D + D)
unfolding times_factor
factor_rounds_down D m p j =
    let q : ℕ = (m * (p % packing) + (D - 1)) / D in
    let u = rounded_up D (m * (p % packing)) (omega arith) in
    let k : q ≤ m = quotient_at_most D (p % packing) m q j u.1 in
    rest_rounded_down D (p % packing) (D - p % packing) m q (m - q) (omega arith) (omega arith) u.0 u.1

-- the powers, each a variable: A = m^E, B = m'^E, C = c^E, F = D^E, G = 2^t
pub cancel_below : (A B C F G : ℕ) → 0 < C → B * F ≤ A * C → G * C ≤ F → G * B ≤ A
cancel_below A B C F G p h l = le_of_mul-le-mul_right {k = C} (omega (arith, mul-le-mul_left B l)) p

cancel_above : (A B C F G : ℕ) → 0 < C → A * C ≤ B * F → F ≤ G * C → A ≤ G * B
cancel_above A B C F G p h l = le_of_mul-le-mul_right {k = C} (omega (arith, mul-le-mul_left B l)) p

-- what rounding takes off is at most one part in `unit`
rounding_paid : (m c m' D N : ℕ) → m * c < m' * D + D → N ≤ m' → m * (c * N) ≤ m' * (D * (N + 1))
rounding_paid m c m' D N h l =
    let g : m * c ≤ m' * D + D = le_of_lt h in
    omega (arith, mul-le-mul_right N g, mul-le-mul_left D l)

module _ (D S room w i m p : ℕ) (e : Entry D S room w i p) (ml : unit + i * S ≤ m) (mh : m < unit + (i + 1) * S) where
  factored_to :
      (c m' : ℕ) → c + p % packing ≡ D → unit * D ≤ (unit + i * S) * c → (unit + (i + 1) * S) * c ≤ (unit + room) * D
      → 2 ^ (p / packing) * c ^ scale ≤ D ^ scale → (D * (unit + 1)) ^ scale ≤ 2 ^ (p / packing + w) * (c * unit) ^ scale
      → 0 < c → m' * D ≤ m * c → m * c < m' * D + D → Factored room w m m' (p / packing)
  factored_to c m' ce lo hi cl ch cp rl rh =
      let least' : unit ≤ m' =
      (let g : unit * D < suc m' * D = lt_of_le_of_lt (le_trans lo (mul-le-mul_right c ml)) (omega arith) in
      let g2 : unit < suc m' = lt_of_mul-lt-mul_right D g in omega arith) in
      record {
        least = least';
        most = lt_of_mul-lt-mul_right D (lt_of_le_of_lt rl (lt_of_lt_of_le (mul-lt-mul_of_pos_right mh cp) hi));
        below = cancel_below (m ^ scale) (m' ^ scale) (c ^ scale) (D ^ scale) (2 ^ (p / packing)) (one-le-pow scale c cp) (raise m' D m c scale rl) cl;
        above =
            cancel_above (m ^ scale) (m' ^ scale) ((c * unit) ^ scale) ((D * (unit + 1)) ^ scale) (2 ^ (p / packing + w))
            (one-le-pow scale (c * unit) (omega arith))
            (raise m (c * unit) m' (D * (unit + 1)) scale (rounding_paid m c m' D unit rh least')) ch;
      }

  factored : Factored room w m (times_factor D m p) (p / packing)
  factored =
      let j : p % packing < D = e.small in
      let r = factor_rounds_down D m p j in
      factored_to (D - p % packing) (times_factor D m p) (omega arith) e.lower e.upper e.least e.most (omega arith) r.0 r.1

-- ---- one level

-- the slot of m among those that are S apart, and that it is one of n
pub slot : (S m : ℕ) → unit ≤ m → 0 < S → (unit + (m - unit) / S * S ≤ m) × (m < unit + ((m - unit) / S + 1) * S)
slot S m l p =
    let a : (m - unit) / S * S ≤ m - unit = div-mul-le_self (m - unit) S in
    let b : m - unit < (m - unit) / S * S + S = lt-div-mul-add p in
    (omega arith, omega (arith, add-mul ((m - unit) / S) 1 S))

pub slot_in : (S n m : ℕ) → 0 < S → unit ≤ m → m < unit + n * S → (m - unit) / S < n
slot_in S n m p l h = (div-lt_iff_lt-mul p).1 (omega arith)

pub level :
    {D S room w n : ℕ} {table : List ℕ} → CertifiedTable D S room w n table → (m : ℕ) → 0 < S → unit ≤ m → m < unit + n * S
    → Factored room w m (level_rest table S D m) (level_log table S m)
unfolding level_rest level_log entry_of
level {D} {S} {room} {w} {n} {table} c m p lo hi =
    let r = slot S m lo p in
    factored D S room w ((m - unit) / S) m (entry_at table ((m - unit) / S)) (entry_at_lem c ((m - unit) / S) (slot_in S n m p lo hi)) r.0 r.1

pub small_at :
    {D S room w n : ℕ} {table : List ℕ} → CertifiedTable D S room w n table → (i : ℕ) → i < n → entry_at table i % packing < D
small_at c i h = (entry_at_lem c i h).small

-- ---- the two tables

-- what the first level leaves fits the second level's 256 slots; t is rounded down, and lowered by at most 5
abbrev pub first_width : ℕ
first_width = 6

abbrev pub second_width : ℕ
second_width = 1

-- what the second level leaves is below unit + tail_room
abbrev pub tail_room : ℕ
tail_room = 4328391680

pub first_certified : CertifiedTable first_divisor first_spacing (slot_count * second_spacing) first_width slot_count first_table
unfolding first_table test_at entry_at entry_test at_least at_most least most
first_certified = record { tested = tt }

pub second_certified : CertifiedTable second_divisor second_spacing tail_room second_width slot_count second_table
unfolding second_table test_at entry_at entry_test at_least at_most least most
second_certified = record { tested = tt }
