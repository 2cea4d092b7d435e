-- Laws of the straight line between two rows' entries a and b, and of the value at a place of the table, which lies on it.
use Prim.Native.Nat.{ℕ, ◌+◌, ◌*◌, ◌-◌, ◌<◌, ◌≤◌}
use mathlib.Core.Path.{◌≡◌, sym, ◌∙◌, ap}
use mathlib.Core.Logic.{⊎_elim}
use native.Mathlib.Omega.{arith}
use native.Mathlib.Nat.{mul-le-mul_right, add-mul, mul-add, mul_assoc, eq-zero-or-pos}
use borrow.Author.Tests.{eq-eqb, ne_eqb}
use Rattle.reference.specs.declared.row.Place.{Place}
use Rattle.reference.specs.Viscosity.{in_units}
use Rattle.reference.specs.Basis.{whole_way, units_per_millionth, straight_line, at_place}

-- ---- the straight line

-- the weights of a and of b are the whole way
weights_add_up : (k share : ℕ) → share ≤ whole_way → k * (whole_way - share) + k * share ≡ k * whole_way
weights_add_up k share s = sym (mul-add k (whole_way - share) share) ∙ ap (λ (n : ℕ). k * n) (omega arith)

-- between two equal entries it is level
pub straight_line_level : (k share : ℕ) → share ≤ whole_way → straight_line k k share ≡ in_units k
straight_line_level k share s = omega (arith, weights_add_up k share s)

-- from a up to b it is a and so much of the rise as the share says
pub straight_line_rises : (a b share : ℕ) → a ≤ b → share ≤ whole_way → in_units a + (b - a) * (share * units_per_millionth) ≡ straight_line a b share
straight_line_rises a b share h s =
    let to-b : b * share ≡ a * share + (b - a) * share = ap (λ (n : ℕ). n * share) (omega arith) ∙ add-mul a (b - a) share in
    omega (arith, weights_add_up a share s, to-b, mul_assoc (b - a) share units_per_millionth)

-- where both ends lie g lower, it lies g lower all the way
pub straight_lines_apart :
    (a b a' b' g share : ℕ) → share ≤ whole_way → a' + g ≤ a → b' + g ≤ b → straight_line a' b' share + in_units g ≤ straight_line a b share
straight_lines_apart a b a' b' g share s h i =
    let from-a : a' * (whole_way - share) + g * (whole_way - share) ≤ a * (whole_way - share) = rw add-mul at (mul-le-mul_right (whole_way - share) h) in
    let from-b : b' * share + g * share ≤ b * share = rw add-mul at (mul-le-mul_right share i) in
    omega (arith, weights_add_up g share s)

-- where it falls not from a to b, it falls nowhere
pub straight_line_climbs :
    (a b share share' : ℕ) → a ≤ b → share ≤ share' → share' ≤ whole_way → straight_line a b share ≤ straight_line a b share'
straight_line_climbs a b share share' h l m =
    let from-a : a * (whole_way - share) ≡ a * (whole_way - share') + a * (share' - share) =
    ap (λ (n : ℕ). a * n) (omega arith) ∙ mul-add a (whole_way - share') (share' - share) in
    let from-b : b * share' ≡ b * share + b * (share' - share) = ap (λ (n : ℕ). b * n) (omega arith) ∙ mul-add b share (share' - share) in
    omega (arith, from-a, from-b, mul-le-mul_right (share' - share) h)

-- two of them add up to the one through the sums
pub straight_lines_add : (a b c d share : ℕ) → straight_line a b share + straight_line c d share ≡ straight_line (a + c) (b + d) share
straight_lines_add a b c d share = omega (arith, add-mul a c (whole_way - share), add-mul b d share)

-- ---- the value at a place

-- on a row and between rows it is the straight line's
pub value_on_straight_line : (entries : ℕ → ℕ) (p : Place) → at_place entries p ≡ straight_line (entries p.row) (entries (p.row + 1)) p.share
unfolding at_place
value_on_straight_line entries p =
    ⊎_elim
    (λ (z : p.share ≡ 0). rw (eq-eqb p.share 0 z, z) (omega arith))
    (λ (n : 0 < p.share). simp (ne_eqb p.share 0 (λ e. omega arith)))
    (eq-zero-or-pos p.share)

pub value_on_row : (entries : ℕ → ℕ) (p : Place) → p.share ≡ 0 → at_place entries p ≡ in_units (entries p.row)
value_on_row entries p z = value_on_straight_line entries p ∙ rw z (omega arith)

-- where the next row's entry is not less, it is at most that
pub value_at_most_next :
    (entries : ℕ → ℕ) (p : Place) → p.share < whole_way → entries p.row ≤ entries (p.row + 1) → at_place entries p ≤ in_units (entries (p.row + 1))
value_at_most_next entries p s h =
    let l = straight_line_climbs (entries p.row) (entries (p.row + 1)) p.share whole_way h (omega arith) (omega arith) in
    omega (arith, value_on_straight_line entries p, l)
