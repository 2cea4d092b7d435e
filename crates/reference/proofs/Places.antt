-- The place of y in Table 1 is at the row at or below y, and its share of the way is exact, for each y from 2,000 to 70,000.
use Prim.Native.Nat.{ℕ, ◌+◌, ◌*◌, ◌-◌, ◌/◌, ◌%◌, ◌<◌, ◌≤◌}
use mathlib.Core.Path.{◌≡◌, refl, ◌∙◌, ap}
use lib.Dec.{lit≤}
use native.Mathlib.Omega.{arith}
use native.Mathlib.Nat.{add-mul, mul_assoc, zero-mul, lt_of_mul-lt-mul_right}
use borrow.Author.Tests.{lt-ltb, le-ltb}
use Rattle.laws.proofs.Order.{by_order}
use Rattle.reference.specs.Viscosity.{least100}
use Rattle.reference.specs.Basis.{row_count, viscosity_of, last_row, whole_way, place_of}
use Rattle.reference.specs.StraightLines.{Stands}

-- ---- the viscosity of a row, by the range that the row is in

-- the rows from `first` to `last` are `spacing` apart, and row `first` stands at `start`
abbrev pub Spaced : ℕ → ℕ → ℕ → ℕ → Type 0
Spaced first last start spacing = (k : ℕ) → first + k ≤ last → viscosity_of (first + k) ≡ start + k * spacing

pub fine_rows : Spaced 0 180 2000 100
fine_rows k h =
    by_order (0 + k) 180 (λ a. rw (lt-ltb (0 + k) 180 a) (omega arith))
    (λ a. rw (le-ltb (0 + k) 180 a, lt-ltb (0 + k) 230 (omega arith)) (omega arith))

pub middle_rows : Spaced 180 230 20000 200
middle_rows k h =
    rw (le-ltb (180 + k) 180 (omega arith))
    (by_order (180 + k) 230 (λ a. rw (lt-ltb (180 + k) 230 a) (omega arith)) (λ a. rw (le-ltb (180 + k) 230 a) (omega arith)))

pub coarse_rows : Spaced 230 row_count 30000 500
coarse_rows k h = rw (le-ltb (230 + k) 180 (omega arith), le-ltb (230 + k) 230 (omega arith)) (omega arith)

-- ---- y among rows of one spacing

-- y stands `over` past row `first + steps`; a `spacing` times `scale` is the whole way
stands_among :
    (first last start spacing scale steps over y : ℕ) → Spaced first last start spacing → last ≤ row_count → scale * spacing ≡ whole_way →
    y ≡ start + steps * spacing + over → over < spacing → first + steps + 1 ≤ last → ((over ≡ 0 → ⊥) → first + steps + 1 < row_count) →
    Stands y (record { row = first + steps; share = over * scale })
stands_among first last start spacing scale steps over y rows all whole split part more next =
    let here : viscosity_of (first + steps) ≡ start + steps * spacing = rows steps (omega arith) in
    let e : first + steps + 1 ≡ first + (steps + 1) = omega arith in
    let there : viscosity_of (first + steps + 1) ≡ start + (steps + 1) * spacing = rw e (rows (steps + 1) (omega arith)) in
    let shares : over * scale * spacing ≡ over * whole_way = mul_assoc over scale spacing ∙ ap (λ (n : ℕ). over * n) whole in
    let past : (over * scale ≡ 0 → ⊥) → over ≡ 0 → ⊥ = λ n z. n (rw z (zero-mul scale)) in
    record {
      in_table = record { row = omega arith; next = λ n. next (past n); inside = lt_of_mul-lt-mul_right spacing (omega (arith, shares)) };
      spacing = spacing;
      some = omega arith;
      below = omega arith;
      above = omega arith;
      next_viscosity = omega (arith, here, there, add-mul steps 1 spacing);
      exact = omega (arith, shares, here);
    }

pub stands : (y : ℕ) → least100 ≤ y → y ≤ last_row → Stands y (place_of y)
stands y low high =
    by_order y 20000
    (λ a. rw (lt-ltb y 20000 a)
    (stands_among 0 180 2000 100 10 ((y - 2000) / 100) ((y - 2000) % 100) y fine_rows (lit≤ tt) refl
    (omega arith) (omega arith) (omega arith) (λ n. omega arith)))
    (λ a. by_order y 30000
    (λ b. rw (le-ltb y 20000 a, lt-ltb y 30000 b)
    (stands_among 180 230 20000 200 5 ((y - 20000) / 200) ((y - 20000) % 200) y middle_rows (lit≤ tt) refl
    (omega arith) (omega arith) (omega arith) (λ n. omega arith)))
    (λ b. rw (le-ltb y 20000 a, le-ltb y 30000 b)
    (stands_among 230 row_count 30000 500 2 ((y - 30000) / 500) ((y - 30000) % 500) y coarse_rows (lit≤ tt) refl
    (omega arith) (omega arith) (omega arith) (λ n. omega arith))))
