-- The row at or below y and its spacing, of which Places.antt has the row: 100, 200 or 500 thousandths of a mm²/s, by the range that y is in.
use Prim.Native.Nat.{ℕ, ◌+◌, ◌*◌, ◌-◌, ◌/◌, ◌<◌, ◌≤◌}
use mathlib.Core.Path.{◌≡◌}
use mathlib.Core.Bool.{Bool, ◌&&◌}
use lib.Dec.{T, eqb, eqb→eq}
use native.Mathlib.Omega.{arith}
use native.Mathlib.Nat.{add-mul}
use borrow.Author.Tests.{lt-ltb, le-ltb}
use Rattle.laws.proofs.Computed.{and_left, and_right, up_to, below}
use Rattle.reference.specs.Viscosity.{least100}
use Rattle.reference.specs.Basis.{row_count, viscosity_of, last_row, place_of}
use Rattle.reference.specs.Rows.{spacing_of, RowAtOrBelow, EveryRowFound, row_found}
use Rattle.reference.proofs.Places.{Spaced, fine_rows, middle_rows, coarse_rows, stands}

-- ---- the spacing, by the range that y is in

-- among rows of one spacing it is the distance of each to the next one
spacing_among :
    (first last start spacing steps : ℕ) → Spaced first last start spacing → first + steps + 1 ≤ last → spacing_of (first + steps) ≡ spacing
spacing_among first last start spacing steps rows more =
    let here : viscosity_of (first + steps) ≡ start + steps * spacing = rows steps (omega arith) in
    let e : first + steps + 1 ≡ first + (steps + 1) = omega arith in
    let there : viscosity_of (first + steps + 1) ≡ start + (steps + 1) * spacing = rw e (rows (steps + 1) (omega arith)) in
    omega (arith, here, there, add-mul steps 1 spacing)

pub spacing_up_to_20 : (y : ℕ) → y < 20000 → spacing_of (place_of y).row ≡ 100
spacing_up_to_20 y h = rw (lt-ltb y 20000 h) (spacing_among 0 180 2000 100 ((y - 2000) / 100) fine_rows (omega arith))

pub spacing_up_to_30 : (y : ℕ) → 20000 ≤ y → y < 30000 → spacing_of (place_of y).row ≡ 200
spacing_up_to_30 y l h =
    rw (le-ltb y 20000 l, lt-ltb y 30000 h) (spacing_among 180 230 20000 200 ((y - 20000) / 200) middle_rows (omega arith))

pub spacing_up_to_70 : (y : ℕ) → 30000 ≤ y → y ≤ last_row → spacing_of (place_of y).row ≡ 500
spacing_up_to_70 y l h =
    rw (le-ltb y 20000 (omega arith), le-ltb y 30000 l) (spacing_among 230 row_count 30000 500 ((y - 30000) / 500) coarse_rows (omega arith))

-- ---- what is found of every y

right : (y : ℕ) → least100 ≤ y → y ≤ last_row → RowAtOrBelow y (row_found y)
right y low high =
    let s = stands y low high in
    record {
      in_table = s.in_table.row;
      reached = s.below;
      not_next = omega (arith, s.above, s.next_viscosity);
      next = omega (arith, s.next_viscosity);
    }

-- the place of each row is the row itself: one computed test
its_row : ℕ → Bool
its_row i = eqb (place_of (viscosity_of i)).row i

no_share : ℕ → Bool
no_share i = eqb (place_of (viscosity_of i)).share 0

is_on_row : ℕ → Bool
is_on_row i = its_row i && no_share i

every_row_on_itself : T (up_to is_on_row row_count)
unfolding is_on_row its_row no_share
every_row_on_itself = tt

on_row : (i : ℕ) → i < row_count → ((place_of (viscosity_of i)).row ≡ i) × ((place_of (viscosity_of i)).share ≡ 0)
unfolding is_on_row its_row no_share
on_row i h =
    let t = below is_on_row row_count every_row_on_itself i h in (
      eqb→eq (place_of (viscosity_of i)).row i (and_left (its_row i) (no_share i) t),
      eqb→eq (place_of (viscosity_of i)).share 0 (and_right (its_row i) (no_share i) t),
    )

pub every_row_found : EveryRowFound
every_row_found =
    record {
      right = right;
      up_to_20 = λ y low h. spacing_up_to_20 y h;
      up_to_30 = spacing_up_to_30;
      up_to_70 = spacing_up_to_70;
      on_row = on_row;
    }
