-- The straight line rounds nothing: with y standing `over` above its row and the next row `spacing` above that row, the value times the
-- spacing is the sum of the two rows' entries, weighted by the distances to the other row, in units.
use Prim.Native.Nat.{ℕ, ◌+◌, ◌*◌, ◌-◌}
use mathlib.Core.Path.{◌≡◌, ◌∙◌, ap}
use native.Mathlib.Omega.{arith}
use native.Mathlib.Nat.{mul_assoc, mul_comm, mul_left_comm, add-mul, mul-sub}
use borrow.Author.Tests.{le-leb}
use Rattle.reference.specs.declared.row.Place.{Place}
use Rattle.reference.specs.Viscosity.{in_units}
use Rattle.reference.specs.Basis.{row_l, row_h, viscosity_of, last_row, whole_way, place_of, units_per_millionth, at_place, l_at, h_at}
use Rattle.reference.specs.StraightLines.{Stands, weighed, NothingRounded}
use Rattle.reference.proofs.Places.{stands}
use Rattle.reference.proofs.StraightLines.{value_on_straight_line}

-- shares of the way, times the spacing, are distances: `over` from the row to y, `short` from y to the next row
shares_to_distances :
    (a b share rest spacing over short : ℕ) → share * spacing ≡ whole_way * over → rest * spacing ≡ whole_way * short →
    (a * rest + b * share) * units_per_millionth * spacing ≡ in_units (a * short + b * over)
shares_to_distances a b share rest spacing over short e f =
    let from-a : a * (rest * spacing) ≡ a * (whole_way * short) = ap (λ (n : ℕ). a * n) f in
    let from-b : b * (share * spacing) ≡ b * (whole_way * over) = ap (λ (n : ℕ). b * n) e in
    simp (add-mul, mul_assoc, mul_comm, mul_left_comm) (omega (arith, simp mul_left_comm at from-a, simp mul_left_comm at from-b))

value_by_distances :
    (entries : ℕ → ℕ) (y : ℕ) (p : Place) (s : Stands y p) → at_place entries p * s.spacing ≡ in_units (weighed entries y p.row s.spacing)
value_by_distances entries y p s =
    let rest : (whole_way - p.share) * s.spacing ≡ whole_way * (viscosity_of p.row + s.spacing - y) =
    mul_comm (whole_way - p.share) s.spacing ∙ mul-sub s.spacing whole_way p.share
    ∙ omega (arith, mul_comm s.spacing p.share, s.exact, s.below, s.above) in
    ap (λ (n : ℕ). n * s.spacing) (value_on_straight_line entries p)
    ∙ shares_to_distances (entries p.row) (entries (p.row + 1)) p.share (whole_way - p.share) s.spacing (y - viscosity_of p.row)
    (viscosity_of p.row + s.spacing - y) s.exact rest

pub nothing_rounded : NothingRounded
unfolding l_at h_at
nothing_rounded =
    record {
      straight = λ y low high.
          let s = stands y low high in
          let e = le-leb y last_row high in
          record { stands = s; l = rw e (value_by_distances row_l y (place_of y) s); h = rw e (value_by_distances row_h y (place_of y) s) };
    }
