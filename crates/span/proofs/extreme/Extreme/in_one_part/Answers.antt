-- The walk starts with an index of the stretch, and keeps its invariant where a stretch is passed over; where half of it is looked at nothing changes.
use Prim.Native.Nat.{ℕ, ◌+◌, ◌-◌, ◌≤◌}
use mathlib.Core.Path.{◌≡◌, sym, ap, ◌∙◌, subst}
use mathlib.Core.Bool.{false}
use mathlib.Core.Logic.{◌⊎◌, inl, inr, ⊎_elim}
use lib.IntN.{ℤ}
use native.Mathlib.Omega.{arith}
use mir.Syntax.{w32}
use mir.Val.{to_z, of_z}
use Rattle.std.proofs.Math.Facts.{to_z-of_z}
use Rattle.span.specs.Extremes.{is_beyond, of_two}
use Rattle.span.specs.Bound.{index_between, bound_of, end_of}
use Rattle.span.proofs.Walk.{Walked, starts, passed}
use Rattle.span.proofs.extreme.Extreme.in_one_part.Goals as goal

pub loop-next-init : goal.loop-next-init
loop-next-init c =
    let a = c.args in
    let e : to_z w32 (of_z w32 c.index_between-found.result) ≡ index_between a.u (end_of a.self a.from a.to) (end_of a.self a.from a.to) =
    to_z-of_z {w = w32} {z = c.index_between-found.result} (record { sfits = c.index_between-found.type_inv })
    ∙ c.index_between-found.ensures ∙ ap (λ (y : ℕ). index_between a.u y y) c.end_of-end.ensures in
    rw (c.first_of-next.ensures, c.last_of-last.ensures) (starts a.self a.u a.from a.to _ c.requires.0 e)

pub loop-next-preserved : goal.loop-next-preserved
loop-next-preserved c =
    let a = c.args in
    let l = c.loop-next in
    let found : ℤ = to_z w32 l.found-bits in
    let bound : ℤ = to_z w32 (of_z w32 c.bound_of-bound.result) in
    let is : bound ≡ bound_of a.self a.u l.next (l.next + (l.width - 1)) =
    to_z-of_z {w = w32} {z = c.bound_of-bound.result} (record { sfits = c.bound_of-bound.type_inv }) ∙ c.bound_of-bound.ensures in
    let e : to_z w32 (of_z w32 c.of_two-found.result) ≡ of_two a.self found bound =
    to_z-of_z {w = w32} {z = c.of_two-found.result} (record { sfits = c.of_two-found.type_inv }) ∙ c.of_two-found.ensures in
    let either : (is_beyond a.self bound found ≡ false) ⊎ (l.width ≤ 1) =
    ⊎_elim (λ h. inr h.1) (λ h. inl (sym c.is_beyond.ensures ∙ h)) c.else-is_beyond.either in
    let last : ℕ = c.last_of-last.result in
    subst (Walked a.self a.u a.from a.to last (l.next + l.width) c.min-width.result) (sym e)
    (passed a.self a.u a.from a.to last c.requires.0 c.requires.1 l.next l.width found l.invariant (omega (arith, c.loop-next-test.true)) bound is either c.min-width.result c.min-width.ensures)
