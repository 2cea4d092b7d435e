-- By procedure B the oil with H at the one y is below it, and its index fits 32 bits; by A, L, H and U as they were found are those of the definition.
use Prim.Native.Nat.{◌<◌}
use mathlib.Core.Path.{ap, ◌∙◌}
use native.Mathlib.Omega.{arith}
use mir.Syntax.{w32}
use Rattle.std.proofs.Math.Facts.{to_z-of_z, to_z_pos}
use Rattle.laws.specs.Bits.{half32}
use Rattle.reference.specs.Basis.{l_at, h_at}
use Rattle.span.proofs.Bounded.{oil_below, b_most, b_index, a_fits, a_index}
use Rattle.span.proofs.bound.index_between.Goals as goal

pub procedure_b-requires : goal.procedure_b-requires
procedure_b-requires c =
    oil_below c.args.u c.args.at c.args.y _ _ c.requires (c.value-h.ensures ∙ ap h_at c.new-located.ensures) c.in_units-units.ensures c.if-units-h.true

pub overflow_cast-result : goal.overflow_cast-result
overflow_cast-result c =
    let a = c.args in
    let most = b_most a.u a.at a.y _ _ c.requires (c.value-h.ensures ∙ ap h_at c.new-located.ensures) c.in_units-units.ensures c.procedure_b.result c.procedure_b.ensures c.if-units-h.true in
    record { sfits = omega (arith, most) }

pub returns-then-units-h : goal.returns-then-units-h
returns-then-units-h c =
    let a = c.args in
    let most = b_most a.u a.at a.y _ _ c.requires (c.value-h.ensures ∙ ap h_at c.new-located.ensures) c.in_units-units.ensures c.procedure_b.result c.procedure_b.ensures c.if-units-h.true in
    let n : c.procedure_b.result.index < half32 = omega (arith, most) in
    to_z_pos w32 n
    ∙ b_index a.u a.at a.y _ _ c.requires (c.value-h.ensures ∙ ap h_at c.new-located.ensures) c.in_units-units.ensures c.procedure_b.result c.procedure_b.ensures c.if-units-h.true

pub rounded_a-requires : goal.rounded_a-requires
rounded_a-requires c =
    a_fits c.args.u c.args.at c.args.y _ _ c.requires (c.value-h.ensures ∙ ap h_at c.new-located.ensures) c.in_units-units.ensures
    _ (c.value.ensures ∙ ap l_at c.new-located.ensures) c.if-units-h.false

pub returns : goal.returns
returns c =
    to_z-of_z {w = w32} {z = c.rounded_a.result} (record { sfits = c.rounded_a.type_inv })
    ∙ a_index c.args.u c.args.at c.args.y _ _ c.requires (c.value-h.ensures ∙ ap h_at c.new-located.ensures) c.in_units-units.ensures
    _ (c.value.ensures ∙ ap l_at c.new-located.ensures) _ c.rounded_a.ensures c.if-units-h.false
