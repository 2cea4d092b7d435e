-- L, H and U as they were found are the pair's: below H it is an oil of procedure B, and by procedure A the fraction fits.
use mathlib.Core.Path.{◌∙◌, ap}
use Rattle.reference.specs.Viscosity.{in_units}
use Rattle.reference.specs.Basis.{l_at, h_at}
use Rattle.index.proofs.Cases.{oil_below, fraction_fits}
use Rattle.index.proofs.pair.index_passed.Goals as goal

pub procedure_b-requires : goal.procedure_b-requires
procedure_b-requires c =
    rw (c.at40.view_is, c.at100.view_is)
    (oil_below _ _ _ _ c.requires (c.value-h.ensures ∙ ap h_at c.new-located.ensures) (c.in_units-units.ensures ∙ ap in_units c.at40.view_is) c.if-units-h.true)

pub rounded_a-requires : goal.rounded_a-requires
rounded_a-requires c =
    fraction_fits _ _ _ _ c.requires (c.value-h.ensures ∙ ap h_at c.new-located.ensures) (c.in_units-units.ensures ∙ ap in_units c.at40.view_is)
    _ (c.value-l.ensures ∙ ap l_at c.new-located.ensures) c.if-units-h.false
