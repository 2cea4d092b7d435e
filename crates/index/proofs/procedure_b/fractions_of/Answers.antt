-- The numerators found are those of the oil, and fit their fields (proofs/OilNumerators.antt).
use mathlib.Core.Path.{ap, ◌∙◌}
use Rattle.logarithm.specs.Log2.{log2_of}
use Rattle.index.proofs.OilNumerators.{oil_found}
use Rattle.index.proofs.procedure_b.fractions_of.Goals as goal

pub returns : goal.returns
returns c =
    oil_found c.args.oil c.requires _ _ _ (c.log2_scaled.ensures.value ∙ ap log2_of c.from.ensures) (c.log2_scaled-2.ensures.value ∙ ap log2_of c.in_units.ensures) c.log2_scaled-3.ensures.value _ _ c.lower_numerator-lower.ensures c.upper_numerator-upper.ensures

pub invariant_of-result : goal.invariant_of-result
invariant_of-result c =
    let f = oil_found c.args.oil c.requires _ _ _ (c.log2_scaled.ensures.value ∙ ap log2_of c.from.ensures) (c.log2_scaled-2.ensures.value ∙ ap log2_of c.in_units.ensures) c.log2_scaled-3.ensures.value _ _ c.lower_numerator-lower.ensures c.upper_numerator-upper.ensures in
    record { few = f.lower_fits; order = f.order; next = f.next }
