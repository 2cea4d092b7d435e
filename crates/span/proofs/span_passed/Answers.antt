-- Each extreme over all y is the one of the definition, because there is just one (proofs/Extremes.antt).
use mathlib.Core.Path.{ap₂, ◌∙◌}
use mir.Syntax.{w32}
use Rattle.std.proofs.Math.Facts.{to_z-of_z}
use Rattle.span.specs.declared.extreme.Extreme.TheVariants.{Least, Greatest}
use Rattle.span.specs.Span.{index_at}
use Rattle.span.proofs.Extremes.{extremes}
use Rattle.span.proofs.Right.{span_from}
use Rattle.span.proofs.span_passed.Goals as goal

pub returns : goal.returns
returns c =
    let l = c.args.limits in
    ap₂ span_from
    (to_z-of_z {w = w32} {z = c.over.result} (record { sfits = c.over.type_inv }) ∙ extremes.only Least (index_at l.u2) l.y1 l.y2 c.over.result c.over.ensures)
    (to_z-of_z {w = w32} {z = c.over-2.result} (record { sfits = c.over-2.type_inv }) ∙ extremes.only Greatest (index_at l.u1) l.y1 l.y2 c.over-2.result c.over-2.ensures)
