-- A row of no numbers is left as it is, and 5 is answered.
use mathlib.Core.Path.{refl}
use Rattle.span_row.specs.SpanCall.{row_number, row_after, NoRow}

pub no_row : NoRow
unfolding row_number row_after
no_row = record { number = λ u1 u2 y1 y2. refl; untouched = λ u1 u2 y1 y2. refl }
