-- What any right call answers and leaves, because limits have just one right answer.
use Prim.Native.Nat.{ℕ}
use mathlib.Core.Path.{◌≡◌, ◌∙◌, ap}
use mathlib.Core.List.{List, [], ◌∷◌}
use lib.IntN.{ℤ, pos}
use lib.ListN.{length}
use Rattle.span.specs.Span.{number_of}
use Rattle.span.proofs.Right.{one_right_span}
use Rattle.span.proofs.Cases.{span_refused}
use Rattle.span.proofs.Examples.{span_examples, refused_spans}
use Rattle.span.specs.declared.questions.Refusal.TheVariants.{TooWide}
use Rattle.span_row.specs.SpanCall.{filled_by, SpanCall, ForcedRow}

pub forced_row : ForcedRow
forced_row = record { filled = filled; refused = refused }
  where
    filled : (lent after : List ℤ) (number : ℕ) → length lent ≡ 2 → SpanCall 72567 74033 8851 8869 lent number after
        → (number ≡ 0) × (after ≡ pos 91 ∷ pos 94 ∷ [])
    filled lent after number e c =
        let f = c.just_2 e in
        let a = one_right_span.only 72567 74033 8851 8869 f.answer f.right ∙ span_examples.capillaries in
        (f.number_is ∙ ap number_of a, f.row_is ∙ ap (filled_by lent) a)

    refused : (lent after : List ℤ) (number : ℕ) → length lent ≡ 2 → SpanCall 73300 73300 8860 9061 lent number after → (number ≡ 42) × (after ≡ lent)
    refused lent after number e c =
        let f = c.just_2 e in
        let a = one_right_span.only 73300 73300 8860 9061 f.answer f.right ∙ span_refused 73300 73300 8860 9061 TooWide refused_spans.too_wide in
        (f.number_is ∙ ap number_of a, f.row_is ∙ ap (filled_by lent) a)
