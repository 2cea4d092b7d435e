-- Change request #107: spans by name, as a chemist would try them, and the limits beside each question. proofs/Examples.antt shows them by computation. A negative
-- number is `negsuc n`, which is −(n + 1).
use Rattle.std.specs.Prelude.{◌≡◌, ℤ, pos, negsuc, Ok}
use Rattle.span.specs.declared.Span.{Span}
use Rattle.span.specs.Questions.{refusal}
use Rattle.span.specs.Span.{span_of}

abbrev pub from_to : ℤ → ℤ → Span
from_to least greatest = record { least = least; greatest = greatest }

pub record SpanExamples : Type 0 where
  -- of one pair, its index twice: "(73300, 8860): A 92."
  pub one_pair : span_of 73300 73300 8860 8860 ≡ Ok (from_to (pos 92) (pos 92))
  -- the same oil with u known to 1 % and y to 0.1 %
  pub capillaries : span_of 72567 74033 8851 8869 ≡ Ok (from_to (pos 91) (pos 94))
  -- an oil below H, likewise: "(22830, 5050): B 156."
  pub below_h : span_of 22602 23058 5045 5055 ≡ Ok (from_to (pos 153) (pos 160))
  -- across 70,000, where the index falls from one y to the next: "with u 30,000,000 the index is −749 at 70,000 and −750 at 70,001" (#113)
  pub across : span_of 30000000 30000000 69999 70001 ≡ Ok (from_to (negsuc 749) (negsuc 748))
  -- across H, the least by procedure A and the greatest by B
  pub across_h : span_of 28400 28600 4990 5010 ≡ Ok (from_to (pos 98) (pos 101))
  -- the greatest index at neither end of y: at 2,164 and at 2,195 it is 4,805
  pub inside : span_of 2201 2201 2164 2195 ≡ Ok (from_to (pos 4805) (pos 4806))

-- the questions, on both sides of each, and their order
pub record RefusedSpans : Type 0 where
  -- "41 a lower limit above its upper"
  pub u_turned : refusal 73301 73300 8860 8860 ≡ 41
  pub y_turned : refusal 73300 73300 8861 8860 ≡ 41
  -- "42 y2 − y1 above 200"
  pub widest : refusal 73300 73300 8860 9060 ≡ 0
  pub too_wide : refusal 73300 73300 8860 9061 ≡ 42
  -- "Questions 1 to 4 are put to y1, y2, u2, and u1 against y2"
  pub y1_too_thin : refusal 20000 20000 1999 2001 ≡ 1
  pub y1_least : refusal 20000 20000 2000 2001 ≡ 0
  pub y2_greatest : refusal 900000 900000 499999 500000 ≡ 0
  pub y2_too_thick : refusal 900000 900000 500000 500001 ≡ 2
  pub u2_greatest : refusal 900000 1000000000 2000 2000 ≡ 0
  pub u2_too_thick : refusal 900000 1000000001 2000 2000 ≡ 3
  pub u1_thicker : refusal 2002 2002 2000 2001 ≡ 0
  pub u1_not_thicker : refusal 2001 2002 2000 2001 ≡ 4
  -- "after the new ones .. in that order": that question fails, and so does each later one that can fail with it
  pub turned_first : refusal 4294967295 1000000001 0 4294967295 ≡ 41
  pub wide_second : refusal 0 1000000001 1 500001 ≡ 42
  pub thin_third : refusal 0 1000000001 1999 1999 ≡ 1
  pub thick_fourth : refusal 0 1000000001 500001 500001 ≡ 2
  pub u_fifth : refusal 0 1000000001 2000 2000 ≡ 3
