-- The named spans, computed from the definitions.
use mathlib.Core.Path.{refl}
use Rattle.reference.specs.Table1.{table1}
use Rattle.reference.specs.Basis.{entry, at_place, l_at, h_at}
use Rattle.index.specs.ProcedureA.{rounded_a, index_a}
use lib.Count.{count_leading_zeros}
use Rattle.logarithm.specs.Tables.{first_table, second_table}
use Rattle.logarithm.specs.Log2.{log2_of, fraction_of, mantissa, zeros_of, entry_at, entry_of, times_factor, level_log, level_rest, tail_of, rest_of}
use Rattle.shown_index.specs.ChosenIndex.{shows_least, shows_most, search_of, whole_of, marked_of}
use Rattle.index.specs.ChosenFractions.{lower_from, upper_from, lower_of_oil, upper_of_oil, by_b_of}
use Rattle.index.specs.ChosenAnswer.{index_passed, answer_of}
use Rattle.span.specs.Extremes.{extreme_after, extreme_of}
use Rattle.span.specs.Span.{span_of}
use Rattle.span.specs.Examples.{SpanExamples, RefusedSpans}

pub span_examples : SpanExamples
unfolding span_of extreme_of extreme_after answer_of index_passed index_a rounded_a l_at h_at at_place entry table1 by_b_of lower_of_oil upper_of_oil lower_from upper_from whole_of search_of marked_of shows_least shows_most log2_of fraction_of mantissa zeros_of entry_at entry_of times_factor level_log level_rest tail_of rest_of first_table second_table count_leading_zeros
span_examples = record { one_pair = refl; capillaries = refl; below_h = refl; across = refl; across_h = refl; inside = refl }

pub refused_spans : RefusedSpans
refused_spans =
    record {
      u_turned = refl;
      y_turned = refl;
      widest = refl;
      too_wide = refl;
      y1_too_thin = refl;
      y1_least = refl;
      y2_greatest = refl;
      y2_too_thick = refl;
      u2_greatest = refl;
      u2_too_thick = refl;
      u1_thicker = refl;
      u1_not_thicker = refl;
      turned_first = refl;
      wide_second = refl;
      thin_third = refl;
      thick_fourth = refl;
      u_fifth = refl;
    }
