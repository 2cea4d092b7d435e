-- A record of another length is left as it is; one of 16 bytes becomes the record of the pair's answer.
use mathlib.Core.Path.{ap, ◌∙◌}
use borrow.Author.Tests.{eq-eqb, ne_eqb}
use Rattle.index.specs.Answer.{number_of}
use Rattle.index.proofs.PairNumber.{number_of_pair}
use Rattle.answer_record.specs.Record.{record_of}
use Rattle.answer_record.proofs.Records.{pair_stored, whole}
use Rattle.viscosity_index.specs.PairCall.{pair_number, record_after}
use Rattle.viscosity_index.proofs.Calls.{untouched, filled}
use Rattle.viscosity_index.proofs.vi_pair.Goals as goal

pub returns-then-record-ne-RESULT_SIZE : goal.returns-then-record-ne-RESULT_SIZE
unfolding pair_number record_after
returns-then-record-ne-RESULT_SIZE c =
    let other = c.if-record-ne-RESULT_SIZE.true in
    record { number = simp (ne_eqb _ _ other); bytes = simp (ne_eqb _ _ other); right = untouched _ _ _ other }

pub returns : goal.returns
unfolding pair_number record_after
returns c =
    let just16 = c.if-record-ne-RESULT_SIZE.false in
    let answered = c.answer_pair-answer.ensures in
    let number = c.from.ensures ∙ number_of_pair c.answer_pair-answer.result c.number_of.ensures in
    let bytes = whole _ _ c.answer_pair-answer.result just16 (pair_stored _ _ 0 c.answer_pair-answer.result c.write_result.ensures) in
    record {
      number = simp (eq-eqb _ _ just16) (number ∙ ap number_of answered.value);
      bytes = simp (eq-eqb _ _ just16) (bytes ∙ ap record_of answered.value);
      right = filled _ _ _ _ _ just16 answered.value answered.right bytes number;
    }
