-- A refused sheet is left as it is; of an accepted one the blocks lie as the inner functions ask.
use mathlib.Core.Path.{ap, ◌∙◌}
use native.Mathlib.Omega.{arith}
use Rattle.std.specs.Prelude.{Ok}
use Rattle.std.proofs.lemmas.Result.{err_from_is_err_and}
use Rattle.sheet.specs.declared.questions.Blocks.{Blocks}
use Rattle.sheet.proofs.FailsNone.{fails_none}
use Rattle.sheet.proofs.Worked.{accepted, named, worked, failed, refused}
use Rattle.sheet.proofs.Demand3.{demand3}
use Rattle.sheet.proofs.work_sheet.Goals as goal

pub returns-in_err-blocks : goal.returns-in_err-blocks
returns-in_err-blocks c =
    let given = err_from_is_err_and c.from_residual.result c.from_residual.ensures.1 in
    let r = refused _ _ (failed _ c.in_err-blocks.ensures) in
    record { answer = rw (given.1, given.2) r.0; bytes = r.1; demand3 = demand3 _ _ r.1 }

pub work_pairs-requires : goal.work_pairs-requires
work_pairs-requires c = rw (named _ c.in_ok-blocks.ensures) (fails_none _ (accepted _ c.in_ok-blocks.ensures)).blocks

pub overflow_cast-result : goal.overflow_cast-result
overflow_cast-result c =
    let few = (fails_none _ (accepted _ c.in_ok-blocks.ensures)).few in
    rw (named _ c.in_ok-blocks.ensures) (omega (arith, few))

pub returns : goal.returns
returns c =
    let b = named _ c.in_ok-blocks.ensures in
    let r = worked _ _ (accepted _ c.in_ok-blocks.ensures) (rw b at c.work_pairs.ensures) in
    record { answer = ap (λ (k : Blocks). Ok k.count) b ∙ r.0; bytes = r.1; demand3 = demand3 _ _ r.1 }
