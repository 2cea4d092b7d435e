-- A refused writing leaves the buffer; otherwise the blocks are those of a sheet that fits it.
use mathlib.Core.Path.{◌≡◌, ◌∙◌}
use lib.ListN.{length}
use Rattle.std.proofs.lemmas.Result.{err_from_is_err_and}
use Rattle.sheet_writer.specs.Writing.{writing_answer}
use Rattle.sheet_writer.proofs.Written.{refused, fits, written}
use Rattle.sheet_writer.proofs.Right.{right_answer}
use Rattle.sheet_writer.proofs.write_sheet.Goals as goal

pub returns-in_err-blocks : goal.returns-in_err-blocks
returns-in_err-blocks c =
    let given = err_from_is_err_and c.from_residual.result c.from_residual.ensures.1 in
    let r = refused _ _ c.in_err-blocks.ensures in
    let answer : c.from_residual.result ≡ writing_answer c.args.row.now (length c.args.buffer.now) = rw (given.1, given.2) r.0 in
    record { answer = answer; bytes = r.1; right = right_answer _ _ _ c.type_inv.row answer r.1 }

pub fill_sheet-requires : goal.fill_sheet-requires
fill_sheet-requires c = fits _ _ c.in_ok-blocks.ensures

pub returns : goal.returns
returns c =
    let w = written _ _ c.in_ok-blocks.ensures in
    let bytes = c.fill_sheet.ensures ∙ w.1 in
    record { answer = w.0; bytes = bytes; right = right_answer _ _ _ c.type_inv.row w.0 bytes }
