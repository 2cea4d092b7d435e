-- The header and the two blocks, one behind the other, are the whole sheet.
use Rattle.sheet_writer.proofs.Filled.{filled}
use Rattle.sheet_writer.proofs.fill.fill_sheet.Goals as goal

pub returns : goal.returns
returns c = filled _ _ c.requires c.store_header.ensures c.store_pairs.ensures
