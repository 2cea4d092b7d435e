-- The sheets of document 01's 'Pairs and sheets to try', computed from the definitions.
use Prim.Native.Nat.{ℕ, ◌*◌}
use mathlib.Core.Path.{◌≡◌, refl}
use mathlib.Core.List.{List, ◌++◌}
use lib.ListN.{length}
use Rattle.answer_record.specs.Bytes.{number_at, bytes_of}
use Rattle.std.specs.Prelude.{Ok, Err}
use Rattle.sheet.specs.declared.refusal.Refusal.TheVariants.{TooManyPairs, BlocksShareBytes}
use Rattle.sheet.specs.Sheet.{header_of, stands_within, share_no_byte, blocks_of, sheet_refusal, records_of, sheet_answer_of, sheet_after}
use Rattle.sheet.specs.Examples.{TriedSheets, RefusedSheets, sheet_of, GreatestSheet}

pub tried_sheets : TriedSheets
unfolding sheet_answer_of sheet_after records_of sheet_refusal blocks_of stands_within share_no_byte number_at bytes_of
tried_sheets = record { accepted = refl; unchanged = refl; pair_offset = refl; result_offset = refl }

shared : (blocks : List ℕ) → length blocks ≡ 20 → sheet_answer_of (header_of 1 16 20 36 ++ blocks) ≡ Err BlocksShareBytes
unfolding sheet_answer_of blocks_of stands_within share_no_byte number_at bytes_of
shared blocks e = rw e refl

pub refused_sheets : RefusedSheets
unfolding sheet_answer_of blocks_of stands_within share_no_byte number_at bytes_of
refused_sheets = record { no_header = refl; short_header = λ byte. refl; total_below = refl; total_above = refl; shared = shared }

full : (blocks : List ℕ) → length blocks ≡ 24 * 2000 → sheet_answer_of (sheet_of 2000 blocks) ≡ Ok 2000
unfolding sheet_answer_of blocks_of stands_within share_no_byte number_at bytes_of
full blocks e = rw e refl

one_more : (blocks : List ℕ) → length blocks ≡ 24 * 2001 → sheet_answer_of (sheet_of 2001 blocks) ≡ Err TooManyPairs
unfolding sheet_answer_of blocks_of stands_within share_no_byte number_at bytes_of
one_more blocks e = rw e refl

pub greatest_sheet : GreatestSheet
greatest_sheet = record { full = full; one_more = one_more }
