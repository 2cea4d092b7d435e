-- Nine numbers as they are stored, and the summary that is read back from them.
use Prim.Native.Nat.{ℕ}
use mathlib.Core.Path.{◌≡◌, refl, sym, ap, ◌∙◌}
use mathlib.Core.Bool.{true}
use mathlib.Core.List.{List}
use native.Mathlib.Omega.{arith}
use lib.ListN.{length, get_or}
use Rattle.laws.proofs.Contradiction.{both_ways}
use Rattle.laws.proofs.Order.{by_test}
use Rattle.index_summary.specs.declared.Summary.{Summary}
use Rattle.index_summary.specs.Summary.{nothing, is_of_none}
use Rattle.index_summary.specs.Preconditions.{most, Within}
use Rattle.summary_block.specs.Block.{signed_of_words, block_length, numbers_of, block_of_none, block_of, fields_from, read, summary_from, EveryBlock}
use Rattle.summary_block.proofs.Words.{words_back}

numbers_back : (t : Summary) → Within most t → fields_from (numbers_of t) ≡ t
unfolding numbers_of
numbers_back t w =
    rw (
      words_back t.lowest (omega (arith, w.lowest)),
      words_back t.highest (omega (arith, w.highest)),
      words_back t.sum (omega (arith, w.sum)),
    )

-- nine numbers whose fields count none are read as the summary of none, whatever else they say
pub read_none : (block : List ℕ) {t : Summary} → t ≡ fields_from block → is_of_none t ≡ true → summary_from block ≡ nothing
unfolding summary_from
read_none block {t} e h = rw h at (ap read (sym e))

none_kept : summary_from block_of_none ≡ nothing
unfolding signed_of_words
none_kept = read_none block_of_none refl refl

block_back : (t : Summary) → Within most t → (is_of_none t ≡ true → t ≡ nothing) → summary_from (block_of t) ≡ t
unfolding block_of summary_from
block_back t w none = by_test (is_of_none t) (λ e. rw e (none_kept ∙ sym (none e))) (λ e. rw e (ap read (numbers_back t w) ∙ rw e))

length_block : (t : Summary) → length (block_of t) ≡ block_length
unfolding block_of numbers_of
length_block t = by_test (is_of_none t) (λ e. rw e) (λ e. rw e)

none_stored : (t : Summary) → is_of_none t ≡ true → block_of t ≡ block_of_none
unfolding block_of
none_stored t e = rw e

pub none_is_nothing : (block : List ℕ) → is_of_none (summary_from block) ≡ true → summary_from block ≡ nothing
unfolding summary_from
none_is_nothing block h = by_test (is_of_none (fields_from block)) (read_none block refl) (λ e. both_ways (rw e at h) e)

counts_none : (block : List ℕ) → get_or block 6 0 ≡ 0 → get_or block 7 0 ≡ 0 → get_or block 8 0 ≡ 0 → summary_from block ≡ nothing
counts_none block a b c = read_none block refl (rw (a, b, c))

pub every_block : EveryBlock
every_block = record { nine = length_block; back = block_back; zeros = none_kept; none_stored = none_stored; none = counts_none }
