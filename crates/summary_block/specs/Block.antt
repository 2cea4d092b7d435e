-- Change request #105: "lowest, highest, sum and counts are held in the tray". The numbers of 32 bits that say a summary; the request leaves their layout free,
-- and `EveryBlock`, at the end, says what holds of it.
use Rattle.std.specs.Prelude.{ℕ, suc, ◌+◌, ◌*◌, ◌-◌, ◌/◌, ◌%◌, ◌≡◌, true, cond, List, [], ◌∷◌, ltb, ℤ, pos, negsuc, length, get_or, replicate}
use Rattle.laws.specs.Bits.{span32}
use Rattle.index_summary.specs.declared.Summary.{Summary}
use Rattle.index_summary.specs.Summary.{nothing, is_of_none}
use Rattle.index_summary.specs.Preconditions.{most, Within}

-- ---- a number with sign as two numbers of 32 bits

-- how many numbers 64 bits hold, and the half of them
abbrev pub span64 : ℕ
span64 = 18446744073709551616

abbrev pub half64 : ℕ
half64 = 9223372036854775808

-- two's complement: a number below zero, negsuc n = −(n + 1), is held as 2^64 − (n + 1)
abbrev pub twos_complement_64 : ℤ → ℕ
twos_complement_64 (pos n) = n
twos_complement_64 (negsuc n) = span64 - suc n

abbrev pub signed_of_64 : ℕ → ℤ
signed_of_64 x = cond (ltb x half64) (pos x) (negsuc (span64 - suc x))

-- its lower 32 bits and its upper 32 bits, and the number that two such words stand for
unfoldable pub low_word : ℤ → ℕ
low_word x = twos_complement_64 x % span32

unfoldable pub high_word : ℤ → ℕ
high_word x = twos_complement_64 x / span32

unfoldable pub signed_of_words : ℕ → ℕ → ℤ
signed_of_words low high = signed_of_64 (low + span32 * high)

-- ---- a summary as nine numbers

abbrev pub block_length : ℕ
block_length = 9

-- the numbers of a summary: lowest, highest and sum, of each the lower bits first, and how many are by A, by B settled and by B near
unfoldable pub numbers_of : Summary → List ℕ
numbers_of t =
    low_word t.lowest ∷ high_word t.lowest ∷ low_word t.highest ∷ high_word t.highest ∷ low_word t.sum ∷ high_word t.sum
    ∷ t.a ∷ t.settled ∷ t.near ∷ []

-- what is stored: zeros for a summary of none, as in memory that is all zeros
abbrev pub block_of_none : List ℕ
block_of_none = replicate block_length 0

unfoldable pub block_of : Summary → List ℕ
block_of t = cond (is_of_none t) block_of_none (numbers_of t)

-- the number with sign that stands at `at` and behind it
abbrev pub signed_at : List ℕ → ℕ → ℤ
signed_at block at = signed_of_words (get_or block at 0) (get_or block (at + 1) 0)

-- the fields that nine numbers say, and the summary: of none where they count none, whatever else they say
abbrev pub fields_from : List ℕ → Summary
fields_from block = record {
  lowest = signed_at block 0;
  highest = signed_at block 2;
  sum = signed_at block 4;
  a = get_or block 6 0;
  settled = get_or block 7 0;
  near = get_or block 8 0;
}

abbrev pub read : Summary → Summary
read fields = cond (is_of_none fields) nothing fields

unfoldable pub summary_from : List ℕ → Summary
summary_from block = read (fields_from block)

-- ---- what holds of it

pub record EveryBlock : Type 0 where
  -- a summary is nine numbers
  pub nine : (t : Summary) → length (block_of t) ≡ 9
  -- a summary whose numbers fit, of up to 65,536 answers, is read back as it was stored; and so is the summary of none
  pub back : (t : Summary) → Within most t → (is_of_none t ≡ true → t ≡ nothing) → summary_from (block_of t) ≡ t
  -- zeros are the summary of none
  pub zeros : summary_from (replicate 9 0) ≡ nothing
  -- a summary of none is stored as nine zeros, whatever its other numbers are
  pub none_stored : (t : Summary) → is_of_none t ≡ true → block_of t ≡ replicate 9 0
  -- whatever stands in the other six, nine numbers that count none say none
  pub none : (block : List ℕ) → get_or block 6 0 ≡ 0 → get_or block 7 0 ≡ 0 → get_or block 8 0 ≡ 0 → summary_from block ≡ nothing
