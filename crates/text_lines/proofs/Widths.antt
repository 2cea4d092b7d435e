-- How many digits the numbers of a line have: a count of pairs, and a number of one byte.
use Rattle.std.proofs.Common.{ℕ, ◌^◌, ◌≤◌, ◌<◌, length, arith}
use Rattle.sheet.specs.Sheet.{most_pairs}
use Rattle.text_fields.specs.Fields.{decimal}
use Rattle.text_fields.proofs.Digits.{few_digits}

pub digits_of_count : (n : ℕ) → n ≤ most_pairs → length (decimal n) ≤ 4
digits_of_count n h = few_digits 3 n (omega arith)

pub digits_of_byte : (n : ℕ) → n < 2 ^ 8 → length (decimal n) ≤ 3
digits_of_byte n h = few_digits 2 n (omega arith)
