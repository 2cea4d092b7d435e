-- Numbers and bytes read from lists put together, and what a written sheet says to the sheet's readers.
use Prim.Native.Nat.{ℕ, zero, suc, ◌+◌, ◌*◌, ◌-◌, ◌≤◌, ◌<◌}
use mathlib.Core.Path.{◌≡◌, sym, ap, ◌∙◌}
use mathlib.Core.List.{List, ◌++◌}
use native.Mathlib.Nat.{add_assoc}
use native.Mathlib.Omega.{arith}
use lib.ListN.{length, get_or, get_or-append, length-replicate}
use lib.Seq.{get_or-append_right}
use Rattle.std.proofs.lemmas.List.{get_or-append-add, get_or-replicate, get_or_past}
use Rattle.laws.specs.Bits.{span32}
use Rattle.laws.proofs.Order.{by_order}
use Rattle.answer_record.specs.Bytes.{number_size, number_at, bytes_of}
use Rattle.answer_record.specs.Record.{result_size}
use Rattle.answer_record.proofs.Numbers.{joined_again}
use Rattle.sheet.specs.declared.Pair.{Pair}
use Rattle.sheet.specs.declared.questions.Blocks.{Blocks}
use Rattle.sheet.specs.Sheet.{pair_size, y_offset, count_offset, pairs_offset, results_offset, total_offset}
use Rattle.sheet_writer.specs.Writing.{pair_in, pair_bytes, pairs_bytes, unworked, unworked_results, header_naming}
use Rattle.sheet_writer.proofs.Pairs.{length_pairs}

-- a number that stands in the first of two lists, and one that stands in the second
pub number_in : (xs ys : List ℕ) (at : ℕ) → at + number_size ≤ length xs → number_at (xs ++ ys) at ≡ number_at xs at
unfolding number_at
number_in xs ys at h =
    rw (
      get_or-append xs ys 0 at (omega arith),
      get_or-append xs ys 0 (at + 1) (omega arith),
      get_or-append xs ys 0 (at + 2) (omega arith),
      get_or-append xs ys 0 (at + 3) (omega arith),
    )

pub number_past : (xs ys : List ℕ) (at j : ℕ) → at ≡ length xs + j → number_at (xs ++ ys) at ≡ number_at ys j
unfolding number_at
number_past xs ys at j e =
    rw (
      e,
      add_assoc (length xs) j 1,
      add_assoc (length xs) j 2,
      add_assoc (length xs) j 3,
      get_or-append-add xs ys j 0,
      get_or-append-add xs ys (j + 1) 0,
      get_or-append-add xs ys (j + 2) 0,
      get_or-append-add xs ys (j + 3) 0,
    )

-- the numbers of a header
module _ (blocks : Blocks) (total : ℕ) (rest : List ℕ) where
  pub count_read : blocks.count < span32 → number_at (header_naming blocks total ++ rest) count_offset ≡ blocks.count
  unfolding number_at bytes_of
  count_read h = joined_again blocks.count h

  pub pairs_read : blocks.pairs < span32 → number_at (header_naming blocks total ++ rest) pairs_offset ≡ blocks.pairs
  unfolding number_at bytes_of
  pairs_read h = joined_again blocks.pairs h

  pub results_read : blocks.results < span32 → number_at (header_naming blocks total ++ rest) results_offset ≡ blocks.results
  unfolding number_at bytes_of
  results_read h = joined_again blocks.results h

  pub total_read : total < span32 → number_at (header_naming blocks total ++ rest) total_offset ≡ total
  unfolding number_at bytes_of
  total_read h = joined_again total h

-- u begins a pair
abbrev u_offset : ℕ
u_offset = 0

-- the two numbers of a pair, as a row has them
module _ (row : List ℕ) (fits : (i : ℕ) → get_or row i 0 < span32) (i : ℕ) where
  u_read : number_at (pair_bytes (pair_in row i)) u_offset ≡ get_or row (2 * i) 0
  unfolding number_at bytes_of
  u_read = joined_again (get_or row (2 * i) 0) (fits (2 * i))

  y_read : number_at (pair_bytes (pair_in row i)) y_offset ≡ get_or row (2 * i + 1) 0
  unfolding number_at bytes_of
  y_read = joined_again (get_or row (2 * i + 1) 0) (fits (2 * i + 1))

-- a number of pair i among those of the first n: `of` is which of the two
among : (row : List ℕ) (of : ℕ) (number : ℕ → ℕ) → of + number_size ≤ pair_size → ((i : ℕ) → number_at (pair_bytes (pair_in row i)) of ≡ number i)
    → (n i : ℕ) → i < n → number_at (pairs_bytes row n) (pair_size * i + of) ≡ number i
unfolding pairs_bytes
among row of number f is zero i h = absurd (omega arith)
among row of number f is (suc n) i h =
    let size = length_pairs row n in
    let last = pair_bytes (pair_in row n) in
    by_order i n
    (λ (l : i < n). number_in (pairs_bytes row n) last (pair_size * i + of) (omega arith) ∙ among row of number f is n i l)
    (λ (m : n ≤ i).
    let e : i ≡ n = omega arith in
    number_past (pairs_bytes row n) last (pair_size * i + of) of (omega arith) ∙ is n ∙ ap number (sym e))

module _ (row : List ℕ) (fits : (i : ℕ) → get_or row i 0 < span32) (n i : ℕ) (h : i < n) where
  pub u_among : number_at (pairs_bytes row n) (pair_size * i + u_offset) ≡ get_or row (2 * i) 0
  u_among = among row u_offset (λ k. get_or row (2 * k) 0) (omega arith) (u_read row fits) n i h

  pub y_among : number_at (pairs_bytes row n) (pair_size * i + y_offset) ≡ get_or row (2 * i + 1) 0
  y_among = among row y_offset (λ k. get_or row (2 * k + 1) 0) (omega arith) (y_read row fits) n i h

-- each is a byte
abbrev pub Bytes : List ℕ → Type 0
Bytes l = (j : ℕ) → get_or l j 0 < 256

bytes_of_number : (x : ℕ) → Bytes (bytes_of x)
unfolding bytes_of
bytes_of_number x zero = omega arith
bytes_of_number x (suc zero) = omega arith
bytes_of_number x (suc (suc zero)) = omega arith
bytes_of_number x (suc (suc (suc zero))) = omega arith
bytes_of_number x (suc (suc (suc (suc j)))) = omega arith

pub bytes_append : (xs ys : List ℕ) → Bytes xs → Bytes ys → Bytes (xs ++ ys)
bytes_append xs ys a b j =
    by_order j (length xs) (λ h. rw (get_or-append xs ys 0 j h) (a j)) (λ h. rw (get_or-append_right xs ys j 0 h) (b (j - length xs)))

pub header_bytes : (blocks : Blocks) (total : ℕ) → Bytes (header_naming blocks total)
header_bytes blocks total =
    bytes_append (bytes_of blocks.count) _ (bytes_of_number blocks.count)
    (bytes_append (bytes_of blocks.pairs) _ (bytes_of_number blocks.pairs)
    (bytes_append (bytes_of blocks.results) _ (bytes_of_number blocks.results) (bytes_of_number total)))

pair_are_bytes : (pair : Pair) → Bytes (pair_bytes pair)
pair_are_bytes pair = bytes_append (bytes_of pair.u) _ (bytes_of_number pair.u) (bytes_of_number pair.y)

pub pairs_are_bytes : (row : List ℕ) (n : ℕ) → Bytes (pairs_bytes row n)
unfolding pairs_bytes
pairs_are_bytes row zero = λ j. omega arith
pairs_are_bytes row (suc n) = bytes_append (pairs_bytes row n) _ (pairs_are_bytes row n) (pair_are_bytes (pair_in row n))

pub zero_in : (n k : ℕ) → get_or (unworked_results n) k 0 ≡ 0
zero_in n k =
    let results : List ℕ = unworked_results n in
    let size : length results ≡ result_size * n = length-replicate (result_size * n) unworked in
    by_order k (result_size * n) (λ h. get_or-replicate (result_size * n) k unworked 0 h) (λ h. get_or_past results k 0 (omega (arith, size)))

pub zeros_are_bytes : (n : ℕ) → Bytes (unworked_results n)
zeros_are_bytes n j = rw (zero_in n j) (omega arith)
