-- How many bytes the parts of a written sheet have, and one turn of the loop that stores pairs and results.
use Prim.Native.Nat.{ℕ, zero, suc, ◌+◌, ◌*◌, ◌≤◌, ◌<◌}
use mathlib.Core.Path.{◌≡◌, refl, ap, ◌∙◌}
use mathlib.Core.List.{List, ◌++◌}
use mathlib.Core.Logic.{◌⊎◌, inl, inr, ⊎_elim}
use native.Mathlib.Omega.{arith}
use lib.ListN.{length, length-append, length-replicate}
use Rattle.std.proofs.lemmas.List.{replicate-append-replicate}
use Rattle.answer_record.specs.Bytes.{number_size, bytes_of, stored}
use Rattle.answer_record.specs.Record.{result_size}
use Rattle.answer_record.proofs.Stores.{stored_append, stored_then, stored_apart}
use Rattle.sheet.specs.declared.Pair.{Pair}
use Rattle.sheet.specs.declared.questions.Blocks.{Blocks}
use Rattle.sheet.specs.Sheet.{header_size, pair_size}
use Rattle.sheet.specs.Preconditions.{BlocksWithin}
use Rattle.sheet.proofs.Within.{pair_apart}
use Rattle.sheet_writer.specs.Questions.{pairs_in, size_for}
use Rattle.sheet_writer.specs.Writing.{pair_in, pair_bytes, pairs_bytes, unworked, unworked_result, unworked_results, with_pair, with_pairs, header_naming, sheet_for}

pub length_bytes : (x : ℕ) → length (bytes_of x) ≡ number_size
unfolding bytes_of
length_bytes x = refl

pub length_pair : (pair : Pair) → length (pair_bytes pair) ≡ pair_size
unfolding bytes_of
length_pair pair = refl

pub length_pairs : (row : List ℕ) (n : ℕ) → length (pairs_bytes row n) ≡ pair_size * n
unfolding pairs_bytes
length_pairs row zero = refl
length_pairs row (suc n) = rw length-append (omega (arith, length_pairs row n, length_pair (pair_in row n)))

-- the header and the whole sheet
pub length_header : (blocks : Blocks) (total : ℕ) → length (header_naming blocks total) ≡ header_size
unfolding bytes_of
length_header blocks total = refl

pub length_sheet : (row : List ℕ) → length (sheet_for row) ≡ size_for (pairs_in row)
unfolding sheet_for
length_sheet row = simp (length-append, length-replicate, length_bytes) (omega (arith, length_pairs row (pairs_in row)))

-- no pair is stored before the first turn
pub none_stored : (row s : List ℕ) (blocks : Blocks) → s ≡ with_pairs s blocks row 0
unfolding stored pairs_bytes
none_stored row s blocks = refl

one_more : (i : ℕ) → unworked_results i ++ unworked_result ≡ unworked_results (suc i)
one_more i =
    let more : result_size * suc i ≡ result_size * i + result_size = omega arith in
    rw more (replicate-append-replicate (result_size * i) result_size unworked)

-- one more: the pair comes behind those before it, and so does its result
pub next_pair : (row s t : List ℕ) (size : ℕ) (blocks : Blocks) (i : ℕ) → BlocksWithin size blocks → i < blocks.count → t ≡ with_pairs s blocks row i
    → with_pair t blocks row i ≡ with_pairs s blocks row (i + 1)
unfolding pairs_bytes
next_pair row s t size blocks i b h e =
    let pair : List ℕ = pair_bytes (pair_in row i) in
    let results : List ℕ = unworked_results i in
    let passed : List ℕ = stored s blocks.pairs (pairs_bytes row i) in
    let more : List ℕ = stored s blocks.pairs (pairs_bytes row (suc i)) in
    let next : i + 1 ≡ suc i = omega arith in
    let many : length results ≡ result_size * i = length-replicate (result_size * i) unworked in
    let one : length pair ≡ pair_size = length_pair (pair_in row i) in
    let apart : (blocks.pairs + pair_size * i + length pair ≤ blocks.results) ⊎ (blocks.results + length results ≤ blocks.pairs + pair_size * i) =
    rw (one, many) (pair_apart b i h i (omega arith)) in
    let behind : stored passed (blocks.pairs + pair_size * i) pair ≡ more =
    rw (← length_pairs row i) (stored_append s (pairs_bytes row i) pair blocks.pairs) in
    let both : stored t (blocks.pairs + pair_size * i) pair ≡ stored more blocks.results results =
    rw e (stored_apart passed results pair blocks.results (blocks.pairs + pair_size * i) apart)
    ∙ ap (λ (l : List ℕ). stored l blocks.results results) behind in
    let all : with_pair t blocks row i ≡ stored more blocks.results (results ++ unworked_result) =
    stored_then more results unworked_result blocks.results both (omega (arith, many)) refl in
    rw next (rw (one_more i) at all)

-- two more, whose pairs are both stored before the results: the second pair shares no byte with the first result
pub two_stored : (row s : List ℕ) {first_paired both_paired first_cleared t : List ℕ} (size : ℕ) (blocks : Blocks) (i : ℕ) {first second : Pair} → BlocksWithin size blocks
    → i + 1 < blocks.count → first ≡ pair_in row i → second ≡ pair_in row (i + 1)
    → first_paired ≡ stored s (blocks.pairs + pair_size * i) (pair_bytes first)
    → both_paired ≡ stored first_paired (blocks.pairs + pair_size * (i + 1)) (pair_bytes second)
    → first_cleared ≡ stored both_paired (blocks.results + result_size * i) unworked_result
    → t ≡ stored first_cleared (blocks.results + result_size * (i + 1)) unworked_result → t ≡ with_pair (with_pair s blocks row i) blocks row (i + 1)
two_stored row s {first_paired = first_paired} size blocks i b h p q e f g k =
    let second : List ℕ = pair_bytes (pair_in row (i + 1)) in
    let one : length second ≡ pair_size = length_pair (pair_in row (i + 1)) in
    let apart : (blocks.results + result_size * i + result_size ≤ blocks.pairs + pair_size * (i + 1))
    ⊎ (blocks.pairs + pair_size * (i + 1) + length second ≤ blocks.results + result_size * i) =
    ⊎_elim (λ (l : blocks.pairs + pair_size * blocks.count ≤ blocks.results). inr (omega arith))
    (λ (l : blocks.results + result_size * blocks.count ≤ blocks.pairs). inl (omega arith)) b.apart in
    rw (g, f, q) at k
    ∙ ap (λ (l : List ℕ). stored l (blocks.results + result_size * (i + 1)) unworked_result)
    (stored_apart first_paired second unworked_result (blocks.pairs + pair_size * (i + 1)) (blocks.results + result_size * i) apart)
    ∙ rw (e, p) refl
