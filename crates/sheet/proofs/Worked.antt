-- The sheet operation's answer and the sheet it leaves, from what its steps say.
use Prim.Native.Nat.{ℕ, ◌+◌, ◌≤◌, ◌<◌}
use mathlib.Core.Path.{◌≡◌, refl, sym, ap, ◌∙◌}
use mathlib.Core.Bool.{cond}
use mathlib.Core.List.{List}
use mathlib.Core.Logic.{◌⊎◌, inl}
use native.Mathlib.Omega.{arith}
use borrow.Author.Tests.{eq-eqb, ne_eqb}
use lib.Dec.{eqb}
use lib.ListN.{length, get_or}
use Rattle.answer_record.specs.Bytes.{number_size, number_at, stored}
use Rattle.answer_record.proofs.Stores.{stored_parts, length_stored, byte_kept, number_kept}
use Rattle.std.specs.Prelude.{Result, Ok, Err}
use Rattle.sheet.specs.declared.questions.Blocks.{Blocks}
use Rattle.sheet.specs.declared.refusal.Refusal.{Refusal}
use Rattle.sheet.specs.declared.refusal.Refusal.TheVariants.{NoHeader, TotalNotLength, TooManyPairs, PairsOutside, ResultsOutside, BlocksShareBytes}
use Rattle.sheet.specs.Numbers.{refusal_number}
use Rattle.sheet.specs.Sheet.{header_size, count_of, pairs_of, results_of, end_of_results, records_of, named_blocks, blocks_of, sheet_refusal, answer_from, sheet_answer_of, sheet_after, sheet_number_of}
use Rattle.sheet.proofs.FailsNone.{some_number, fails_none}
use Rattle.sheet.proofs.Records.{length_records}

-- the records stored from the result offset on are the result block
pub all_stored : (s : List ℕ) → sheet_refusal s ≡ 0 → stored s (results_of s) (records_of s (pairs_of s) (count_of s)) ≡ sheet_after s
unfolding sheet_after
all_stored s q =
    let n = length_records s (pairs_of s) (count_of s) in
    let fits : end_of_results s ≤ length s = (fails_none s q).blocks.results_end in
    rw (eq-eqb _ _ q, ← n) (stored_parts s (records_of s (pairs_of s) (count_of s)) (results_of s) (omega arith))

-- what an answer with blocks says
pub accepted : (s : List ℕ) {blocks : Blocks} → Ok blocks ≡ blocks_of s → sheet_refusal s ≡ 0
unfolding sheet_refusal
accepted s e = ap sheet_number_of (sym e)

pub named : (s : List ℕ) {blocks : Blocks} → Ok blocks ≡ blocks_of s → blocks ≡ named_blocks s
named s e = let h = e ∙ (fails_none s (accepted s e)).found in cc

pub worked : (s t : List ℕ) → sheet_refusal s ≡ 0 → t ≡ stored s (results_of s) (records_of s (pairs_of s) (count_of s))
    → (Ok (count_of s) ≡ sheet_answer_of s) × (t ≡ sheet_after s)
unfolding sheet_answer_of
worked s t q e = (rw (fails_none s q).found refl, e ∙ all_stored s q)

-- a refusal is known by its number
abbrev numbered : ℕ → Refusal
numbered k =
    cond (eqb k 11) NoHeader
    (cond (eqb k 12) TotalNotLength
    (cond (eqb k 13) TooManyPairs (cond (eqb k 14) PairsOutside (cond (eqb k 15) ResultsOutside BlocksShareBytes))))

number_back : (r : Refusal) → numbered (refusal_number r) ≡ r
number_back NoHeader = refl
number_back TotalNotLength = refl
number_back TooManyPairs = refl
number_back PairsOutside = refl
number_back ResultsOutside = refl
number_back BlocksShareBytes = refl

refused_by : (r : Refusal) (a : Result Blocks Refusal) → refusal_number r ≡ sheet_number_of a → a ≡ Err r
refused_by r (Ok blocks) e = absurd (omega (arith, some_number r))
refused_by r (Err other) e = ap Err (sym (number_back other) ∙ ap numbered (sym e) ∙ number_back r)

pub refused : (s : List ℕ) (r : Refusal) → refusal_number r ≡ sheet_refusal s → (Err r ≡ sheet_answer_of s) × (s ≡ sheet_after s)
unfolding sheet_answer_of sheet_after sheet_refusal
refused s r e =
    let by : blocks_of s ≡ Err r = refused_by r (blocks_of s) e in
    let no : refusal_number r ≡ 0 → ⊥ = λ q. omega (arith, some_number r) in
    (rw by refl, rw (← e, ne_eqb _ _ no) refl)

pub failed : (s : List ℕ) {r : Refusal} → Err r ≡ blocks_of s → refusal_number r ≡ sheet_refusal s
unfolding sheet_refusal
failed s e = ap sheet_number_of e

-- the number of the answer is that of the first question that fails
same_number : (a : Result Blocks Refusal) → sheet_number_of (answer_from a) ≡ sheet_number_of a
same_number (Ok blocks) = refl
same_number (Err r) = refl

pub number_of_answer : (s : List ℕ) → sheet_number_of (sheet_answer_of s) ≡ sheet_refusal s
unfolding sheet_answer_of sheet_refusal
number_of_answer s = same_number (blocks_of s)

-- an accepted sheet keeps its length and its header's numbers, and, as the paper says, "all bytes outside the result block stay"
pub same_length : (s : List ℕ) → sheet_refusal s ≡ 0 → length (sheet_after s) ≡ length s
same_length s q = ap length (sym (all_stored s q)) ∙ length_stored _ _ _

pub header_kept : (s : List ℕ) → sheet_refusal s ≡ 0 → (at : ℕ) → at + number_size ≤ header_size → number_at (sheet_after s) at ≡ number_at s at
header_kept s q at h =
    rw (← all_stored s q)
    (number_kept s (records_of s (pairs_of s) (count_of s)) (results_of s) at (inl (omega (arith, (fails_none s q).results_after))))

pub outside_kept : (s : List ℕ) → sheet_refusal s ≡ 0 → (j : ℕ) → (j < results_of s) ⊎ (end_of_results s ≤ j) → get_or (sheet_after s) j 0 ≡ get_or s j 0
outside_kept s q j h =
    rw (← all_stored s q)
    (byte_kept s (records_of s (pairs_of s) (count_of s)) (results_of s) j (rw (length_records s (pairs_of s) (count_of s)) h))
