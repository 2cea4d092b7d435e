-- What is known of a sheet that fails no question, and question 16 in the paper's words.
use Prim.Native.Nat.{ℕ, ◌≤◌, ◌<◌}
use mathlib.Core.Path.{◌≡◌, refl}
use mathlib.Core.Bool.{Bool, true, false}
use mathlib.Core.List.{List}
use mathlib.Core.Logic.{◌⊎◌, inl, inr, ⊎_elim}
use native.Mathlib.Omega.{arith}
use borrow.Author.Tests.{leb-true, leb-false, eqb-true}
use lib.ListN.{length}
use lib.Dec.{leb, eqb}
use Rattle.std.proofs.lemmas.Bool.{and_parts, or_cases, or_parts}
use Rattle.laws.proofs.Order.{by_order}
use Rattle.std.specs.Prelude.{Result, Ok}
use Rattle.sheet.specs.declared.questions.Blocks.{Blocks}
use Rattle.sheet.specs.declared.refusal.Refusal.{Refusal}
use Rattle.sheet.specs.declared.refusal.Refusal.TheVariants.{NoHeader, TotalNotLength, TooManyPairs, PairsOutside, ResultsOutside, BlocksShareBytes}
use Rattle.sheet.specs.Numbers.{refusal_number}
use Rattle.sheet.specs.Sheet.{header_size, most_pairs, count_of, pairs_of, results_of, total_of, end_of_pairs, end_of_results, stands_within, share_no_byte, named_blocks, asked, blocks_of, sheet_number_of, sheet_refusal}
use Rattle.sheet.specs.Preconditions.{BlocksWithin}
use Rattle.sheet.proofs.QuestionOrder.{pairs_within, results_within, blocks_apart}

-- no refusal has the number 0
pub some_number : (r : Refusal) → 0 < refusal_number r
some_number NoHeader = omega arith
some_number TotalNotLength = omega arith
some_number TooManyPairs = omega arith
some_number PairsOutside = omega arith
some_number ResultsOutside = omega arith
some_number BlocksShareBytes = omega arith

yes : (b : Bool) (r : Refusal) (next : Result Blocks Refusal) → sheet_number_of (asked b r next) ≡ 0 → (b ≡ true) × (sheet_number_of next ≡ 0)
yes true r next e = (refl, e)
yes false r next e = absurd (omega (arith, some_number r))

-- what the answers to the questions about blocks say of them
block_within : {begin end total : ℕ} → stands_within begin end total ≡ true → (header_size ≤ begin) × (end ≤ total)
unfolding stands_within
block_within e = let h = and_parts _ _ e in (leb-true _ _ h.0, leb-true _ _ h.1)

apart : {begin end begin' end' : ℕ} → share_no_byte begin end begin' end' ≡ true → (end ≤ begin') ⊎ (end' ≤ begin)
unfolding share_no_byte
apart e = ⊎_elim (λ t. inl (leb-true _ _ t)) (λ t. inr (leb-true _ _ t)) (or_cases _ _ e)

overlap : {begin end begin' end' : ℕ} → share_no_byte begin end begin' end' ≡ false → (begin' < end) × (begin < end')
unfolding share_no_byte
overlap e = let h = or_parts _ _ e in (leb-false _ _ h.0, leb-false _ _ h.1)

-- what a sheet is that fails no question
pub record FailsNone (s : List ℕ) : Type 0 where
  pub header : header_size ≤ length s
  pub total : total_of s ≡ length s
  pub few : count_of s ≤ most_pairs
  pub pairs_after : header_size ≤ pairs_of s
  pub results_after : header_size ≤ results_of s
  pub blocks : BlocksWithin (length s) (named_blocks s)
  pub found : blocks_of s ≡ Ok (named_blocks s)

pub fails_none : (s : List ℕ) → sheet_refusal s ≡ 0 → FailsNone s
unfolding sheet_refusal blocks_of
fails_none s e =
    let a = yes (leb header_size (length s)) NoHeader _ e in
    let b = yes (eqb (total_of s) (length s)) TotalNotLength _ a.1 in
    let d = yes (leb (count_of s) most_pairs) TooManyPairs _ b.1 in
    let f = yes (pairs_within s) PairsOutside _ d.1 in
    let g = yes (results_within s) ResultsOutside _ f.1 in
    let h = yes (blocks_apart s) BlocksShareBytes (Ok (named_blocks s)) g.1 in
    let total : total_of s ≡ length s = eqb-true _ _ b.0 in
    let pairs : (header_size ≤ pairs_of s) × (end_of_pairs s ≤ total_of s) = block_within f.0 in
    let results : (header_size ≤ results_of s) × (end_of_results s ≤ total_of s) = block_within g.0 in
    record {
      header = leb-true _ _ a.0;
      total = total;
      few = leb-true _ _ d.0;
      pairs_after = pairs.0;
      results_after = results.0;
      blocks = record { pairs_end = omega arith; results_end = omega arith; apart = apart h.0 };
      found = rw (a.0, b.0, d.0, f.0, g.0, h.0) refl;
    }

-- question 16 in the paper's words: where it is answered no, some byte belongs to both blocks; where yes, none. No proof cites these two
-- laws; they show that `share_no_byte` is the paper's question
pub record SharedByte (s : List ℕ) : Type 0 where
  pub offset : ℕ
  pub in_pairs : (pairs_of s ≤ offset) × (offset < end_of_pairs s)
  pub in_results : (results_of s ≤ offset) × (offset < end_of_results s)

pub none_shared : (s : List ℕ) → blocks_apart s ≡ true → SharedByte s → ⊥
none_shared s e b =
    let p = b.in_pairs in
    let r = b.in_results in
    ⊎_elim (λ (first : end_of_pairs s ≤ results_of s). omega arith) (λ (first : end_of_results s ≤ pairs_of s). omega arith) (apart e)

pub some_shared : (s : List ℕ) → blocks_apart s ≡ false → SharedByte s
some_shared s e =
    let meet : (results_of s < end_of_pairs s) × (pairs_of s < end_of_results s) = overlap e in
    by_order (pairs_of s) (results_of s)
    (λ (l : pairs_of s < results_of s). record { offset = results_of s; in_pairs = (omega arith, meet.0); in_results = (omega arith, omega arith) })
    (λ (l : results_of s ≤ pairs_of s). record { offset = pairs_of s; in_pairs = (omega arith, omega arith); in_results = (l, meet.1) })
