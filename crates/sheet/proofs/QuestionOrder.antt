-- The questions to a sheet in their order: what each run of yes and a no gives. specs/Numbers.antt has the number of each refusal.
use Prim.Native.Nat.{ℕ, ◌+◌, ◌*◌, ◌≤◌, ◌<◌}
use mathlib.Core.Path.{◌≡◌, refl, sym, ap, ◌∙◌}
use mathlib.Core.Bool.{Bool, true, false}
use mathlib.Core.List.{List}
use borrow.Author.Tests.{le-leb, lt-leb, eq-eqb, ne_eqb}
use lib.Dec.{leb, eqb}
use lib.ListN.{length}
use Rattle.laws.specs.Questions.{ask}
use Rattle.answer_record.specs.Record.{result_size}
use Rattle.sheet.specs.declared.questions.Blocks.{Blocks}
use Rattle.sheet.specs.Sheet.{pair_size, header_size, most_pairs, count_of, pairs_of, results_of, total_of, end_of_pairs, end_of_results, stands_within, share_no_byte, named_blocks, asked, blocks_of, sheet_number_of, sheet_refusal}
use Rattle.std.specs.Prelude.{Result, Ok, Err}
use Rattle.sheet.specs.declared.refusal.Refusal.{Refusal}
use Rattle.sheet.specs.Numbers.{refusal_number, NumberedQuestions}
use Rattle.sheet.specs.declared.refusal.Refusal.TheVariants.{NoHeader, TotalNotLength, TooManyPairs, PairsOutside, ResultsOutside, BlocksShareBytes}

-- the last three questions, of a sheet
abbrev pub pairs_within : List ℕ → Bool
pairs_within s = stands_within (pairs_of s) (end_of_pairs s) (total_of s)

abbrev pub results_within : List ℕ → Bool
results_within s = stands_within (results_of s) (end_of_results s) (total_of s)

abbrev pub blocks_apart : List ℕ → Bool
blocks_apart s = share_no_byte (pairs_of s) (end_of_pairs s) (results_of s) (end_of_results s)

-- The refusals have the numbers of document 01
pub numbered_questions : NumberedQuestions
numbered_questions =
    record {
      no_header = refl;
      total_not_length = refl;
      too_many_pairs = refl;
      pairs_outside = refl;
      results_outside = refl;
      blocks_share_bytes = refl;
    }

-- The number of a sheet is that of its first no, with the paper's numbers beside the questions. No proof cites this law; it shows that `sheet_refusal` is
-- what the paper says
number_asked : (b : Bool) (r : Refusal) (later : Result Blocks Refusal) → sheet_number_of (asked b r later) ≡ ask b (refusal_number r) (sheet_number_of later)
number_asked true r later = refl
number_asked false r later = refl

pub by_numbers : (s : List ℕ) → sheet_refusal s
    ≡ ask (leb header_size (length s)) 11 (ask (eqb (total_of s) (length s)) 12 (ask (leb (count_of s) most_pairs) 13
    (ask (pairs_within s) 14 (ask (results_within s) 15 (ask (blocks_apart s) 16 0)))))
unfolding sheet_refusal blocks_of
by_numbers s =
    number_asked (leb header_size (length s)) NoHeader _
    ∙ ap (ask (leb header_size (length s)) 11) (number_asked (eqb (total_of s) (length s)) TotalNotLength _
    ∙ ap (ask (eqb (total_of s) (length s)) 12) (number_asked (leb (count_of s) most_pairs) TooManyPairs _
    ∙ ap (ask (leb (count_of s) most_pairs) 13) (number_asked (pairs_within s) PairsOutside _
    ∙ ap (ask (pairs_within s) 14) (number_asked (results_within s) ResultsOutside _
    ∙ ap (ask (results_within s) 15) (number_asked (blocks_apart s) BlocksShareBytes _)))))

-- what the code asked of the blocks that it read, asked of the header's
module _ (s : List ℕ) {blocks : Blocks} {total : ℕ} {r v : Bool} (e : blocks ≡ named_blocks s) (t : total ≡ total_of s) where
  pub pairs_asked : r ≡ stands_within blocks.pairs (blocks.pairs + pair_size * blocks.count) total → r ≡ v → pairs_within s ≡ v
  pairs_asked q h = rw (e, t) at (sym q ∙ h)

  pub results_asked : r ≡ stands_within blocks.results (blocks.results + result_size * blocks.count) total → r ≡ v → results_within s ≡ v
  results_asked q h = rw (e, t) at (sym q ∙ h)

  pub apart_asked : r ≡ share_no_byte blocks.pairs (blocks.pairs + pair_size * blocks.count) blocks.results (blocks.results + result_size * blocks.count)
      → r ≡ v → blocks_apart s ≡ v
  apart_asked q h = rw e at (sym q ∙ h)

module _ (s : List ℕ) where
  pub no_11 : length s < header_size → Err NoHeader ≡ blocks_of s
  unfolding blocks_of
  no_11 h = simp (lt-leb _ _ h)

  module _ (a : header_size ≤ length s) where
    pub no_12 : (total_of s ≡ length s → ⊥) → Err TotalNotLength ≡ blocks_of s
    unfolding blocks_of
    no_12 h = simp (le-leb _ _ a, ne_eqb _ _ h)

    module _ (b : total_of s ≡ length s) where
      pub no_13 : most_pairs < count_of s → Err TooManyPairs ≡ blocks_of s
      unfolding blocks_of
      no_13 h = simp (le-leb _ _ a, eq-eqb _ _ b, lt-leb _ _ h)

      module _ (d : count_of s ≤ most_pairs) where
        pub no_14 : pairs_within s ≡ false → Err PairsOutside ≡ blocks_of s
        unfolding blocks_of
        no_14 h = rw (le-leb _ _ a, eq-eqb _ _ b, le-leb _ _ d, h)

        module _ (e : pairs_within s ≡ true) where
          pub no_15 : results_within s ≡ false → Err ResultsOutside ≡ blocks_of s
          unfolding blocks_of
          no_15 h = rw (le-leb _ _ a, eq-eqb _ _ b, le-leb _ _ d, e, h)

          module _ (f : results_within s ≡ true) where
            pub no_16 : blocks_apart s ≡ false → Err BlocksShareBytes ≡ blocks_of s
            unfolding blocks_of
            no_16 h = rw (le-leb _ _ a, eq-eqb _ _ b, le-leb _ _ d, e, f, h)

            pub all_yes : blocks_apart s ≡ true → Ok (named_blocks s) ≡ blocks_of s
            unfolding blocks_of
            all_yes h = rw (le-leb _ _ a, eq-eqb _ _ b, le-leb _ _ d, e, f, h)

-- for each return of the code one law: the questions before it were answered yes, its own no
pub ruleset question_order = (no_11, no_12, no_13, no_14, no_15, no_16, all_yes, pairs_asked, results_asked, apart_asked)
