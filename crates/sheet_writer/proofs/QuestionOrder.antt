-- The order of the questions: for each return of the code one law, the questions before it were answered yes and its own no.
use Prim.Native.Nat.{ℕ, ◌%◌, ◌≤◌, ◌<◌}
use mathlib.Core.Path.{◌≡◌, refl, sym}
use mathlib.Core.List.{List}
use native.Mathlib.Omega.{arith}
use borrow.Author.Tests.{le-leb, lt-leb, eq-eqb, ne_eqb, eqb-true, eqb-false}
use lib.Dec.{eqb}
use lib.ListN.{length}
use Rattle.std.specs.Prelude.{Ok, Err}
use Rattle.laws.proofs.Order.{by_test, by_order}
use Rattle.sheet.specs.Sheet.{most_pairs}
use Rattle.sheet_writer.specs.declared.questions.Refusal.{Refusal}
use Rattle.sheet_writer.specs.declared.questions.Refusal.TheVariants.{OddCount, TooManyPairs, OtherSize}
use Rattle.sheet_writer.specs.Questions.{numbers_of_pair, pairs_in, blocks_for, size_for, blocks_asked}
use Rattle.sheet_writer.specs.Preconditions.{SheetFits}

module _ (row : List ℕ) (size : ℕ) where
  pub no_51 : (length row % numbers_of_pair ≡ 0 → ⊥) → Err OddCount ≡ blocks_asked row size
  unfolding blocks_asked
  no_51 h = simp (ne_eqb _ _ h)

  module _ (a : length row % numbers_of_pair ≡ 0) where
    pub no_52 : most_pairs < pairs_in row → Err TooManyPairs ≡ blocks_asked row size
    unfolding blocks_asked
    no_52 h = simp (eq-eqb _ _ a, lt-leb _ _ h)

    module _ (b : pairs_in row ≤ most_pairs) where
      pub no_53 : (size ≡ size_for (pairs_in row) → ⊥) → Err OtherSize ≡ blocks_asked row size
      unfolding blocks_asked
      no_53 h = simp (eq-eqb _ _ a, le-leb _ _ b, ne_eqb _ _ h)

      pub all_yes : size ≡ size_for (pairs_in row) → Ok (blocks_for (pairs_in row)) ≡ blocks_asked row size
      unfolding blocks_asked
      all_yes h = simp (eq-eqb _ _ a, le-leb _ _ b, eq-eqb _ _ h)

pub ruleset question_order = (no_51, no_52, no_53, all_yes)

-- what the questions answer, by cases
pub by_questions : {P : Type 0} (row : List ℕ) (size : ℕ) → ((r : Refusal) → blocks_asked row size ≡ Err r → P)
    → (SheetFits row (blocks_for (pairs_in row)) size → blocks_asked row size ≡ Ok (blocks_for (pairs_in row)) → P) → P
by_questions row size refused taken =
    by_test (eqb (length row % numbers_of_pair) 0)
    (λ a. let even = eqb-true _ _ a in
    by_order most_pairs (pairs_in row)
    (λ b. refused TooManyPairs (sym (no_52 row size even b)))
    (λ b. by_test (eqb size (size_for (pairs_in row)))
    (λ d. let same = eqb-true _ _ d in
    taken (record { even = omega arith; few = b; blocks_are = refl; size_is = same }) (sym (all_yes row size even b same)))
    (λ d. refused OtherSize (sym (no_53 row size even b (eqb-false _ _ d))))))
    (λ a. refused OddCount (sym (no_51 row size (eqb-false _ _ a))))
