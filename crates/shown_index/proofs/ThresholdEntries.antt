-- The table of thresholds, certified by one computed test: entry i shows at least 99.5 + i and one less does not. So two of its entries tell that
-- k is settled, for most oils, without a logarithm of c.
use Prim.Native.Nat.{ℕ, ◌+◌, ◌*◌, ◌-◌, ◌≤◌, ◌<◌}
use mathlib.Core.Path.{◌≡◌, refl}
use mathlib.Core.Bool.{Bool, true, false, not, ◌&&◌, ◌||◌}
use native.Mathlib.Omega.{arith}
use lib.Dec.{T, eqb}
use borrow.Author.Tests.{ne_eqb}
use lib.ListN.{length, get_or}
use lib.Count.{count_leading_zeros}
use Rattle.laws.proofs.Contradiction.{impossible}
use Rattle.laws.proofs.Computed.{and_left, and_right, every, at}
use Rattle.logarithm.specs.Tables.{first_table, second_table}
use Rattle.logarithm.specs.Log2.{zeros_of, mantissa, entry_at, entry_of, times_factor, level_log, level_rest, tail_of, rest_of, fraction_of, log2_of}
use Rattle.shown_index.specs.declared.search.Trial.TheVariants as trial
use Rattle.shown_index.specs.Terms.{least_index}
use Rattle.shown_index.specs.ThresholdTable.{threshold_table}
use Rattle.shown_index.specs.ChosenIndex.{most_upper, shows_least, trial_of}
use Rattle.shown_index.proofs.Shows.{least_false, false_least, true_most, least_easier, trial_settled, below_least}

-- entry i, against the index 99.5 + i
threshold_test : ℕ → ℕ → Bool
threshold_test i x = shows_least x (below_least + 100 * i) && (eqb i 0 || not (shows_least (x - 1) (below_least + 100 * i)))

every_entry_tested : T (every threshold_test 0 threshold_table)
unfolding threshold_test threshold_table shows_least log2_of fraction_of rest_of tail_of level_rest level_log entry_of entry_at times_factor mantissa zeros_of count_leading_zeros first_table second_table
every_entry_tested = tt

passes : (b : Bool) → T b → b ≡ true
passes true t = refl
passes false t = absurd t

fails : (z b : Bool) → T (z || not b) → z ≡ false → b ≡ false
fails true b t e = impossible cc
fails false true t e = absurd t
fails false false t e = refl

-- how many entries the table has, and the first index that it cannot settle
abbrev threshold_count : ℕ
threshold_count = 513

abbrev first_unsettled : ℕ
first_unsettled = least_index + threshold_count - 1

in_table : (i : ℕ) → i < threshold_count → i < length threshold_table
unfolding threshold_table
in_table i h = h

shown : (i : ℕ) → i < threshold_count → shows_least (get_or threshold_table i 0) (below_least + 100 * i) ≡ true
unfolding threshold_test
shown i h = passes _ (and_left (shows_least (get_or threshold_table i 0) (below_least + 100 * i)) _ (at threshold_test threshold_table every_entry_tested i (in_table i h)))

not_shown : (i : ℕ) → 0 < i → i < threshold_count → shows_least (get_or threshold_table i 0 - 1) (below_least + 100 * i) ≡ false
unfolding threshold_test
not_shown i p h =
    fails (eqb i 0) _ (and_right (shows_least (get_or threshold_table i 0) (below_least + 100 * i)) _ (at threshold_test threshold_table every_entry_tested i (in_table i h))) (ne_eqb i 0 (λ e. omega arith))

-- k is settled where p has passed its threshold and P is at least 2 below the next one
pub settled_by_thresholds : (k p P : ℕ) → least_index ≤ k → k < first_unsettled → P ≤ most_upper → p < P
    → get_or threshold_table (k - least_index) 0 ≤ p → P + 2 ≤ get_or threshold_table (k - least_index + 1) 0 → trial_of k p P ≡ trial.Settled
settled_by_thresholds k p P l h f m a b =
    let here : below_least + 100 * (k - least_index) ≡ 100 * k - 50 = omega arith in
    let next : below_least + 100 * (k - least_index + 1) ≡ 100 * k + 50 = omega arith in
    let s : shows_least (get_or threshold_table (k - least_index) 0) (100 * k - 50) ≡ true = rw here at (shown (k - least_index) (omega arith)) in
    let n : shows_least (get_or threshold_table (k - least_index + 1) 0 - 1) (100 * k + 50) ≡ false = rw next at (not_shown (k - least_index + 1) (omega arith) (omega arith)) in
    let e = least_false (get_or threshold_table (k - least_index + 1) 0 - 1) (100 * k + 50) n in
    trial_settled k p P (false_least p (100 * k + 50) (omega arith))
    (least_easier p (get_or threshold_table (k - least_index) 0) (100 * k - 50) (100 * k - 50) a (omega arith) (omega arith) (omega arith) s)
    (true_most P (100 * k + 50) (omega arith))
