-- Which index and mark this program chooses for p and P, where document 01 leaves a choice ("Left free: .. where the exact index is within 0.01 of
-- a half, which of the true marks"): the definitions follow the code. `RightIndex` (RightIndex.antt) is shown of the choice, so that nobody has to
-- believe this file.
use Rattle.std.specs.Prelude.{ℕ, zero, suc, ◌+◌, ◌*◌, ◌-◌, ◌/◌, Bool, cond, leb}
use Rattle.logarithm.specs.Scale.{width, log10, log10000000}
use Rattle.logarithm.specs.Log2.{log2_of}
use Rattle.shown_index.specs.declared.Mark.{Mark}
use Rattle.shown_index.specs.declared.Mark.TheVariants as mark
use Rattle.shown_index.specs.declared.search.Trial.{Trial}
use Rattle.shown_index.specs.declared.search.Trial.TheVariants as trial
use Rattle.shown_index.specs.declared.ByB.{ByB}
use Rattle.logarithm.specs.Fractions.{Q_number}
use Rattle.shown_index.specs.Terms.{c, least_index, most_index}

-- the greatest p, 11/6 of Q, since N is at most 11/6 for every oil below H; and the greatest P, two more
abbrev pub most_lower : ℕ
most_lower = 30758229

abbrev pub most_upper : ℕ
most_upper = most_lower + 2

-- do the logarithms show that p shows "at least r", and P "at most r"?
unfoldable pub shows_least : ℕ → ℕ → Bool
shows_least p r = leb ((log2_of (c r) + width) * Q_number) (log10 * p + log10000000 * Q_number)

unfoldable pub shows_most : ℕ → ℕ → Bool
shows_most P r = leb ((log10 + 1) * P + (log10000000 + 1) * Q_number) (log2_of (c r) * Q_number)

-- halving, f times, of the whole numbers from lo, at least 100·lo − 50 of which is shown, to below hi, at least 100·hi − 50 of which is not
unfoldable pub search_of : ℕ → ℕ → ℕ → ℕ → ℕ
search_of zero p lo hi = lo
search_of (suc f) p lo hi = cond (shows_least p (100 * ((lo + hi) / 2) - 50)) (search_of f p ((lo + hi) / 2) hi) (search_of f p lo ((lo + hi) / 2))

-- the k of which at least 100·k − 50 is shown and at least 100·k + 50 is not: 14 halvings leave one of 9,900 numbers
unfoldable pub whole_of : ℕ → ℕ
whole_of p = search_of 14 p least_index most_index

abbrev pub made : ℕ → Mark → ℕ → ℕ → ByB
made k m p P = record { index = k; mark = m; lower = p; upper = P }

-- settled k where at most 100·k + 50 is shown too; otherwise near k + 1
unfoldable pub marked_of : ℕ → ℕ → ℕ → ByB
marked_of k p P = cond (shows_most P (100 * k + 50)) (made k mark.Settled p P) (made (k + 1) mark.Near p P)

-- the index that is chosen for p and P
abbrev pub chosen_index : ℕ → ℕ → ByB
chosen_index p P = marked_of (whole_of p) p P

-- what the code finds when it tries k
unfoldable pub trial_of : ℕ → ℕ → ℕ → Trial
trial_of k p P =
    cond (shows_least p (100 * k + 50)) trial.Higher
    (cond (shows_least p (100 * k - 50)) (cond (shows_most P (100 * k + 50)) trial.Settled trial.Near)
    trial.Lower)
