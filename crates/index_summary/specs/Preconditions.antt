-- What the inner functions that add an answer and take one away ask of their callers.
use Rattle.std.specs.Prelude.{ℕ, ◌*◌, ◌≤◌, Bool, ◌&&◌, leb}
use Rattle.std.specs.Int.Signed.{mag}
use Rattle.laws.specs.Bits.{span32}
use Rattle.index_summary.specs.declared.Summary.{Summary}

-- to how many answers one more may be added: their sum and their counts fit their fields
abbrev pub most : ℕ
most = 65536

-- what holds of the summary of n answers
pub record Within (n : ℕ) (t : Summary) : Type 0 where
  pub lowest : mag t.lowest ≤ span32
  pub highest : mag t.highest ≤ span32
  pub sum : mag t.sum ≤ span32 * n
  pub a : t.a ≤ n
  pub settled : t.settled ≤ n
  pub near : t.near ≤ n

-- the test whether one answer more may be added: it passes just where `Within most` holds
unfoldable pub is_within : Summary → Bool
is_within t =
    leb (mag t.lowest) span32
    && (leb (mag t.highest) span32
    && (leb (mag t.sum) (span32 * most) && (leb t.a most && (leb t.settled most && leb t.near most))))
