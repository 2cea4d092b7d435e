-- The two blocks of a sheet: pair i and its record lie within them, and pair i shares no byte with the records.
use Prim.Native.Nat.{ℕ, ◌+◌, ◌*◌, ◌≤◌, ◌<◌}
use mathlib.Core.Path.{◌≡◌}
use mathlib.Core.Logic.{◌⊎◌, inl, inr, ⊎_elim}
use native.Mathlib.Omega.{arith}
use Rattle.answer_record.specs.Record.{result_size}
use Rattle.sheet.specs.declared.questions.Blocks.{Blocks}
use Rattle.sheet.specs.Sheet.{pair_size}
use Rattle.sheet.specs.Preconditions.{PairWithin, BlocksWithin}

-- the blocks by the numbers that were read from the header
pub blocks_read : {size n n' pairs pairs' results results' : ℕ} → n' ≡ n → pairs' ≡ pairs → results' ≡ results
    → BlocksWithin size (record { count = n; pairs = pairs; results = results }) → BlocksWithin size (record { count = n'; pairs = pairs'; results = results' })
blocks_read n p r b = rw (n, p, r) b

module _ {size : ℕ} {blocks : Blocks} (b : BlocksWithin size blocks) (i : ℕ) (h : i < blocks.count) where
  pub pair_within : PairWithin size blocks i
  pair_within = record { pair = omega (arith, b.pairs_end); result = omega (arith, b.results_end) }

  pub pair_apart : (k : ℕ) → k ≤ blocks.count
      → (blocks.pairs + pair_size * i + pair_size ≤ blocks.results) ⊎ (blocks.results + result_size * k ≤ blocks.pairs + pair_size * i)
  pair_apart k m =
      ⊎_elim (λ (l : blocks.pairs + pair_size * blocks.count ≤ blocks.results). inl (omega arith))
      (λ (l : blocks.results + result_size * blocks.count ≤ blocks.pairs). inr (omega arith)) b.apart
