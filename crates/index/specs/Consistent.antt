-- What p and P show is never contradicted by another p and P: what one p shows to be at least r and one P to be at most s has r ≤ s. So no mark can be shown
-- of an oil that has it not: an oil that is settled k is near no other number than k and k + 1, and that only where its exact value is within 0.01 of the half
-- below that number. And what is shown of a thicker oil with the same y is less. proofs/Consistent.antt shows both.
use Rattle.std.specs.Prelude.{ℕ, ◌<◌, ◌≤◌}
use Rattle.index.specs.ProcedureB.{AtLeast, AtMost}

pub record Consistent : Type 0 where
  pub in_order : (u y r s p P : ℕ) → 1000 < y → 0 < u → AtLeast u y r p → AtMost u y s P → r ≤ s
  pub thicker : (u v y r s p P : ℕ) → 1000 < y → u < v → AtLeast v y r p → AtMost u y s P → r < s
