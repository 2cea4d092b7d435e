-- The library's reading of 32 bits as a number with sign is two's complement.
use Prim.Native.Nat.{ℕ}
use mathlib.Core.Path.{◌≡◌}
use lib.Dec.{ltb}
use mir.Syntax.{w32}
use mir.Val.{to_z}
use Rattle.laws.specs.Bits.{half32}
use Rattle.laws.proofs.Order.{by_test}
use Rattle.answer_record.specs.Bytes.{signed_of}

pub read_signed : (x : ℕ) → to_z w32 x ≡ signed_of x
read_signed x = by_test (ltb x half32) (λ e. rw e) (λ e. rw e)
