-- A 32-bit number and its bytes: joined, they are the number again; and what the library reads and writes is what the definitions say.
use Prim.Native.Nat.{ℕ, ◌+◌, ◌*◌, ◌<◌, ◌/◌, ◌%◌}
use mathlib.Core.Path.{◌≡◌, refl}
use native.Mathlib.Omega.{arith}
use Rattle.laws.specs.Bits.{span32}
use Rattle.answer_record.specs.Bytes.{joined, bytes_of}
use Rattle.std.specs.Prelude.{[], ◌∷◌}
use Rattle.std.specs.Int.{from_le_bytes, to_le_bytes}
use mir.Syntax.{w32}

rejoined : (x : ℕ) → x % 256 + 256 * (x / 256) ≡ x
rejoined x = omega arith

last : (x : ℕ) → x < span32 → x / 256 / 256 / 256 % 256 ≡ x / 256 / 256 / 256
last x h = omega arith

pub joined_again : (x : ℕ) → x < span32 → joined (x % 256) (x / 256 % 256) (x / 256 / 256 % 256) (x / 256 / 256 / 256 % 256) ≡ x
joined_again x h = rw (last x h, rejoined (x / 256 / 256), rejoined (x / 256), rejoined x)

-- what the library reads and writes
pub joined_by_library : (b0 b1 b2 b3 : ℕ) → from_le_bytes w32 (b0 ∷ b1 ∷ b2 ∷ b3 ∷ []) ≡ joined b0 b1 b2 b3
joined_by_library b0 b1 b2 b3 = omega arith

pub bytes_by_library : (x : ℕ) → to_le_bytes w32 x ≡ bytes_of x
unfolding bytes_of
bytes_by_library x =
    let second : x / 256 / 256 ≡ x / 65536 = omega arith in
    let third : x / 65536 / 256 ≡ x / 16777216 = omega arith in
    rw (second, third) refl
