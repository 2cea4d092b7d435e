-- A number with sign, and its two's complement.
use Prim.Native.Nat.{suc, ◌-◌, ◌<◌, ◌≤◌}
use mathlib.Core.Path.{◌≡◌, ap}
use native.Mathlib.Omega.{arith}
use borrow.Author.Tests.{le-ltb, lt-ltb}
use lib.IntN.{ℤ, pos, negsuc}
use mir.Syntax.{w32}
use mir.Val.{SFits}
use Rattle.laws.specs.Bits.{span32, half32}
use Rattle.answer_record.specs.Bytes.{twos_complement, signed_of}

-- a number with sign that fits 32 bits comes back
pub signed_back : (z : ℤ) → SFits w32 z → signed_of (twos_complement z) ≡ z
signed_back (pos n) f = let small : n < half32 = f.sfits in rw (lt-ltb n half32 small)
signed_back (negsuc n) f =
    let small : n < half32 = f.sfits in
    let upper : half32 ≤ span32 - suc n = omega arith in
    let back : span32 - suc (span32 - suc n) ≡ n = omega arith in
    rw (le-ltb (span32 - suc n) half32 upper) (ap negsuc back)

pub twos_complement_fits : (z : ℤ) → SFits w32 z → twos_complement z < span32
twos_complement_fits (pos n) f = let small : n < half32 = f.sfits in omega arith
twos_complement_fits (negsuc n) f = omega arith
