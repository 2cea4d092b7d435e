-- What follows where facts contradict each other: `impossible cc` where two constructors are said to be equal.
use Prim.Native.Nat.{ℕ, ◌<◌}
use mathlib.Core.Path.{◌≡◌}
use mathlib.Core.Bool.{Bool, true, false}
use native.Mathlib.Omega.{arith}

pub impossible : {P : Type 0} → ◌≡◌ {A = ℕ} 0 1 → P
impossible e = absurd (omega (arith, e))

pub both_ways : {P : Type 0} {b : Bool} → b ≡ true → b ≡ false → P
both_ways p q = impossible (cc (p, q))

-- no number is zero and above zero
pub not_some : {P : Type 0} (n : ℕ) → n ≡ 0 → 0 < n → P
not_some n z p = absurd (omega arith)
