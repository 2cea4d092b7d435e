-- How many numbers 32 bits hold, and the half of them: a number with sign that 32 bits hold is from −half32 to below half32.
use Rattle.std.specs.Prelude.{ℕ}

abbrev pub span32 : ℕ
span32 = 4294967296

abbrev pub half32 : ℕ
half32 = 2147483648
