-- The numbers that the promise about a logarithm is made of.
use Rattle.std.specs.Prelude.{◌≡◌, refl, ℕ, ◌*◌, ◌^◌}

-- E: a logarithm is a count of units of 1 / E, so that r stands for r / E. The name is shut: it unfolds nowhere outside this module, because a
-- check that computes a power to E never ends. A law is stated over any exponent and used at `scale`; where a goal is linear in it,
-- rewrite with `scale_is`.
pub scale : ℕ
scale = 2 ^ 36

pub scale_is : scale ≡ 2 ^ 36
unfolding scale
scale_is = refl

-- E as the code holds it, for multiples of E that are computed
abbrev pub scale_number : ℕ
scale_number = 68719476736

-- how far above r / E the logarithm may lie, in units of 1 / E
abbrev pub width : ℕ
width = 20

-- the unit of mantissas, 2^48: the mantissa m stands for m / 2^48, from 1 to below 2
abbrev pub unit : ℕ
unit = 281474976710656

-- each logarithm is below this: 49 * E, since each number is below 2^49
abbrev pub bound : ℕ
bound = 49 * scale_number

-- the logarithms to the base 2 of 10, 1000 and 10^7, in units of 1 / E and rounded down, as code holds them: each is at most 1 too low
abbrev pub log10 : ℕ
log10 = 228281160435

abbrev pub log1000 : ℕ
log1000 = 684843481305

abbrev pub log10000000 : ℕ
log10000000 = 1597968123046
