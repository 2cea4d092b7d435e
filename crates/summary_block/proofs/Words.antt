-- A number with sign as two words, and back.
use Prim.Native.Nat.{ℕ, ◌+◌, ◌*◌, ◌/◌, ◌%◌, ◌<◌}
use mathlib.Core.Path.{◌≡◌, ap, ◌∙◌}
use native.Mathlib.Omega.{arith}
use lib.IntN.{ℤ, pos, negsuc}
use lib.Signed.{mag}
use Rattle.laws.specs.Bits.{span32}
use Rattle.summary_block.specs.Block.{half64, twos_complement_64, signed_of_64, low_word, high_word, signed_of_words}

signed_back : (z : ℤ) → mag z < half64 → signed_of_64 (twos_complement_64 z) ≡ z
signed_back (pos n) h = grind arith
signed_back (negsuc n) h = grind arith

pub words_back : (z : ℤ) → mag z < half64 → signed_of_words (low_word z) (high_word z) ≡ z
unfolding signed_of_words low_word high_word
words_back z h =
    let whole : (n : ℕ) → n % span32 + span32 * (n / span32) ≡ n = λ n. omega arith in
    ap signed_of_64 (whole (twos_complement_64 z)) ∙ signed_back z h
