-- Document 01, 'A sheet': "Bytes, least significant first." A record and a sheet are lists of bytes, each a whole number below 256.
use Rattle.std.specs.Prelude.{ℕ, suc, ◌+◌, ◌*◌, ◌-◌, ◌/◌, ◌%◌, cond, List, [], ◌∷◌, ltb, ℤ, pos, negsuc, get_or}
use Rattle.std.proofs.lemmas.List.Edits.{sets}
use Rattle.laws.specs.Bits.{span32, half32}

-- how many bytes a 32-bit number is
abbrev pub number_size : ℕ
number_size = 4

-- the 32-bit number of four bytes, and the one whose bytes begin at `at`
abbrev pub joined : ℕ → ℕ → ℕ → ℕ → ℕ
joined b0 b1 b2 b3 = b0 + 256 * (b1 + 256 * (b2 + 256 * b3))

unfoldable pub number_at : List ℕ → ℕ → ℕ
number_at bytes at = joined (get_or bytes at 0) (get_or bytes (at + 1) 0) (get_or bytes (at + 2) 0) (get_or bytes (at + 3) 0)

-- the bytes of a 32-bit number
unfoldable pub bytes_of : ℕ → List ℕ
bytes_of x = x % 256 ∷ x / 256 % 256 ∷ x / 256 / 256 % 256 ∷ x / 256 / 256 / 256 % 256 ∷ []

-- "two's complement": a number with sign as a 32-bit number without. A number below zero, negsuc n = −(n + 1), is held as 2^32 − (n + 1)
abbrev pub twos_complement : ℤ → ℕ
twos_complement (pos n) = n
twos_complement (negsuc n) = span32 - suc n

-- the number with sign that a 32-bit number stands for: itself in the lower half, x − 2^32 = −(2^32 − x) in the upper
abbrev pub signed_of : ℕ → ℤ
signed_of x = cond (ltb x half32) (pos x) (negsuc (span32 - suc x))

-- the bytes l with vs stored one after the other from i on: what the inner functions that write leave
unfoldable pub stored : List ℕ → ℕ → List ℕ → List ℕ
stored l i vs = sets l i vs
