-- Document 01, 'The printing program': the fields of a line, each as the list of its bytes. "It .. writes ASCII lines, fields parted by one
-- space, an index below zero with a minus sign before its digits, each line ended by byte 10".
use Rattle.std.specs.Prelude.{ℕ, zero, suc, ◌+◌, ◌/◌, ◌%◌, cond, List, [], ◌∷◌, ◌++◌, ltb, ℤ, pos, negsuc}
use Prim.Native.Char.{code}
use Prim.Native.String.{String, len, char_at}

-- "ASCII": the codes of n characters of a text, from the character `at` on; and of the whole text
abbrev codes : ℕ → ℕ → String → List ℕ
codes zero at text = []
codes (suc n) at text = code (char_at text at) ∷ codes n (suc at) text

abbrev pub ascii : String → List ℕ
ascii text = codes (len text) 0 text

-- "fields parted by one space", "each line ended by byte 10"
abbrev pub space : List ℕ
space = ascii " "

abbrev pub line_end : List ℕ
line_end = 10 ∷ []

-- the last decimal digit of n
abbrev pub digit : ℕ → List ℕ
digit n = (code "0" + n % 10) ∷ []

-- the decimal digits of n: below ten its digit; else those of n / 10, and then its last. `most` is the greatest number of digits that are
-- given; n + 1 of them is more than n has
abbrev pub digits : ℕ → ℕ → List ℕ
digits zero n = []
digits (suc most) n = cond (ltb n 10) (digit n) (digits most (n / 10) ++ digit n)

unfoldable pub decimal : ℕ → List ℕ
decimal n = digits (n + 1) n

-- a viscosity of x thousandths of a mm²/s: "three decimals"
unfoldable pub viscosity : ℕ → List ℕ
viscosity x = decimal (x / 1000) ++ (ascii "." ++ (digit (x / 100) ++ (digit (x / 10) ++ digit x)))

-- "an index below zero with a minus sign before its digits": negsuc n is −(n + 1)
abbrev pub signed_decimal : ℤ → List ℕ
signed_decimal (pos n) = decimal n
signed_decimal (negsuc n) = ascii "-" ++ decimal (n + 1)

-- a word and a number of any kind, as two fields: "fields parted by one space"
abbrev pub worded : List ℕ → List ℕ → List ℕ
worded word number = word ++ (space ++ number)
