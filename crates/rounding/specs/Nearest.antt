-- Document 01, 'Procedure A': "rounded to the nearest whole number .. It may be negative." Where exactly a half goes was its own rule, to the greater number;
-- change request #106 changed it: "Exact halves go to the even number." HalfToEven.antt says what that is without saying how it is computed.
use Rattle.std.specs.Prelude.{ℕ, suc, ◌+◌, ◌*◌, ◌/◌, ◌%◌, cond, ltb, ℤ, pos, negsuc, neg_ℤ}

-- of q and q + 1, the one that is even
abbrev pub even_of : ℕ → ℕ
even_of q = q + q % 2

-- q and r / d more, where r is less than d, to the nearest: q where r / d is less than a half, q + 1 where it is more, and the even one of the two where it is
-- exactly a half
abbrev pub nearer : ℕ → ℕ → ℕ → ℕ
nearer q r d =
    cond (ltb (2 * r) d) q
    (cond (ltb d (2 * r)) (q + 1)
    (even_of q))

-- n / d to the nearest whole number: n / d rounded down, and what is left
abbrev pub nearest_whole : ℕ → ℕ → ℕ
nearest_whole n d = nearer (n / d) (n % d) d

-- z / d to the nearest whole number, by its size and its sign: exactly a half goes to the even number on both sides of zero
abbrev pub nearest : ℤ → ℕ → ℤ
nearest (pos n) d = pos (nearest_whole n d)
nearest (negsuc n) d = neg_ℤ (pos (nearest_whole (suc n) d))
