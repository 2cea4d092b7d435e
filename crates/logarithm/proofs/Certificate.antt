-- The power (num / den)^(2^k) between two powers of two, by a test that the checker computes: k squarings of a mantissa that is rounded
-- after each.
--
-- The tests are `at_least k s num den t` and `at_most k s num den t`; the laws `least_power` and `most_power` say what they show, and
-- `whole_least` and `whole_most` say it for a whole number.
-- The exponent is any name for 2^k, and s is the whole part of log2 (num / den). A wrong s, or a t too near the true logarithm for
-- mantissas of 128 bits, makes the test fail and shows nothing false.
use mathlib.Core.Path.{◌≡◌, sym, ap, ◌∙◌, subst}
use mathlib.Core.Bool.{Bool, true, false, ◌&&◌}
use Prim.Native.Nat.{ℕ, zero, suc, ◌+◌, ◌*◌, ◌/◌, ◌^◌, ◌≤◌, ◌<◌}
use native.Mathlib.Nat.{le_trans, le_of_eq, mul_assoc, mul_comm, mul_left_comm, mul-one, one-mul, add-mul, pow-suc, mul-le-mul, mul-le-mul_right, le_of_mul-le-mul_right, div-mul-le_self, lt-div-mul-add, mul-pos}
use native.Mathlib.Omega.{arith}
use lib.Dec.{T, ltb, leb, leb→le, ltb→lt, lit<}
use lib.Pow.{pow-add, pow_pos, pow_mono}
use Rattle.laws.proofs.Computed.{and_left, and_right}
use Rattle.laws.proofs.Powers.{ring, pow_twice, pow_one, one_pow}

-- ---- the tests

-- Is a / N * 2^e, squared k times with each mantissa rounded down, at least 2^t?
unfoldable pub least : ℕ → ℕ → ℕ → ℕ → ℕ → Bool
least zero N a e t = leb N a && leb t e
least (suc k) N a e t =
    elim (ltb (a * a) (2 * N * N)) [ true ↦ least k N (a * a / (1 * N)) (e * 2) t | false ↦ least k N (a * a / (2 * N)) (e * 2 + 1) t ]

-- Is it, with each mantissa rounded up, at most 2^t?
unfoldable pub most : ℕ → ℕ → ℕ → ℕ → ℕ → Bool
most zero N a e t = leb a (2 * N) && ltb e t
most (suc k) N a e t =
    elim (ltb (a * a) (2 * N * N)) [ true ↦ most k N (a * a / (1 * N) + 1) (e * 2) t | false ↦ most k N (a * a / (2 * N) + 1) (e * 2 + 1) t ]

-- the unit of the tests' mantissas: 2^128
abbrev guard : ℕ
guard = 340282366920938463463374607431768211456

-- 2^t ≤ (num / den)^(2^k)?  s is the whole part of log2 (num / den)
unfoldable pub at_least : ℕ → ℕ → ℕ → ℕ → ℕ → Bool
at_least k s num den t = least k guard (num * guard / (2 ^ s * den)) s t

-- (num / den)^(2^k) ≤ 2^t?
unfoldable pub at_most : ℕ → ℕ → ℕ → ℕ → ℕ → Bool
at_most k s num den t = most k guard (num * guard / (2 ^ s * den) + 1) s t

-- ---- what they show

-- One squaring, with every power a variable: F is 2^e, Y is den^n, X is num^n, d is 1 or 2.
square_below : (a b d F Y X N : ℕ) → 0 < N → b * (d * N) ≤ a * a → a * F * Y ≤ X * N → b * (d * (F * F)) * (Y * Y) ≤ X * X * N
square_below a b d F Y X N p h l =
    le_of_mul-le-mul_right {k = N}
    (simp ring (omega (arith, simp ring at (mul-le-mul_right (F * F * (Y * Y)) h), simp ring at (mul-le-mul l l))))
    p

square_above : (a b d F Y X N : ℕ) → 0 < N → a * a ≤ b * (d * N) → X * N ≤ a * F * Y → X * X * N ≤ b * (d * (F * F)) * (Y * Y)
square_above a b d F Y X N p h l =
    le_of_mul-le-mul_right {k = N}
    (simp ring (omega (arith, simp ring at (mul-le-mul_right (F * F * (Y * Y)) h), simp ring at (mul-le-mul l l))))
    p

twice : (e : ℕ) → 2 ^ (e * 2) ≡ 1 * (2 ^ e * 2 ^ e)
twice e = pow_twice 2 e ∙ sym (one-mul _)

twice_one : (e : ℕ) → 2 ^ (e * 2 + 1) ≡ 2 * (2 ^ e * 2 ^ e)
twice_one e = pow-add 2 (e * 2) 1 ∙ mul_comm (2 ^ (e * 2)) 2 ∙ ap (λ (x : ℕ). 2 * x) (pow_twice 2 e)

one_squaring : (n k : ℕ) → n * 2 * 2 ^ k ≡ n * 2 ^ suc k
one_squaring n k = simp (pow-suc, mul_assoc, mul_comm, mul_left_comm)

-- a test that goes by a first test shows what both ways show
by_test : {G : Type 0} (b u v : Bool) → T (elim b [ true ↦ u | false ↦ v ]) → (T u → G) → (T v → G) → G
by_test true u v h f g = f h
by_test false u v h f g = g h

-- the invariant: a / N * 2^e is at or below, at or above (num / den)^n
module _ (N num den : ℕ) (p : 0 < N) where
  abbrev Below : ℕ → ℕ → ℕ → Type 0
  Below n a e = a * 2 ^ e * den ^ n ≤ num ^ n * N

  abbrev Above : ℕ → ℕ → ℕ → Type 0
  Above n a e = num ^ n * N ≤ a * 2 ^ e * den ^ n

  below_next : (d n a e e' : ℕ) → 2 ^ e' ≡ d * (2 ^ e * 2 ^ e) → Below n a e → Below (n * 2) (a * a / (d * N)) e'
  below_next d n a e e' g l =
      rw (g, pow_twice num n, pow_twice den n)
      (square_below a (a * a / (d * N)) d (2 ^ e) (den ^ n) (num ^ n) N p (div-mul-le_self (a * a) (d * N)) l)

  above_next : (d n a e e' : ℕ) → 0 < d → 2 ^ e' ≡ d * (2 ^ e * 2 ^ e) → Above n a e → Above (n * 2) (a * a / (d * N) + 1) e'
  above_next d n a e e' q g l =
      rw (g, pow_twice num n, pow_twice den n)
      (square_above a (a * a / (d * N) + 1) d (2 ^ e) (den ^ n) (num ^ n) N p
      (let h : a * a < a * a / (d * N) * (d * N) + d * N = lt-div-mul-add (mul-pos q p) in omega (arith, add-mul (a * a / (d * N)) 1 (d * N))) l)

  below_end : (n a e t : ℕ) → N ≤ a → t ≤ e → Below n a e → 2 ^ t * den ^ n ≤ num ^ n
  below_end n a e t h k l =
      le_of_mul-le-mul_right {k = N}
      (le_trans (le_of_eq (mul_comm (2 ^ t * den ^ n) N))
      (le_trans (mul-le-mul h (mul-le-mul_right (den ^ n) (pow_mono k)))
      (le_trans (le_of_eq (sym (mul_assoc a (2 ^ e) (den ^ n)))) l)))
      p

  above_end : (n a e t : ℕ) → a ≤ 2 * N → e < t → Above n a e → num ^ n ≤ 2 ^ t * den ^ n
  above_end n a e t h k l =
      le_of_mul-le-mul_right {k = N}
      (le_trans l
      (le_trans (mul-le-mul_right (den ^ n) (mul-le-mul_right (2 ^ e) h))
      (le_trans (le_of_eq (let q : 2 * N * 2 ^ e * den ^ n ≡ 2 ^ suc e * den ^ n * N = rw (pow-suc 2 e) (simp ring) in q))
      (mul-le-mul_right N (mul-le-mul_right (den ^ n) (pow_mono k))))))
      p

  least_law : (k n a e t : ℕ) → T (least k N a e t) → Below n a e → 2 ^ t * den ^ (n * 2 ^ k) ≤ num ^ (n * 2 ^ k)
  unfolding least
  least_law zero n a e t h l =
      rw mul-one (below_end n a e t (leb→le N a (and_left (leb N a) (leb t e) h)) (leb→le t e (and_right (leb N a) (leb t e) h)) l)
  least_law (suc k) n a e t h l =
      subst (λ (x : ℕ). 2 ^ t * den ^ x ≤ num ^ x) (one_squaring n k)
      (by_test (ltb (a * a) (2 * N * N)) (least k N (a * a / (1 * N)) (e * 2) t) (least k N (a * a / (2 * N)) (e * 2 + 1) t) h
      (λ g. least_law k (n * 2) (a * a / (1 * N)) (e * 2) t g (below_next 1 n a e (e * 2) (twice e) l))
      (λ g. least_law k (n * 2) (a * a / (2 * N)) (e * 2 + 1) t g (below_next 2 n a e (e * 2 + 1) (twice_one e) l)))

  most_law : (k n a e t : ℕ) → T (most k N a e t) → Above n a e → num ^ (n * 2 ^ k) ≤ 2 ^ t * den ^ (n * 2 ^ k)
  unfolding most
  most_law zero n a e t h l =
      rw mul-one
      (above_end n a e t (leb→le a (2 * N) (and_left (leb a (2 * N)) (ltb e t) h)) (ltb→lt e t (and_right (leb a (2 * N)) (ltb e t) h)) l)
  most_law (suc k) n a e t h l =
      subst (λ (x : ℕ). num ^ x ≤ 2 ^ t * den ^ x) (one_squaring n k)
      (by_test (ltb (a * a) (2 * N * N)) (most k N (a * a / (1 * N) + 1) (e * 2) t) (most k N (a * a / (2 * N) + 1) (e * 2 + 1) t) h
      (λ g. most_law k (n * 2) (a * a / (1 * N) + 1) (e * 2) t g (above_next 1 n a e (e * 2) (omega arith) (twice e) l))
      (λ g. most_law k (n * 2) (a * a / (2 * N) + 1) (e * 2 + 1) t g (above_next 2 n a e (e * 2 + 1) (omega arith) (twice_one e) l)))

  -- the first mantissa
  below_start : (s : ℕ) → Below 1 (num * N / (2 ^ s * den)) s
  below_start s =
      rw (pow_one num, pow_one den, mul_assoc (num * N / (2 ^ s * den)) (2 ^ s) den) (div-mul-le_self (num * N) (2 ^ s * den))

  above_start : (s : ℕ) → 0 < den → Above 1 (num * N / (2 ^ s * den) + 1) s
  above_start s q =
      rw (pow_one num, pow_one den, mul_assoc (num * N / (2 ^ s * den) + 1) (2 ^ s) den)
      (let l : num * N < num * N / (2 ^ s * den) * (2 ^ s * den) + 2 ^ s * den = lt-div-mul-add (mul-pos (pow_pos s) q) in
      omega (arith, add-mul (num * N / (2 ^ s * den)) 1 (2 ^ s * den)))

-- E is any name for 2^k, so that no check computes a power to it.
pub least_power : (k s num den t E : ℕ) → E ≡ 2 ^ k → T (at_least k s num den t) → 2 ^ t * den ^ E ≤ num ^ E
unfolding at_least
least_power k s num den t E e h =
    subst (λ (x : ℕ). 2 ^ t * den ^ x ≤ num ^ x) (one-mul (2 ^ k) ∙ sym e)
    (least_law guard num den (lit< tt) k 1 (num * guard / (2 ^ s * den)) s t h (below_start guard num den (lit< tt) s))

pub most_power : (k s num den t E : ℕ) → 0 < den → E ≡ 2 ^ k → T (at_most k s num den t) → num ^ E ≤ 2 ^ t * den ^ E
unfolding at_most
most_power k s num den t E q e h =
    subst (λ (x : ℕ). num ^ x ≤ 2 ^ t * den ^ x) (one-mul (2 ^ k) ∙ sym e)
    (most_law guard num den (lit< tt) k 1 (num * guard / (2 ^ s * den) + 1) s t h (above_start guard num den (lit< tt) s q))

-- the same for a whole number
pub whole_least : (k s x t E : ℕ) → E ≡ 2 ^ k → T (at_least k s x 1 t) → 2 ^ t ≤ x ^ E
whole_least k s x t E e h = subst (λ (y : ℕ). y ≤ x ^ E) (ap (λ (y : ℕ). 2 ^ t * y) (one_pow E) ∙ mul-one (2 ^ t)) (least_power k s x 1 t E e h)

pub whole_most : (k s x t E : ℕ) → E ≡ 2 ^ k → T (at_most k s x 1 t) → x ^ E ≤ 2 ^ t
whole_most k s x t E e h =
    subst (λ (y : ℕ). x ^ E ≤ y) (ap (λ (y : ℕ). 2 ^ t * y) (one_pow E) ∙ mul-one (2 ^ t)) (most_power k s x 1 t E (omega arith) e h)
