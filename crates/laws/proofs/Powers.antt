-- Laws of powers whose exponents are variables, so that a crate can use them at an exponent that no check may compute.
use mathlib.Core.Path.{◌≡◌, refl, sym, ap, ◌∙◌, subst, subst₂}
use Prim.Native.Nat.{ℕ, zero, suc, ◌+◌, ◌*◌, ◌-◌, ◌^◌, ◌≤◌, ◌<◌}
use native.Mathlib.Nat.{le_refl, lt_of_not-le, mul_assoc, mul_comm, mul_left_comm, mul-one, one-mul, mul-zero, zero-mul, add-zero, mul-suc, suc-mul, add-mul, mul-add, pow-zero, pow-suc, pow-lt-pow_left, pow-le-pow_left, mul-le-mul_left, mul-le-mul_right, le_of_mul-le-mul_left, le_of_mul-le-mul_right, one-le-pow, pow-le-pow_right}
use native.Mathlib.Decide.{dec_le}
use native.Mathlib.Omega.{arith}
use lib.Pow.{pow-add}
use Rattle.laws.proofs.Order.{by_order}

-- Products multiplied out and sorted, so that omega reads what is left as a sum of unknowns: `simp ring (omega (arith, simp ring at h))`.
pub ruleset ring = (mul-add, add-mul, mul-suc, suc-mul, mul_assoc, mul_comm, mul_left_comm)

-- ---- equations

pub pow_one : (x : ℕ) → x ^ 1 ≡ x
pow_one x = pow-suc x 0 ∙ ap (λ (k : ℕ). k * x) (pow-zero x) ∙ one-mul x

pub one_pow : (n : ℕ) → 1 ^ n ≡ 1
one_pow zero = pow-zero 1
one_pow (suc n) = simp (pow-suc, one_pow n)

pub mul_pow : (a b n : ℕ) → (a * b) ^ n ≡ a ^ n * b ^ n
mul_pow a b zero = simp (pow-zero, mul-one)
mul_pow a b (suc n) = simp (pow-suc, mul_pow a b n, mul_assoc, mul_comm, mul_left_comm)

pub pow_mul : (a m n : ℕ) → a ^ (m * n) ≡ (a ^ m) ^ n
pow_mul a m zero = simp (mul-zero, pow-zero)
pow_mul a m (suc n) = rw (mul-suc, pow-add, pow_mul a m n, pow-suc) refl

pub pow_swap : (x m n : ℕ) → (x ^ m) ^ n ≡ (x ^ n) ^ m
pow_swap x m n = sym (pow_mul x m n) ∙ ap (λ (k : ℕ). x ^ k) (mul_comm m n) ∙ pow_mul x n m

-- the power of twice the exponent is a square
pub pow_twice : (x n : ℕ) → x ^ (n * 2) ≡ x ^ n * x ^ n
pow_twice x n = ap (λ (k : ℕ). x ^ k) (omega arith) ∙ pow-add x n n

-- ---- orders

-- an order of products is one of their powers
pub raise : (a b c d n : ℕ) → a * b ≤ c * d → a ^ n * b ^ n ≤ c ^ n * d ^ n
raise a b c d n h = rw (← mul_pow a b n, ← mul_pow c d n) (pow-le-pow_left h n)

-- an order of powers is one of their bases
pub root : {x y : ℕ} (n : ℕ) → 0 < n → x ^ n ≤ y ^ n → x ≤ y
root {x} {y} n h p = go (dec_le x y)
  where
    go : Dec (x ≤ y) → x ≤ y
    go (yes l) = l
    go (no l) =
        let q : y ^ n < x ^ n = pow-lt-pow_left (lt_of_not-le l) (λ e. absurd (let z : 0 < 0 = subst (λ (k : ℕ). 0 < k) e h in omega arith)) in
        absurd (omega arith)

-- a power on both sides of an order goes
pub cancel_power : (x n : ℕ) {a b : ℕ} → 0 < x → x ^ n * a ≤ x ^ n * b → a ≤ b
cancel_power x n some h = le_of_mul-le-mul_left {k = x ^ n} h (one-le-pow n x some)

-- an order of powers of one base is one of their exponents
pub exponents_le : (x a b : ℕ) → 1 < x → x ^ a ≤ x ^ b → a ≤ b
exponents_le x a b base h =
    by_order b a
    (λ more.
    let up : x ^ suc b ≤ x ^ a = pow-le-pow_right (omega arith) more in
    let twice : x ^ b * 2 ≤ x ^ b * x = mul-le-mul_left (x ^ b) base in
    absurd (omega (arith, rw pow-suc at up, one-le-pow b x (omega arith))))
    (λ most. most)

-- Powers of two quotients compared: (y / x)^p * v ≤ h and h ≤ (y / x)^P * u, where P ≤ p. In the algebra every power is a variable:
-- A = y^P, B = x^P, a = y^s, b = x^s, where P + s = p.
quotients_algebra : (A B a b u v h : ℕ) → 0 < A → A * a * v ≤ B * b * h → B * h ≤ A * u → a * v ≤ b * u
quotients_algebra A B a b u v h z i j =
    le_of_mul-le-mul_left {k = A} (omega (arith, simp ring at i, simp ring at (mul-le-mul_left b j))) z

quotients : (x y u v h p P : ℕ) → x < y → P ≤ p → y ^ p * v ≤ x ^ p * h → x ^ P * h ≤ y ^ P * u → y ^ (p - P) * v ≤ x ^ (p - P) * u
quotients x y u v h p P base order low high =
    let e : P + (p - P) ≡ p = omega arith in
    let i : y ^ P * y ^ (p - P) * v ≤ x ^ P * x ^ (p - P) * h =
    subst₂ (λ (s t : ℕ). s * v ≤ t * h) (ap (λ (k : ℕ). y ^ k) (sym e) ∙ pow-add y P (p - P)) (ap (λ (k : ℕ). x ^ k) (sym e) ∙ pow-add x P (p - P)) low in
    quotients_algebra (y ^ P) (x ^ P) (y ^ (p - P)) (x ^ (p - P)) u v h (one-le-pow P y (omega arith)) i high

-- the order of exponents: with y above x and equal u, p ≤ P
pub exponents_in_order :
    (x y u h p P : ℕ) → x < y → 0 < u → y ^ p * u ≤ x ^ p * h → x ^ P * h ≤ y ^ P * u → p ≤ P
exponents_in_order x y u h p P base some low high =
    by_order P p
    (λ more.
    let l : y ^ (p - P) ≤ x ^ (p - P) = le_of_mul-le-mul_right {k = u} (quotients x y u u h p P base (omega arith) low high) some in
    let m : x ^ (p - P) < y ^ (p - P) = pow-lt-pow_left base (λ z. omega arith) in
    absurd (omega arith))
    (λ most. most)

-- and with a greater v on the side of p, p < P
pub exponents_apart :
    (x y u v h p P : ℕ) → 0 < x → x < y → u < v → y ^ p * v ≤ x ^ p * h → x ^ P * h ≤ y ^ P * u → p < P
exponents_apart x y u v h p P some base more low high =
    by_order p P (λ less. less)
    (λ order.
    let l : y ^ (p - P) * v ≤ x ^ (p - P) * u = quotients x y u v h p P base order low high in
    let m : x ^ (p - P) * v ≤ y ^ (p - P) * v = mul-le-mul_right v (pow-le-pow_left (omega arith) (p - P)) in
    let n : x ^ (p - P) * suc u ≤ x ^ (p - P) * v = mul-le-mul_left (x ^ (p - P)) more in
    absurd (omega (arith, l, m, rw mul-suc at n, one-le-pow (p - P) x some)))

-- ---- powers of a sum against a straight line

bernoulli_once_more : (A B c d n : ℕ) → A * (c + n * d) ≤ B * c → A ≤ B → A * c * (c + suc n * d) ≤ B * (c + d) * c
bernoulli_once_more A B c d n h k =
    simp ring (omega (arith, simp ring at (mul-le-mul_right c h), mul-le-mul_right (c * d) k))

-- Bernoulli: (1 + d / c)^n is at least 1 + n * d / c
pub bernoulli : (c d n : ℕ) → c ^ n * (c + n * d) ≤ (c + d) ^ n * c
bernoulli c d zero = simp (pow-zero, zero-mul, add-zero) (le_refl _)
bernoulli c d (suc n) =
    simp pow-suc (bernoulli_once_more (c ^ n) ((c + d) ^ n) c d n (bernoulli c d n) (pow-le-pow_left (omega arith) n))

steps_once_more : (A B M b n : ℕ) → b ≤ M → A * (b + 1) ≤ B * (b + 1 + n) → A * (M + 1) * b ≤ B * M * (b + suc n)
steps_once_more A B M b n l h =
    simp ring (omega (arith, simp ring at (mul-le-mul_right M h), mul-le-mul_left A l))

-- n steps of one part in M, all at or below M: (1 + 1 / M)^n is at most 1 + n / b
pub steps_at_most : (M b n : ℕ) → b + n ≤ M → (M + 1) ^ n * b ≤ M ^ n * (b + n)
steps_at_most M b zero e = simp (pow-zero, add-zero) (le_refl _)
steps_at_most M b (suc n) e =
    let e' : b + 1 + n ≤ M = omega arith in
    simp pow-suc (steps_once_more ((M + 1) ^ n) (M ^ n) M b n (omega arith) (steps_at_most M (b + 1) n e'))

-- ---- how much a power grows

one_power_grows : (q c d n : ℕ) → 0 < c → c ≤ q * (n * d) → (q + 1) * c ^ n ≤ q * (c + d) ^ n
one_power_grows q c d n p h = le_of_mul-le-mul_right {k = c} (algebra (c ^ n) ((c + d) ^ n) q c (n * d) (bernoulli c d n) h) p
  where
    algebra : (A B q c e : ℕ) → A * (c + e) ≤ B * c → c ≤ q * e → (q + 1) * A * c ≤ q * B * c
    algebra A B q c e l h = simp ring (omega (arith, simp ring at (mul-le-mul_left q l), mul-le-mul_left A h))

growth_cancel : (G X Y A B : ℕ) → 0 < X → G * X ≤ Y → Y * A ≤ X * B → G * A ≤ B
growth_cancel G X Y A B p h l = le_of_mul-le-mul_left {k = X} (simp ring (omega (arith, simp ring at (mul-le-mul_right A h), l))) p

-- Where d is at least one part in q * n of c, the power n * m of c + d is at least 2^g times that of c. The premise about q is a certificate
-- (proofs/Certificate.antt of the crate logarithm), or computed.
pub power_growth :
    (g q n m c d : ℕ) → 0 < q → 2 ^ g * q ^ m ≤ (q + 1) ^ m → 0 < c → c ≤ q * (n * d) → 2 ^ g * c ^ (n * m) ≤ (c + d) ^ (n * m)
power_growth g q n m c d p f z h =
    subst₂ (λ (x y : ℕ). 2 ^ g * x ≤ y) (sym (pow_mul c n m)) (sym (pow_mul (c + d) n m))
    (growth_cancel (2 ^ g) (q ^ m) ((q + 1) ^ m) ((c ^ n) ^ m) (((c + d) ^ n) ^ m) (one-le-pow m q p) f
    (subst₂ ◌≤◌ (mul_pow (q + 1) (c ^ n) m) (mul_pow q ((c + d) ^ n) m) (pow-le-pow_left (one_power_grows q c d n z h) m)))
