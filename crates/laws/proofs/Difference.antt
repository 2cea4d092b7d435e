-- Differences of whole numbers, of either sign: what they are, when two are equal, their sums and products, and their order. Each signed number
-- of a definition is one; what holds of them is then an equation or an order of whole numbers.
use Prim.Native.Nat.{ℕ, zero, suc, ◌+◌, ◌*◌, ◌-◌, ◌<◌, ◌≤◌}
use mathlib.Core.Path.{◌≡◌, refl, sym, ◌∙◌, ap, ap₂, subst}
use lib.IntN.{ℤ, pos, negsuc, neg_ℤ, sub_ℕ, ◌+ℤ◌, ◌-ℤ◌, ◌*ℤ◌}
use lib.Signed.{◌≤ℤ◌, mag}
use lib.Dec.{le→leb, leb→le}
use native.Mathlib.Omega.{arith}
use native.Mathlib.Nat.{add-zero, le_trans, mul-add, mul_comm}
use borrow.Author.Tests.{lt-ltb, le-ltb}
use Rattle.laws.specs.Bits.{half32}
use Rattle.laws.proofs.Order.{by_order}

-- a − b where b is at most a, and where it is above
pub sub_pos : (a b : ℕ) → b ≤ a → sub_ℕ a b ≡ pos (a - b)
sub_pos a b h = rw (le-ltb a b h)

pub sub_neg : (a b : ℕ) → a < b → sub_ℕ a b ≡ negsuc (b - suc a)
sub_neg a b h = rw (lt-ltb a b h)

-- a − b = c − d
pub sub_same : (a b c d : ℕ) → a + d ≡ c + b → sub_ℕ a b ≡ sub_ℕ c d
sub_same a b c d e =
    by_order a b
    (λ h. sub_neg a b h ∙ ap negsuc (omega arith) ∙ sym (sub_neg c d (omega arith)))
    (λ h. sub_pos a b h ∙ ap pos (omega arith) ∙ sym (sub_pos c d (omega arith)))

-- n and −n as differences
pub pos_is : (n : ℕ) → pos n ≡ sub_ℕ n 0
pos_is n = ap pos (omega arith) ∙ sym (sub_pos n 0 (omega arith))

pub neg_is : (n : ℕ) → neg_ℤ (pos n) ≡ sub_ℕ 0 n
neg_is zero = refl
neg_is (suc n) = ap negsuc (omega arith) ∙ sym (sub_neg 0 (suc n) (omega arith))

pub pos_less : (a b : ℕ) → pos a -ℤ pos b ≡ sub_ℕ a b
pos_less a zero = ap pos (omega arith) ∙ pos_is a
pos_less a (suc b) = refl

-- every number is a difference
pub record Difference (z : ℤ) : Type 0 where
  pub i : ℕ
  pub j : ℕ
  pub is : z ≡ sub_ℕ i j

pub difference : (z : ℤ) → Difference z
difference (pos n) = record { i = n; j = 0; is = pos_is n }
difference (negsuc n) = record { i = 0; j = suc n; is = neg_is (suc n) }

-- n · (a − b)
pub times_sub : (n a b : ℕ) → pos n *ℤ sub_ℕ a b ≡ sub_ℕ (n * a) (n * b)
times_sub n a b =
    by_order a b
    (λ h. let e : b ≡ a + suc (b - suc a) = omega arith in
    ap (λ (z : ℤ). pos n *ℤ z) (sub_neg a b h) ∙ neg_is (n * suc (b - suc a))
    ∙ sub_same 0 (n * suc (b - suc a)) (n * a) (n * b) (omega (arith, ap (λ (x : ℕ). n * x) e, mul-add n a (suc (b - suc a)))))
    (λ h. let e : a ≡ a - b + b = omega arith in
    ap (λ (z : ℤ). pos n *ℤ z) (sub_pos a b h) ∙ pos_is (n * (a - b))
    ∙ sub_same (n * (a - b)) 0 (n * a) (n * b) (omega (arith, ap (λ (x : ℕ). n * x) e, mul-add n (a - b) b)))

-- (a − b) · n
pub sub_times : (n a b : ℕ) → sub_ℕ a b *ℤ pos n ≡ sub_ℕ (a * n) (b * n)
sub_times n a b =
    by_order a b
    (λ h. ap (λ (z : ℤ). z *ℤ pos n) (sub_neg a b h) ∙ ap (λ (m : ℕ). neg_ℤ (pos m)) (mul_comm (suc (b - suc a)) n)
    ∙ sym (ap (λ (z : ℤ). pos n *ℤ z) (sub_neg a b h)))
    (λ h. ap (λ (z : ℤ). z *ℤ pos n) (sub_pos a b h) ∙ ap pos (mul_comm (a - b) n) ∙ sym (ap (λ (z : ℤ). pos n *ℤ z) (sub_pos a b h)))
    ∙ times_sub n a b ∙ ap₂ sub_ℕ (mul_comm n a) (mul_comm n b)

-- −(a − b)
neg_sub : (a b : ℕ) → neg_ℤ (sub_ℕ a b) ≡ sub_ℕ b a
neg_sub a b =
    by_order a b
    (λ h. ap neg_ℤ (sub_neg a b h) ∙ ap pos (omega arith) ∙ sym (sub_pos b a (omega arith)))
    (λ h. ap neg_ℤ (sub_pos a b h) ∙ neg_is (a - b) ∙ sub_same 0 (a - b) b a (omega arith))

-- (a − b) + (c − d)
pub add_sub : (a b c d : ℕ) → sub_ℕ a b +ℤ sub_ℕ c d ≡ sub_ℕ (a + c) (b + d)
add_sub a b c d =
    by_order a b
    (λ h. by_order c d
    (λ k. ap₂ ◌+ℤ◌ (sub_neg a b h) (sub_neg c d k) ∙ ap negsuc (omega arith) ∙ sym (sub_neg (a + c) (b + d) (omega arith)))
    (λ k. ap₂ ◌+ℤ◌ (sub_neg a b h) (sub_pos c d k) ∙ sub_same (c - d) (suc (b - suc a)) (a + c) (b + d) (omega arith)))
    (λ h. by_order c d
    (λ k. ap₂ ◌+ℤ◌ (sub_pos a b h) (sub_neg c d k) ∙ sub_same (a - b) (suc (d - suc c)) (a + c) (b + d) (omega arith))
    (λ k. ap₂ ◌+ℤ◌ (sub_pos a b h) (sub_pos c d k) ∙ ap pos (omega arith) ∙ sym (sub_pos (a + c) (b + d) (omega arith))))

-- (a − b) − (c − d)
pub sub_sub : (a b c d : ℕ) → sub_ℕ a b -ℤ sub_ℕ c d ≡ sub_ℕ (a + d) (b + c)
sub_sub a b c d = ap (λ (z : ℤ). sub_ℕ a b +ℤ z) (neg_sub c d) ∙ add_sub a b d c

-- (a − b) + c
pub sub_plus : (a b c : ℕ) → sub_ℕ a b +ℤ pos c ≡ sub_ℕ (a + c) b
sub_plus a b c = ap (λ (z : ℤ). sub_ℕ a b +ℤ z) (pos_is c) ∙ add_sub a b c 0 ∙ ap (sub_ℕ (a + c)) (add-zero b)

pub pos_le : (a b : ℕ) → a ≤ b → pos a ≤ℤ pos b
pos_le a b h = record { le = le→leb a b h }

pub neg_le : (a b : ℕ) → b ≤ a → negsuc a ≤ℤ negsuc b
neg_le a b h = record { le = le→leb b a h }

joins : (a b c : ℤ) → a ≤ℤ b → b ≤ℤ c → a ≤ℤ c
joins (pos a) (pos b) (pos c) h k = pos_le a c (le_trans (leb→le a b h.le) (leb→le b c k.le))
joins (pos a) (pos b) (negsuc c) h k = absurd k.le
joins (pos a) (negsuc b) c h k = absurd h.le
joins (negsuc a) (pos b) (pos c) h k = record { le = tt }
joins (negsuc a) (pos b) (negsuc c) h k = absurd k.le
joins (negsuc a) (negsuc b) (pos c) h k = record { le = tt }
joins (negsuc a) (negsuc b) (negsuc c) h k = neg_le a c (le_trans (leb→le c b k.le) (leb→le b a h.le))

pub order_joins : {a b c : ℤ} → a ≤ℤ b → b ≤ℤ c → a ≤ℤ c
order_joins {a} {b} {c} h k = joins a b c h k

-- a − b is at most c − d
pub sub_le : (a b c d : ℕ) → a + d ≤ c + b → sub_ℕ a b ≤ℤ sub_ℕ c d
sub_le a b c d l =
    by_order a b
    (λ h. by_order c d
    (λ k. rw (sub_neg a b h, sub_neg c d k) (neg_le (b - suc a) (d - suc c) (omega arith)))
    (λ k. rw (sub_neg a b h, sub_pos c d k) (record { le = tt })))
    (λ h. rw (sub_pos a b h, sub_pos c d (omega arith)) (pos_le (a - b) (c - d) (omega arith)))

-- and only then
pub le_sub : (a b c d : ℕ) → sub_ℕ a b ≤ℤ sub_ℕ c d → a + d ≤ c + b
le_sub a b c d h =
    by_order a b
    (λ l. by_order c d
    (λ k. let o : negsuc (b - suc a) ≤ℤ negsuc (d - suc c) = rw (sub_neg a b l, sub_neg c d k) at h in omega (arith, leb→le (d - suc c) (b - suc a) o.le))
    (λ k. omega arith))
    (λ l. by_order c d
    (λ k. let o : pos (a - b) ≤ℤ negsuc (d - suc c) = rw (sub_pos a b l, sub_neg c d k) at h in absurd o.le)
    (λ k. let o : pos (a - b) ≤ℤ pos (c - d) = rw (sub_pos a b l, sub_pos c d k) at h in omega (arith, leb→le (a - b) (c - d) o.le)))

-- a number that is not below −s, counted from −s
pub record CountedFrom (s : ℕ) (z : ℤ) : Type 0 where
  pub n : ℕ
  pub is : z ≡ sub_ℕ n s

pub counted_from : (s : ℕ) (z : ℤ) → sub_ℕ 0 s ≤ℤ z → CountedFrom s z
counted_from s z h =
    let d = difference z in
    let l = le_sub 0 s d.i d.j (subst (λ (y : ℤ). sub_ℕ 0 s ≤ℤ y) d.is h) in
    record { n = d.i + s - d.j; is = d.is ∙ sub_same d.i d.j (d.i + s - d.j) s (omega arith) }

-- a − c is at most a − b where b is at most c
pub sub_falls : (a b c : ℕ) → b ≤ c → sub_ℕ a c ≤ℤ sub_ℕ a b
sub_falls a b c h = sub_le a c a b (omega arith)

-- the difference of two numbers that 32 bits hold with sign is one
pub difference_fits : (a b : ℕ) → a < half32 → b < half32 → mag (sub_ℕ a b) < half32
difference_fits a b h k =
    by_order a b
    (λ l. rw (sub_neg a b l) (omega arith))
    (λ l. rw (sub_pos a b l) (omega arith))
