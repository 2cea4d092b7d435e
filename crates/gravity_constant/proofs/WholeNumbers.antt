-- The formula at a numerator f = n − s·Q, counted from −s, in whole numbers from 0 up: the dividend is A − B, the divisor is D, and what `Fits` says is
-- two orders of whole numbers. The code counts from −3; any fraction that encloses a logarithm can be counted from −4.
use Prim.Native.Nat.{ℕ, ◌+◌, ◌*◌, ◌-◌, ◌≤◌, ◌<◌}
use mathlib.Core.Path.{◌≡◌, sym, ap, ap₂, ◌∙◌, subst, subst₂}
use native.Mathlib.Omega.{arith}
use lib.IntN.{ℤ, pos, sub_ℕ, ◌+ℤ◌, ◌-ℤ◌, ◌*ℤ◌}
use lib.Signed.{◌≤ℤ◌, ◌<ℤ◌}
use lib.Dec.{lt→ltb}
use Rattle.laws.proofs.Difference.{sub_pos, pos_is, pos_less, add_sub, sub_sub, times_sub, sub_times, sub_le, le_sub}
use Rattle.laws.proofs.Powers.{ring}
use Rattle.logarithm.specs.Fractions.{Q, Q_is, Q_number}
use Rattle.gravity_constant.specs.declared.questions.Temperature.{Temperature}
use Rattle.gravity_constant.specs.Formula.{density_taken, dividend_slope, divisor_start, divisor_slope, dividend, divisor}
use Rattle.gravity_constant.specs.Answer.{Fits}

-- ---- the divisor, and the dividend, times Q

-- what the divisor falls from as n rises, and the divisor
abbrev pub divisor_top : Temperature → ℕ → ℕ
divisor_top t s = (divisor_start t + s * divisor_slope t) * Q_number

abbrev pub D : Temperature → ℕ → ℕ → ℕ
D t s n = divisor_top t s - divisor_slope t * n

-- the dividend, as A − B
abbrev pub A : Temperature → ℕ → ℕ → ℕ
A t s d = d * Q_number + dividend_slope t * (s * Q_number)

abbrev pub B : Temperature → ℕ → ℕ
B t n = density_taken t * Q_number + dividend_slope t * n

-- c·q − e·(n − s)
times_less : (c q e n s : ℕ) → pos c *ℤ pos q -ℤ pos e *ℤ sub_ℕ n s ≡ sub_ℕ (c * q + e * s) (0 + e * n)
times_less c q e n s = ap₂ ◌-ℤ◌ (pos_is (c * q)) (times_sub e n s) ∙ sub_sub (c * q) 0 (e * n) (e * s)

-- (d − a)·q − b·(n − s)
difference_less : (d a q b n s : ℕ) → (pos d -ℤ pos a) *ℤ pos q -ℤ pos b *ℤ sub_ℕ n s ≡ sub_ℕ (d * q + b * s) (a * q + b * n)
difference_less d a q b n s =
    ap₂ ◌-ℤ◌ (ap (λ (z : ℤ). z *ℤ pos q) (pos_less d a) ∙ sub_times q d a) (times_sub b n s) ∙ sub_sub (d * q) (a * q) (b * n) (b * s)

module _ (t : Temperature) (s n : ℕ) where
  pub divisor_is : divisor_slope t * n ≤ divisor_top t s → divisor t (sub_ℕ n (s * Q_number)) ≡ pos (D t s n)
  divisor_is h =
      times_less (divisor_start t) Q (divisor_slope t) n (s * Q_number)
      ∙ sub_pos (divisor_start t * Q + divisor_slope t * (s * Q_number)) (0 + divisor_slope t * n) (rw Q_is (top (omega (arith, h))))
      ∙ ap pos (rw Q_is (simp ring (omega arith)))
    where
      top : divisor_slope t * n ≤ divisor_top t s → 0 + divisor_slope t * n ≤ divisor_start t * Q_number + divisor_slope t * (s * Q_number)
      top l = simp ring (omega (arith, simp ring at l))

  pub dividend_is : (d : ℕ) → dividend t d (sub_ℕ n (s * Q_number)) ≡ sub_ℕ (A t s d) (B t n)
  dividend_is d =
      difference_less d (density_taken t) Q (dividend_slope t) n (s * Q_number)
      ∙ ap₂ sub_ℕ (ap (λ (q : ℕ). d * q + dividend_slope t * (s * Q_number)) Q_is) (ap (λ (q : ℕ). density_taken t * q + dividend_slope t * n) Q_is)

-- ---- what `Fits` says, k = i − j

pub record Plain (i j D A B : ℕ) : Type 0 where
  pub least : 100 * (i * D) + 100000 * B ≤ 100000 * A + 100 * (j * D) + 51 * D
  pub most : 100000 * A + 100 * (j * D) ≤ 100000 * B + 100 * (i * D) + 51 * D

-- (100·k − 51)·D and (100·k + 51)·D
least_is : (i j D : ℕ) → (pos 100 *ℤ sub_ℕ i j -ℤ pos 51) *ℤ pos D ≡ sub_ℕ ((100 * i + 0) * D) ((100 * j + 51) * D)
least_is i j D =
    ap (λ (z : ℤ). (z -ℤ pos 51) *ℤ pos D) (times_sub 100 i j)
    ∙ ap (λ (z : ℤ). z *ℤ pos D) (sub_sub (100 * i) (100 * j) 51 0) ∙ sub_times D (100 * i + 0) (100 * j + 51)

most_is : (i j D : ℕ) → (pos 100 *ℤ sub_ℕ i j +ℤ pos 51) *ℤ pos D ≡ sub_ℕ ((100 * i + 51) * D) ((100 * j + 0) * D)
most_is i j D =
    ap (λ (z : ℤ). (z +ℤ pos 51) *ℤ pos D) (times_sub 100 i j)
    ∙ ap (λ (z : ℤ). z *ℤ pos D) (add_sub (100 * i) (100 * j) 51 0) ∙ sub_times D (100 * i + 51) (100 * j + 0)

module _ (t : Temperature) (d i j D A B : ℕ) (f : ℤ) (e : divisor t f ≡ pos D) (n : dividend t d f ≡ sub_ℕ A B) where
  scaled : pos 100000 *ℤ dividend t d f ≡ sub_ℕ (100000 * A) (100000 * B)
  scaled = ap (λ (z : ℤ). pos 100000 *ℤ z) n ∙ times_sub 100000 A B

  lower : (pos 100 *ℤ sub_ℕ i j -ℤ pos 51) *ℤ divisor t f ≡ sub_ℕ ((100 * i + 0) * D) ((100 * j + 51) * D)
  lower = ap (λ (z : ℤ). (pos 100 *ℤ sub_ℕ i j -ℤ pos 51) *ℤ z) e ∙ least_is i j D

  upper : (pos 100 *ℤ sub_ℕ i j +ℤ pos 51) *ℤ divisor t f ≡ sub_ℕ ((100 * i + 51) * D) ((100 * j + 0) * D)
  upper = ap (λ (z : ℤ). (pos 100 *ℤ sub_ℕ i j +ℤ pos 51) *ℤ z) e ∙ most_is i j D

  pub fits : 0 < D → Plain i j D A B → Fits t d (sub_ℕ i j) f
  fits p c =
      record {
        divides = subst (λ (z : ℤ). pos 0 <ℤ z) (sym e) (record { lt = lt→ltb 0 D p });
        least =
            subst₂ ◌≤ℤ◌ (sym lower) (sym scaled)
            (sub_le ((100 * i + 0) * D) ((100 * j + 51) * D) (100000 * A) (100000 * B) (simp ring (omega (arith, c.least))));
        most =
            subst₂ ◌≤ℤ◌ (sym scaled) (sym upper)
            (sub_le (100000 * A) (100000 * B) ((100 * i + 51) * D) ((100 * j + 0) * D) (simp ring (omega (arith, c.most))));
      }

  pub plain : Fits t d (sub_ℕ i j) f → Plain i j D A B
  plain r =
      let l = le_sub ((100 * i + 0) * D) ((100 * j + 51) * D) (100000 * A) (100000 * B) (subst₂ ◌≤ℤ◌ lower scaled r.least) in
      let m = le_sub (100000 * A) (100000 * B) ((100 * i + 51) * D) ((100 * j + 0) * D) (subst₂ ◌≤ℤ◌ scaled upper r.most) in
      record { least = omega (arith, simp ring at l); most = omega (arith, simp ring at m) }
