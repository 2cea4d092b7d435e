-- The least and the greatest of what f gives: what is made of one number after the other is one of them, and none is beyond it; and only one number is so.
use Prim.Native.Nat.{ℕ, zero, suc, ◌+◌, ◌-◌, ◌≤◌}
use mathlib.Core.Path.{◌≡◌, refl, sym, ◌∙◌, subst}
use mathlib.Core.Bool.{false}
use mathlib.Core.Logic.{◌⊎◌, ⊎_elim}
use native.Mathlib.Omega.{arith}
use native.Mathlib.Nat.{add-zero}
use lib.IntN.{ℤ}
use Rattle.std.proofs.lemmas.Int.{ints, clamps}
use Rattle.laws.proofs.Order.{by_order}
use Rattle.span.specs.declared.extreme.Extreme.{Extreme}
use Rattle.span.specs.declared.extreme.Extreme.TheVariants.{Least, Greatest}
use Rattle.span.specs.Extremes.{NotBeyond, IsExtreme, of_two, extreme_after, extreme_of, Extremes, is_beyond}

-- ---- two numbers

pub itself : (which : Extreme) (k : ℤ) → NotBeyond which k k
itself Least k = omega (arith, ints)
itself Greatest k = omega (arith, ints)

pub joins : (which : Extreme) (a b d : ℤ) → NotBeyond which a b → NotBeyond which b d → NotBeyond which a d
joins Least a b d h k = omega (arith, ints)
joins Greatest a b d h k = omega (arith, ints)

both_ways : (which : Extreme) (a b : ℤ) → NotBeyond which a b → NotBeyond which b a → a ≡ b
both_ways Least a b h k = omega (arith, ints)
both_ways Greatest a b h k = omega (arith, ints)

pub two_first : (which : Extreme) (a b : ℤ) → NotBeyond which (of_two which a b) a
two_first Least a b = omega (arith, ints, clamps)
two_first Greatest a b = omega (arith, ints, clamps)

pub two_second : (which : Extreme) (a b : ℤ) → NotBeyond which (of_two which a b) b
two_second Least a b = omega (arith, ints, clamps)
two_second Greatest a b = omega (arith, ints, clamps)

pub two_is : (which : Extreme) (a b : ℤ) → (of_two which a b ≡ a) ⊎ (of_two which a b ≡ b)
two_is Least a b = grind (arith, ints)
two_is Greatest a b = grind (arith, ints)

-- where b is not beyond a, it is a
pub two_kept : (which : Extreme) (a b : ℤ) → is_beyond which b a ≡ false → of_two which a b ≡ a
two_kept Least a b h = grind (arith, ints)
two_kept Greatest a b h = grind (arith, ints)

-- ---- many

module _ (which : Extreme) (f : ℕ → ℤ) where
  -- of the numbers from one to another, and from the next one to a third: of all of them
  pub joined : (from middle to : ℕ) (k j : ℤ) → IsExtreme which f from middle k → IsExtreme which f (suc middle) to j → IsExtreme which f from to (of_two which k j)
  joined from middle to k j a b =
      let none : (n : ℕ) → from ≤ n → n ≤ to → NotBeyond which (of_two which k j) (f n) =
      λ n l h. by_order middle n
      (λ m. joins which (of_two which k j) j (f n) (two_second which k j) (b.none_beyond n (omega arith) h))
      (λ m. joins which (of_two which k j) k (f n) (two_first which k j) (a.none_beyond n l m)) in
      ⊎_elim
      (λ (e : of_two which k j ≡ k). record { at = a.at; first = a.first; last = omega (arith, a.last, b.first, b.last); is = a.is ∙ sym e; none_beyond = none })
      (λ (e : of_two which k j ≡ j). record { at = b.at; first = omega (arith, b.first, a.first, a.last); last = b.last; is = b.is ∙ sym e; none_beyond = none })
      (two_is which k j)

  pub alone : (from : ℕ) → IsExtreme which f from from (f from)
  alone from =
      record {
        at = from;
        first = omega arith;
        last = omega arith;
        is = refl;
        none_beyond = λ n a b. let e : from ≡ n = omega arith in subst (λ (m : ℕ). NotBeyond which (f from) (f m)) e (itself which (f from));
      }

  after : (from n : ℕ) → IsExtreme which f from (from + n) (extreme_after which f from n)
  unfolding extreme_after
  after from zero = rw (add-zero from) (alone from)
  after from (suc n) =
      let e : from + suc n ≡ suc (from + n) = omega arith in
      rw e (joined from (from + n) (suc (from + n)) (extreme_after which f from n) (f (suc (from + n))) (after from n) (alone (suc (from + n))))

  found : (from to : ℕ) → from ≤ to → IsExtreme which f from to (extreme_of which f from to)
  unfolding extreme_of
  found from to h =
      let e : from + (to - from) ≡ to = omega arith in
      subst (λ (m : ℕ). IsExtreme which f from m (extreme_after which f from (to - from))) e (after from (to - from))

  only : (from to : ℕ) (k : ℤ) → IsExtreme which f from to k → k ≡ extreme_of which f from to
  only from to k a =
      let b = found from to (omega (arith, a.first, a.last)) in
      both_ways which k (extreme_of which f from to)
      (subst (NotBeyond which k) b.is (a.none_beyond b.at b.first b.last))
      (subst (NotBeyond which (extreme_of which f from to)) a.is (b.none_beyond a.at a.first a.last))

pub extremes : Extremes
extremes = record { is = found; only = only }
