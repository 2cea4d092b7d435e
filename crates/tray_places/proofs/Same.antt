-- The test of the very same sample passes of that sample, and of no other; a test that passes less often counts less.
use Prim.Native.Nat.{◌≤◌}
use mathlib.Core.Path.{◌≡◌, refl, ap, sym}
use mathlib.Core.Bool.{Bool, true}
use mathlib.Core.List.{List, [], ◌∷◌}
use native.Mathlib.Omega.{arith}
use native.Mathlib.Nat.{le_antisymm}
use borrow.Author.Tests.{eqb-true, eq-eqb, le-leb, leb-true}
use lib.Dec.{eqb, leb}
use lib.IntN.{ℤ, pos, negsuc}
use Rattle.laws.proofs.Computed.{both_pass}
use Rattle.laws.proofs.Contradiction.{impossible}
use Rattle.laws.proofs.Order.{by_test}
use Rattle.std.specs.Prelude.{Ok, Err}
use Rattle.index.proofs.Determined.{same_refusal}
use Rattle.shown_index.specs.declared.Mark.{Mark}
use Rattle.shown_index.specs.declared.Mark.TheVariants as mark
use Rattle.shown_index.specs.declared.ByB.{ByB}
use Rattle.index.specs.declared.answer.Index.TheVariants as answer
use Rattle.index.specs.Answer.{Answer, number_of, method_of, method_of_mark, index_of, lower_of, upper_of}
use Rattle.tray_places.specs.Samples.{Sample}
use Rattle.tray_places.specs.Counts.{one, times, numbered, same_index, same_answer, same, SameSample}

-- ---- an answer is what its fields say

index_same : (m n : ℤ) → same_index m n ≡ true → m ≡ n
index_same (pos m) (pos n) h = let t = both_pass (leb m n) (leb n m) h in ap pos (le_antisymm (leb-true m n t.0) (leb-true n m t.1))
index_same (pos m) (negsuc n) h = impossible cc
index_same (negsuc m) (pos n) h = impossible cc
index_same (negsuc m) (negsuc n) h = let t = both_pass (leb n m) (leb m n) h in ap negsuc (le_antisymm (leb-true m n t.1) (leb-true n m t.0))

index_itself : (m : ℤ) → same_index m m ≡ true
index_itself (pos m) = rw (le-leb m m (omega arith))
index_itself (negsuc m) = rw (le-leb m m (omega arith))

pub mark_method : (m : Mark) → 2 ≤ method_of_mark m
mark_method mark.Settled = omega arith
mark_method mark.Near = omega arith

mark_same : (m n : Mark) → method_of_mark m ≡ method_of_mark n → m ≡ n
mark_same mark.Settled mark.Settled h = refl
mark_same mark.Settled mark.Near h = absurd (omega (arith, h))
mark_same mark.Near mark.Settled h = absurd (omega (arith, h))
mark_same mark.Near mark.Near h = refl

b_same : (b d : ByB) → pos b.index ≡ pos d.index → b.mark ≡ d.mark → b.lower ≡ d.lower → b.upper ≡ d.upper → b ≡ d
b_same b d i m l p = let index : b.index ≡ d.index = cc in rw (index, m, l, p)

answer_is : (a b : Answer) → number_of a ≡ number_of b → method_of a ≡ method_of b → index_of a ≡ index_of b → lower_of a ≡ lower_of b
    → upper_of a ≡ upper_of b → a ≡ b
answer_is (Err m) (Err n) number method index lower upper = ap Err (same_refusal m n number)
answer_is (Err m) (Ok (answer.A n)) number method index lower upper = absurd (omega (arith, method))
answer_is (Err m) (Ok (answer.B d)) number method index lower upper = absurd (omega (arith, method, mark_method d.mark))
answer_is (Ok (answer.A m)) (Err n) number method index lower upper = absurd (omega (arith, method))
answer_is (Ok (answer.A m)) (Ok (answer.A n)) number method index lower upper = ap (λ (i : ℤ). Ok (answer.A i)) index
answer_is (Ok (answer.A m)) (Ok (answer.B d)) number method index lower upper = absurd (omega (arith, method, mark_method d.mark))
answer_is (Ok (answer.B b)) (Err n) number method index lower upper = absurd (omega (arith, method, mark_method b.mark))
answer_is (Ok (answer.B b)) (Ok (answer.A n)) number method index lower upper = absurd (omega (arith, method, mark_method b.mark))
answer_is (Ok (answer.B b)) (Ok (answer.B d)) number method index lower upper =
    ap (λ (e : ByB). Ok (answer.B e)) (b_same b d index (mark_same b.mark d.mark method) lower upper)

-- ---- the test

answer_same : (a b : Answer) → same_answer a b ≡ true → a ≡ b
answer_same a b h =
    let t1 = both_pass (eqb (number_of a) (number_of b)) _ h in
    let t2 = both_pass (eqb (method_of a) (method_of b)) _ t1.1 in
    let t3 = both_pass (same_index (index_of a) (index_of b)) _ t2.1 in
    let t4 = both_pass (eqb (lower_of a) (lower_of b)) (eqb (upper_of a) (upper_of b)) t3.1 in
    answer_is a b (eqb-true _ _ t1.0) (eqb-true _ _ t2.0) (index_same _ _ t3.0) (eqb-true _ _ t4.0) (eqb-true _ _ t4.1)

pub only : (s t : Sample) → same s t ≡ true → s ≡ t
only s t h =
    let t1 = both_pass (eqb s.number t.number) _ h in
    let t2 = both_pass (eqb s.u t.u) _ t1.1 in
    let t3 = both_pass (eqb s.y t.y) (same_answer s.answer t.answer) t2.1 in
    let number : s.number ≡ t.number = eqb-true _ _ t1.0 in
    let us : s.u ≡ t.u = eqb-true _ _ t2.0 in
    let ys : s.y ≡ t.y = eqb-true _ _ t3.0 in
    let answers : s.answer ≡ t.answer = answer_same _ _ t3.1 in
    rw (number, us, ys, answers)

answer_itself : (a : Answer) → same_answer a a ≡ true
answer_itself a =
    rw (
      eq-eqb (number_of a) (number_of a) refl,
      eq-eqb (method_of a) (method_of a) refl,
      index_itself (index_of a),
      eq-eqb (lower_of a) (lower_of a) refl,
      eq-eqb (upper_of a) (upper_of a) refl,
    )

pub itself : (s : Sample) → same s s ≡ true
itself s =
    rw (eq-eqb s.number s.number refl, eq-eqb s.u s.u refl, eq-eqb s.y s.y refl, answer_itself s.answer)

pub same_sample : SameSample
same_sample = record { itself = itself; only = only }

-- ---- tests that pass less often

pub times_fewer : (p q : Sample → Bool) (xs : List Sample) → ((s : Sample) → p s ≡ true → q s ≡ true) → times p xs ≤ times q xs
unfolding times
times_fewer p q [] f = omega arith
times_fewer p q (x ∷ xs) f =
    let rest = times_fewer p q xs f in
    by_test (p x)
    (λ e. let is : one (p x) ≡ 1 = ap one e in let too : one (q x) ≡ 1 = ap one (f x e) in omega arith)
    (λ e. let is : one (p x) ≡ 0 = ap one e in omega arith)

pub same_number : (s t : Sample) → same s t ≡ true → numbered s.number t ≡ true
same_number s t h = eq-eqb t.number s.number (sym (ap (λ (x : Sample). x.number) (only s t h)))
