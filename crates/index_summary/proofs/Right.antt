-- The summary of one answer is right, and so is a right one with one answer more.
use Prim.Native.Nat.{ℕ, ◌+◌, ◌<◌}
use mathlib.Core.Path.{◌≡◌, refl, sym, ap, ◌∙◌}
use mathlib.Core.List.{List, [], ◌∷◌, ◌++◌}
use mathlib.Core.Logic.{◌⊎◌, inl, inr, ⊎_elim}
use native.Mathlib.Omega.{arith}
use native.Mathlib.Nat.{zero-add}
use lib.IntN.{ℤ, pos, negsuc, ◌+ℤ◌, +ℤ_idr, +ℤ_idl}
use lib.Signed.{mag, ◌≤ℤ◌, ≤ℤ_refl}
use Rattle.std.proofs.lemmas.Int.{ints, clamps}
use Rattle.std.specs.Int.{int_min, int_max}
use Rattle.laws.specs.Bits.{span32}
use Rattle.laws.proofs.Difference.{order_joins}
use Rattle.index.specs.declared.answer.Index.{Index}
use Rattle.index.specs.Answer.{index_of, method_of}
use Rattle.std.specs.Prelude.{Result}
use Rattle.index_summary.specs.declared.Summary.{Summary}
use Rattle.index_summary.specs.Summary.{one, alone_of, joined_of, above_all, below_all, nothing, All, Some, sum_of, count_of, SummaryOf}

-- ---- the lesser of two indices and the greater

module _ (a b : ℤ) where
  min_first : int_min a b ≤ℤ a
  min_first = omega (arith, ints, clamps)

  min_second : int_min a b ≤ℤ b
  min_second = omega (arith, ints, clamps)

  min_is : (int_min a b ≡ a) ⊎ (int_min a b ≡ b)
  min_is = grind (arith, ints)

  max_first : a ≤ℤ int_max a b
  max_first = omega (arith, ints, clamps)

  max_second : b ≤ℤ int_max a b
  max_second = omega (arith, ints, clamps)

  max_is : (int_max a b ≡ a) ⊎ (int_max a b ≡ b)
  max_is = grind (arith, ints)

-- ---- one answer more at the end

all_more : {R : Type 0} (P Q : Result Index R → Type 0) (xs : List (Result Index R)) (y : Result Index R) → ((x : Result Index R) → P x → Q x) → All P xs → Q y → All Q (xs ++ (y ∷ []))
all_more P Q [] y f a q = (q, tt)
all_more P Q (x ∷ xs) y f a q = (f x a.0, all_more P Q xs y f a.1 q)

some_kept : {R : Type 0} (P Q : Result Index R → Type 0) (xs ys : List (Result Index R)) → ((x : Result Index R) → P x → Q x) → Some P xs → Some Q (xs ++ ys)
some_kept P Q [] ys f a = absurd a
some_kept P Q (x ∷ xs) ys f (inl p) = inl (f x p)
some_kept P Q (x ∷ xs) ys f (inr a) = inr (some_kept P Q xs ys f a)

some_last : {R : Type 0} (Q : Result Index R → Type 0) (xs : List (Result Index R)) (y : Result Index R) → Q y → Some Q (xs ++ (y ∷ []))
some_last Q [] y q = inl q
some_last Q (x ∷ xs) y q = inr (some_last Q xs y q)

sum_last : {R : Type 0} (xs : List (Result Index R)) (y : Result Index R) → sum_of (xs ++ (y ∷ [])) ≡ sum_of xs +ℤ index_of y
unfolding sum_of
sum_last [] y = omega (arith, ints)
sum_last (x ∷ xs) y = omega (arith, ints, sum_last xs y)

pub count_last : {R : Type 0} (method : ℕ) (xs : List (Result Index R)) (y : Result Index R) → count_of method (xs ++ (y ∷ [])) ≡ count_of method xs + one (method_of y) method
unfolding count_of
count_last method [] y = omega arith
count_last method (x ∷ xs) y = omega (arith, count_last method xs y)

-- ---- summaries

pub alone_right : {R : Type 0} (x : Result Index R) → SummaryOf (x ∷ []) (alone_of x)
unfolding alone_of sum_of count_of
alone_right x = record {
  lowest_least = (≤ℤ_refl (index_of x), tt);
  lowest_held = inl refl;
  highest_most = (≤ℤ_refl (index_of x), tt);
  highest_held = inl refl;
  sum_is = sym (+ℤ_idr (index_of x));
  a_is = omega arith;
  settled_is = omega arith;
  near_is = omega arith;
}

-- one answer added to nothing
lesser_nothing : (i : ℤ) → mag i < span32 → int_min above_all i ≡ i
lesser_nothing (pos n) h = omega (arith, ints, clamps)
lesser_nothing (negsuc n) h = refl

max_nothing : (i : ℤ) → mag i < span32 → int_max below_all i ≡ i
max_nothing (pos n) h = refl
max_nothing (negsuc n) h = omega (arith, ints, clamps)

pub joined_nothing : {R : Type 0} (x : Result Index R) → mag (index_of x) < span32 → joined_of nothing x ≡ alone_of x
unfolding joined_of alone_of
joined_nothing x h = grind (arith, lesser_nothing, max_nothing, +ℤ_idl, zero-add)

pub joined_right : {R : Type 0} (xs : List (Result Index R)) (t : Summary) (y : Result Index R) → SummaryOf xs t → SummaryOf (xs ++ (y ∷ [])) (joined_of t y)
unfolding joined_of
joined_right xs t y r =
    let i = index_of y in
    record {
      lowest_least =
          all_more (λ x. t.lowest ≤ℤ index_of x) (λ x. int_min t.lowest i ≤ℤ index_of x) xs y
          (λ x h. order_joins (min_first t.lowest i) h) r.lowest_least (min_second t.lowest i);
      lowest_held =
          ⊎_elim
          (λ (e : int_min t.lowest i ≡ t.lowest).
          some_kept (λ x. t.lowest ≡ index_of x) (λ x. int_min t.lowest i ≡ index_of x) xs (y ∷ []) (λ x h. e ∙ h) r.lowest_held)
          (λ (e : int_min t.lowest i ≡ i). some_last (λ x. int_min t.lowest i ≡ index_of x) xs y e) (min_is t.lowest i);
      highest_most =
          all_more (λ x. index_of x ≤ℤ t.highest) (λ x. index_of x ≤ℤ int_max t.highest i) xs y
          (λ x h. order_joins h (max_first t.highest i)) r.highest_most (max_second t.highest i);
      highest_held =
          ⊎_elim
          (λ (e : int_max t.highest i ≡ t.highest).
          some_kept (λ x. t.highest ≡ index_of x) (λ x. int_max t.highest i ≡ index_of x) xs (y ∷ []) (λ x h. e ∙ h) r.highest_held)
          (λ (e : int_max t.highest i ≡ i). some_last (λ x. int_max t.highest i ≡ index_of x) xs y e) (max_is t.highest i);
      sum_is = ap (λ (z : ℤ). z +ℤ i) r.sum_is ∙ sym (sum_last xs y);
      a_is = ap (λ (n : ℕ). n + one (method_of y) 1) r.a_is ∙ sym (count_last 1 xs y);
      settled_is = ap (λ (n : ℕ). n + one (method_of y) 2) r.settled_is ∙ sym (count_last 2 xs y);
      near_is = ap (λ (n : ℕ). n + one (method_of y) 3) r.near_is ∙ sym (count_last 3 xs y);
    }
