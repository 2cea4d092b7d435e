-- What is read of a list of rows stands in the list of their entries: L at twice the row's place, H right after it. And a list that takes the entries
-- row by row becomes Table 1.
use Rattle.std.specs.Prelude.{List, [], ◌∷◌, ◌++◌, get_or, take, set, length}
use Prim.Native.Nat.{ℕ, zero, suc, ◌+◌, ◌*◌, ◌<◌, ◌≤◌}
use mathlib.Core.Path.{◌≡◌, refl, sym, ◌∙◌, ap, subst}
use native.Mathlib.Omega.{arith}
use Rattle.std.proofs.Math.Seq.{take-suc, take-suc-set, take-length}
use Rattle.std.proofs.lemmas.List.{length-set}
use Rattle.reference.specs.Table1.{table1}
use Rattle.reference.specs.Basis.{entries_of, entry, row_l, row_h, row_size, row_count}

pub l_entry : (rows : List (ℕ × ℕ)) (i : ℕ) → (get_or rows i (0, 0)).0 ≡ get_or (entries_of rows) (2 * i + 0) 0
l_entry [] i = refl
l_entry (row ∷ rows) zero = refl
l_entry (row ∷ rows) (suc i) = let e : 2 * suc i + 0 ≡ suc (suc (2 * i + 0)) = omega arith in rw e (l_entry rows i)

pub h_entry : (rows : List (ℕ × ℕ)) (i : ℕ) → (get_or rows i (0, 0)).1 ≡ get_or (entries_of rows) (2 * i + 1) 0
h_entry [] i = refl
h_entry (row ∷ rows) zero = refl
h_entry (row ∷ rows) (suc i) = let e : 2 * suc i + 1 ≡ suc (suc (2 * i + 1)) = omega arith in rw e (h_entry rows i)

-- the same entries up to i, and entry i stored: the same up to the next one
next_entry : (xs table : List ℕ) (i : ℕ) → i < length xs → i < length table → take i xs ≡ take i table → take (suc i) (set xs i (get_or table i 0)) ≡ take (suc i) table
next_entry xs table i l h e = take-suc-set xs i (get_or table i 0) l ∙ ap (λ ys. ys ++ (get_or table i 0 ∷ [])) e ∙ sym (take-suc table i 0 h)

entries : length table1 ≡ row_size * row_count
unfolding table1
entries = refl

-- a list that has the entries of the rows before `row`
pub record RowsBefore (row : ℕ) (xs : List ℕ) : Type 0 where
  pub size : length xs ≡ row_size * row_count
  pub same : take (row_size * row) xs ≡ take (row_size * row) table1

-- the two entries of a row stored
pub next_row : (xs : List ℕ) (row l h : ℕ) → l ≡ row_l row → h ≡ row_h row → row < row_count → RowsBefore row xs
    → RowsBefore (row + 1) (set (set xs (row_size * row) l) (row_size * row + 1) h)
unfolding entry
next_row xs row l h is-l is-h in-table b =
    let next : row_size * (row + 1) ≡ suc (row_size * row + 1) = omega arith in
    let one : row_size * row + 1 ≡ suc (row_size * row) = omega arith in
    let none : row_size * row + 0 ≡ row_size * row = omega arith in
    let there : row_size * row + 1 < row_size * row_count = omega (arith, in-table) in
    let ys : List ℕ = set xs (row_size * row) l in
    let long : length ys ≡ row_size * row_count = length-set xs (row_size * row) l ∙ b.size in
    let l-is : l ≡ get_or table1 (row_size * row) 0 = rw none at is-l in
    let first : take (row_size * row + 1) ys ≡ take (row_size * row + 1) table1 =
    rw (one, l-is) (next_entry xs table1 (row_size * row) (rw b.size (omega (arith, there))) (rw entries (omega (arith, there))) b.same) in
    record {
      size = length-set ys (row_size * row + 1) h ∙ long;
      same = rw (is-h, next) (next_entry ys table1 (row_size * row + 1) (rw long there) (rw entries there) first);
    }

-- all entries stored
pub all_rows : (xs : List ℕ) (row : ℕ) → row ≤ row_count → row_count ≤ row → RowsBefore row xs → xs ≡ table1
all_rows xs row l h b =
    let end : row_size * row ≡ length table1 = rw entries (omega (arith, l, h)) in
    let same : take (length table1) xs ≡ take (length table1) table1 = subst (λ n. take n xs ≡ take n table1) end b.same in
    sym (subst (λ n. take n xs ≡ xs) (b.size ∙ sym entries) (take-length xs)) ∙ same ∙ take-length table1
