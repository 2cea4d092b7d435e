-- A row has one sheet: what the request says of it determines each of its bytes; and a sheet is of one row.
use Prim.Native.Nat.{ℕ, ◌+◌, ◌*◌, ◌-◌, ◌/◌, ◌%◌, ◌≤◌, ◌<◌}
use mathlib.Core.Path.{◌≡◌, refl, sym, ◌∙◌}
use mathlib.Core.List.{List}
use native.Mathlib.Omega.{arith}
use lib.ListN.{length, get_or}
use Rattle.std.proofs.lemmas.List.{ext_get_or}
use Rattle.laws.proofs.Order.{by_order}
use Rattle.answer_record.specs.Bytes.{number_at}
use Rattle.sheet.specs.Sheet.{count_of}
use Rattle.sheet_writer.specs.RightWriting.{ReadsBack, SheetOf}
use Rattle.sheet_writer.proofs.ReadBack.{Bytes}

-- the half of an even number, or of the one below an odd one
by_halves : {P : Type 0} (j : ℕ) → ((i : ℕ) → j ≡ 2 * i → P) → ((i : ℕ) → j ≡ 2 * i + 1 → P) → P
by_halves j even odd = by_order (j % 2) 1 (λ h. even (j / 2) (omega arith)) (λ h. odd (j / 2) (omega arith))

-- ---- a sheet is of one row

pub one_row : (row row' sheet : List ℕ) → ReadsBack row sheet → ReadsBack row' sheet → row ≡ row'
one_row row row' sheet a b =
    ext_get_or 0 row row' (a.count ∙ sym b.count)
    (λ j h.
    by_halves j
    (λ i e. rw e (sym (a.u i (omega (arith, a.count))) ∙ b.u i (omega (arith, a.count))))
    (λ i e. rw e (sym (a.y i (omega (arith, a.count))) ∙ b.y i (omega (arith, a.count)))))

-- ---- a row has one sheet

-- four bytes that are one number are the same four bytes
module _ (s t : List ℕ) (a : Bytes s) (b : Bytes t) (at : ℕ) (e : number_at s at ≡ number_at t at) where
  same_bytes : (get_or s at 0 ≡ get_or t at 0) × (get_or s (at + 1) 0 ≡ get_or t (at + 1) 0) × (get_or s (at + 2) 0 ≡ get_or t (at + 2) 0)
      × (get_or s (at + 3) 0 ≡ get_or t (at + 3) 0)
  unfolding number_at
  same_bytes =
      let a0 = a at in
      let a1 = a (at + 1) in
      let a2 = a (at + 2) in
      let a3 = a (at + 3) in
      let b0 = b at in
      let b1 = b (at + 1) in
      let b2 = b (at + 2) in
      let b3 = b (at + 3) in
      (omega (arith, e), omega (arith, e), omega (arith, e), omega (arith, e))

  byte_of : (r : ℕ) → r < 4 → get_or s (at + r) 0 ≡ get_or t (at + r) 0
  byte_of r h =
      let q = same_bytes in
      by_order r 1 (λ l. let z : at + r ≡ at = omega arith in rw z q.0)
      (λ l. by_order r 2 (λ m. let z : at + r ≡ at + 1 = omega arith in rw z q.1)
      (λ m. by_order r 3 (λ o. let z : at + r ≡ at + 2 = omega arith in rw z q.2) (λ o. let z : at + r ≡ at + 3 = omega arith in rw z q.3)))

-- lists of bytes that are the same numbers are the same
same_numbers : (s t : List ℕ) (m : ℕ) → Bytes s → Bytes t → length s ≡ 4 * m → length t ≡ 4 * m → ((k : ℕ) → k < m → number_at s (4 * k) ≡ number_at t (4 * k)) → s ≡ t
same_numbers s t m a b p q same =
    ext_get_or 0 s t (p ∙ sym q)
    (λ j h.
    let e : j ≡ 4 * (j / 4) + j % 4 = omega arith in
    rw e (byte_of s t a b (4 * (j / 4)) (same (j / 4) (omega (arith, p))) (j % 4) (omega arith)))

-- the numbers of a sheet that is a row's
module _ (row s : List ℕ) (w : SheetOf row s) where
  u_number : (i : ℕ) → i < count_of s → number_at s (16 + 8 * i) ≡ get_or row (2 * i) 0
  u_number i h = rw w.pairs_at at (w.pairs.u i h)

  y_number : (i : ℕ) → i < count_of s → number_at s (16 + 8 * i + 4) ≡ get_or row (2 * i + 1) 0
  y_number i h = rw w.pairs_at at (w.pairs.y i h)

  zero_number : (at : ℕ) → 16 + 8 * count_of s ≤ at → at + 4 ≤ 16 + 24 * count_of s → number_at s at ≡ 0
  unfolding number_at
  zero_number at h m =
      let zero_byte : (j : ℕ) → at ≤ j → j < at + 4 → get_or s j 0 ≡ 0 =
      λ j p q. w.zeros j (omega (arith, w.results_at, w.pairs_at)) (omega (arith, w.results_at, w.pairs_at)) in
      rw (
        zero_byte at (omega arith) (omega arith),
        zero_byte (at + 1) (omega arith) (omega arith),
        zero_byte (at + 2) (omega arith) (omega arith),
        zero_byte (at + 3) (omega arith) (omega arith),
      ) refl

pub one_sheet : (row s t : List ℕ) → SheetOf row s → SheetOf row t → s ≡ t
one_sheet row s t v w =
    let same : count_of s ≡ count_of t = omega (arith, v.pairs.count, w.pairs.count) in
    same_numbers s t (4 + 6 * count_of s) v.bytes w.bytes (omega (arith, v.size)) (omega (arith, w.size, same))
    (λ k h.
    by_order k 1 (λ p. let e : 4 * k ≡ 0 = omega arith in rw e same)
    (λ p. by_order k 2 (λ q. let e : 4 * k ≡ 4 = omega arith in rw e (v.pairs_at ∙ sym w.pairs_at))
    (λ q. by_order k 3 (λ r. let e : 4 * k ≡ 8 = omega arith in rw e (omega (arith, v.results_at, w.results_at, v.pairs_at, w.pairs_at, same)))
    (λ r. by_order k 4 (λ o. let e : 4 * k ≡ 12 = omega arith in rw e (omega (arith, v.total, w.total, v.size, w.size, same)))
    (λ o. by_order k (4 + 2 * count_of s)
    (λ l. by_halves (k - 4)
    (λ i d. let e : 4 * k ≡ 16 + 8 * i = omega arith in rw e (u_number row s v i (omega arith) ∙ sym (u_number row t w i (omega (arith, same)))))
    (λ i d. let e : 4 * k ≡ 16 + 8 * i + 4 = omega arith in rw e (y_number row s v i (omega arith) ∙ sym (y_number row t w i (omega (arith, same))))))
    (λ l. zero_number row s v (4 * k) (omega arith) (omega arith) ∙ sym (zero_number row t w (4 * k) (omega (arith, same)) (omega (arith, same)))))))))
