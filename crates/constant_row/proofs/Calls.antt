-- What the call answers and leaves, by the row that is lent and by the answer.
use Prim.Native.Nat.{ℕ, ◌<◌}
use mathlib.Core.Path.{◌≡◌, refl, ap}
use mathlib.Core.List.{List, [], ◌∷◌}
use native.Mathlib.Omega.{arith}
use lib.IntN.{ℤ}
use lib.Signed.{mag}
use lib.ListN.{length, set}
use mir.Syntax.{w32}
use mir.Val.{to_z, of_z}
use mir.Facts.{to_z-of_z}
use borrow.Author.Tests.{eq-eqb, ne_eqb}
use Rattle.laws.specs.Bits.{half32}
use Rattle.gravity_constant.specs.declared.questions.Temperature.{Temperature}
use Rattle.gravity_constant.specs.declared.questions.Refusal.{Refusal}
use Rattle.gravity_constant.specs.declared.answer.Constant.{Constant}
use Rattle.std.specs.Prelude.{Result}
use Rattle.gravity_constant.specs.Answer.{number_of, RightConstant}
use Rattle.gravity_constant.specs.Chosen.{answer_of}
use Rattle.constant_row.specs.ConstantCall.{row_size, not_a_row, filled_by, row_number, row_after, ConstantCall, NoRow}

pub no_row : NoRow
unfolding row_number row_after
no_row = record { number = λ t v d. refl; untouched = λ t v d. refl }

-- three stores, one after the other, make the list of the three numbers, each of which fits 32 bits: a row of three is its numbers and nothing else
three : (l : List ℤ) (a b c : ℤ) → length l ≡ row_size → set (set (set l 0 a) 1 b) 2 c ≡ a ∷ b ∷ c ∷ []
three [] a b c e = absurd (omega arith)
three (x ∷ []) a b c e = absurd (omega arith)
three (x ∷ y ∷ []) a b c e = absurd (omega arith)
three (x ∷ y ∷ z ∷ []) a b c e = refl
three (x ∷ y ∷ z ∷ w ∷ l) a b c e = absurd (omega arith)

pub stored : (l : List ℤ) (a b c : ℤ) → length l ≡ row_size → mag a < half32 → mag b < half32 → mag c < half32
    → set (set (set l 0 (to_z w32 (of_z w32 a))) 1 (to_z w32 (of_z w32 b))) 2 (to_z w32 (of_z w32 c)) ≡ a ∷ b ∷ c ∷ []
stored l a b c e f g h = rw (as_stored a f, as_stored b g, as_stored c h) (three l a b c e)
  where
    as_stored : (z : ℤ) → mag z < half32 → to_z w32 (of_z w32 z) ≡ z
    as_stored z h = to_z-of_z {w = w32} {z = z} (record { sfits = h })

-- the three clauses of the call at once
abbrev pub Answers : List ℤ → Temperature → ℕ → ℕ → ℕ → List ℤ → Type 0
Answers lent t v d number after = (number ≡ row_number lent t v d) × ((after ≡ row_after lent t v d) × ConstantCall t v d lent number after)

module _ (lent : List ℤ) (t : Temperature) (v d : ℕ) where
  -- a row of another length
  pub untouched : (length lent ≡ row_size → ⊥) → Answers lent t v d not_a_row lent
  unfolding row_number row_after
  untouched other = (
    simp (ne_eqb _ _ other),
    (simp (ne_eqb _ _ other), record { just_3 = λ e. absurd (other e); not_3 = λ _. (refl, refl) }),
  )

  -- a row of three numbers, after an answer that is the operation's
  pub answered : (a : Result Constant Refusal) → length lent ≡ row_size → a ≡ answer_of t v d → RightConstant t v d a
      → Answers lent t v d (number_of a) (filled_by lent a)
  unfolding row_number row_after
  answered a e same right = (
    simp (eq-eqb _ _ e) (ap number_of same),
    (
      simp (eq-eqb _ _ e) (ap (filled_by lent) same),
      record { just_3 = λ _. record { answer = a; right = right; number_is = refl; row_is = refl }; not_3 = λ other. absurd (other e) },
    ),
  )
