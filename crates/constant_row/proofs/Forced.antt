-- What any right call answers and leaves, from the constants that are forced.
use Prim.Native.Nat.{ℕ}
use mathlib.Core.Path.{◌≡◌, refl, sym, ◌∙◌, ap, subst}
use mathlib.Core.List.{List}
use native.Mathlib.Omega.{arith}
use lib.IntN.{ℤ, pos}
use lib.ListN.{length}
use Rattle.gravity_constant.specs.declared.questions.Temperature.TheVariants.{At40}
use Rattle.std.specs.Prelude.{Result, Ok, Err}
use Rattle.gravity_constant.specs.declared.questions.Refusal.{Refusal}
use Rattle.gravity_constant.specs.declared.answer.Constant.{Constant}
use Rattle.gravity_constant.specs.Answer.{number_of, RightConstant}
use Rattle.gravity_constant.specs.Forced.{HasK}
use Rattle.gravity_constant.proofs.Forced.{forced_numbers, forced_constants, forced_fractions}
use Rattle.constant_row.specs.ConstantCall.{filled_by, ConstantCall, RowAtZero, ForcedRow}

at_zero : (lent : List ℤ) (a : Result Constant Refusal) → RightConstant At40 6500 8600 a → HasK a (pos 844) → (number_of a ≡ 0) × RowAtZero (filled_by lent a)
at_zero lent (Err y) r k = absurd k
at_zero lent (Ok c) r k = let f = forced_fractions.at_zero c r in (refl, (k, f.0, f.1))

pub forced_row : ForcedRow
forced_row = record { filled = at_6500; refused = at_5500 }
  where
    at_6500 : (lent after : List ℤ) (number : ℕ) → length lent ≡ 3 → ConstantCall At40 6500 8600 lent number after → (number ≡ 0) × RowAtZero after
    at_6500 lent after number e c =
        let f = c.just_3 e in
        let z = at_zero lent f.answer f.right (forced_constants.zero_40 f.answer f.right) in
        (f.number_is ∙ z.0, subst RowAtZero (sym f.row_is) z.1)

    at_5500 : (lent after : List ℤ) (number : ℕ) → length lent ≡ 3 → ConstantCall At40 5500 8600 lent number after → (number ≡ 21) × (after ≡ lent)
    at_5500 lent after number e c =
        let f = c.just_3 e in
        let a = forced_numbers.refused At40 5500 8600 f.answer f.right (omega arith) in
        (f.number_is ∙ ap number_of a, f.row_is ∙ ap (filled_by lent) a)
