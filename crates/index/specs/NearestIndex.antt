-- Change request #106: "Exact halves go to the even number." What an index by procedure A is, without saying how it is computed: of all whole numbers the
-- only one that is the standard's fraction to the nearest, exactly a half to the even number, as `HalfToEven` of crate rounding has it. No program is
-- mentioned. proofs/NearestIndex.antt shows it.
use Rattle.std.specs.Prelude.{ℕ, ◌-◌, ◌<◌, ◌≤◌, ◌≡◌, ℤ, pos, ◌-ℤ◌, ◌*ℤ◌, Ok}
use Rattle.reference.specs.Viscosity.{in_units}
use Rattle.reference.specs.Basis.{l_at, h_at}
use Rattle.rounding.specs.HalfToEven.{HalfToEven}
use Rattle.index.specs.declared.answer.Index.TheVariants.{A}
use Rattle.index.specs.Questions.{refusal}
use Rattle.index.specs.Answer.{RightAnswer}

-- i is 100·(L − U)/(L − H) to the nearest whole number, exactly a half to the even one
abbrev pub NearestToFraction : ℕ → ℕ → ℤ → Type 0
NearestToFraction u y i = HalfToEven (pos 100 *ℤ (pos (l_at y) -ℤ pos (in_units u))) (l_at y - h_at y) i

pub record NearestIndex : Type 0 where
  -- of a pair that passes the questions the fraction's divisor is above zero,
  pub divisor : (u y : ℕ) → refusal u y ≡ 0 → h_at y < l_at y
  -- a right answer by A is that number,
  pub is : (u y : ℕ) (i : ℤ) → RightAnswer u y (Ok (A i)) → NearestToFraction u y i
  -- and at or above H whatever is that number is a right answer
  pub only : (u y : ℕ) (i : ℤ) → refusal u y ≡ 0 → h_at y ≤ in_units u → NearestToFraction u y i → RightAnswer u y (Ok (A i))
