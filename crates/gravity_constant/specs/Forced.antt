-- What #101's words force, from `refusal` and `RightConstant` alone, with no program in it: a program that answers otherwise is refuted, whatever proof is
-- offered for it. proofs/Forced.antt shows it, and proofs/LeftFree.antt what is left free.
use Rattle.std.specs.Prelude.{Result, Ok, Err, ℕ, ◌<◌, ◌≡◌, ℤ, pos, negsuc, ◌+ℤ◌, ◌≤ℤ◌}
use Rattle.gravity_constant.specs.declared.questions.Refusal.{Refusal}
use Rattle.gravity_constant.specs.declared.questions.Temperature.{Temperature}
use Rattle.gravity_constant.specs.declared.questions.Temperature.TheVariants.{At40, At100}
use Rattle.gravity_constant.specs.declared.answer.Constant.{Constant}
use Rattle.gravity_constant.specs.Questions.{refusal, refusal_of}
use Rattle.gravity_constant.specs.Answer.{number_of, RightFound, RightConstant}

-- the number is forced: the answer to an oil that question 21 or 22 refuses is that number alone, and any other oil is answered by a constant. So no right
-- answer is 23, whichever fractions it is asked of
pub record ForcedNumbers : Type 0 where
  pub refused : (t : Temperature) (v d : ℕ) (a : Result Constant Refusal) → RightConstant t v d a → 0 < refusal t v d → a ≡ Err (refusal_of (refusal t v d))
  pub answered : (t : Temperature) (v d : ℕ) (a : Result Constant Refusal) → RightConstant t v d a → refusal t v d ≡ 0 → number_of a ≡ 0
  pub number : (t : Temperature) (v d : ℕ) (a : Result Constant Refusal) → RightConstant t v d a → number_of a ≡ refusal t v d

-- the limits, on both sides of each, and the order of the questions
pub record ForcedLimits : Type 0 where
  -- "at 40 °C (5,501 to 1,000,000,000)"
  pub below_40 : refusal At40 5500 8700 ≡ 21
  pub least_40 : refusal At40 5501 8700 ≡ 0
  pub greatest_40 : refusal At40 1000000000 8700 ≡ 0
  pub above_40 : refusal At40 1000000001 8700 ≡ 21
  -- "at 100 °C (801 to 500,000)"
  pub below_100 : refusal At100 800 8700 ≡ 21
  pub least_100 : refusal At100 801 8700 ≡ 0
  pub greatest_100 : refusal At100 500000 8700 ≡ 0
  pub above_100 : refusal At100 500001 8700 ≡ 21
  -- "the density at 15 °C in 0.0001 g/ml, 5,000 to 15,000"
  pub too_light : refusal At40 9500 4999 ≡ 22
  pub lightest : refusal At40 9500 5000 ≡ 0
  pub heaviest : refusal At40 9500 15000 ≡ 0
  pub too_heavy : refusal At40 9500 15001 ≡ 22
  -- "asked in that order": both are outside
  pub low_and_light : refusal At40 5500 4999 ≡ 21
  pub low_and_heavy : refusal At40 5500 15001 ≡ 21
  pub high_and_light : refusal At100 500001 4999 ≡ 21
  pub high_and_heavy : refusal At100 500001 15001 ≡ 21

-- the answer is a constant of k thousandths
abbrev pub HasK : Result Constant Refusal → ℤ → Type 0
HasK (Err r) k = ⊥
HasK (Ok c) k = c.thousandths ≡ k

-- k is forced at these oils, of which formulas 1 and 2 can be worked by hand: no value is so close to a half that two k would fit
pub record ForcedConstants : Type 0 where
  -- at 40 °C: V 9.5 and G 0.87, 839.596 thousandths; V 46 and G 0.875, 814.736
  pub light : (a : Result Constant Refusal) → RightConstant At40 9500 8700 a → HasK a (pos 840)
  pub heavy : (a : Result Constant Refusal) → RightConstant At40 46000 8750 a → HasK a (pos 815)
  -- the logarithm is 0: V 6.5 and G 0.86, 844.255
  pub zero_40 : (a : Result Constant Refusal) → RightConstant At40 6500 8600 a → HasK a (pos 844)
  -- the greatest viscosity and the least density, −904.893, which is rounded to the nearest and not toward zero. (`negsuc n` is −(n + 1))
  pub below_zero : (a : Result Constant Refusal) → RightConstant At40 1000000000 5000 a → HasK a (negsuc 904)
  -- the logarithm is −3, so that the formula is (G − 0.0664 + 0.3462) / (0.94 + 0.327): G 0.875, 911.444; G 0.865, 903.552. A number of the formula that is
  -- one more or one less in its last place moves both by 0.07 at least, and one of them past a half
  pub below_half_40 : (a : Result Constant Refusal) → RightConstant At40 5501 8750 a → HasK a (pos 911)
  pub above_half_40 : (a : Result Constant Refusal) → RightConstant At40 5501 8650 a → HasK a (pos 904)
  -- at 100 °C: V′ 2.5 and G 0.87, 835.278; the logarithm is 0: V′ 1.8 and G 0.9, 880.000
  pub light_100 : (a : Result Constant Refusal) → RightConstant At100 2500 8700 a → HasK a (pos 835)
  pub zero_100 : (a : Result Constant Refusal) → RightConstant At100 1800 9000 a → HasK a (pos 880)
  -- the logarithm is −3, (G − 0.108 + 0.3765) / (0.90 + 0.291): G 0.854, 942.485; G 0.86, 947.523
  pub below_half_100 : (a : Result Constant Refusal) → RightConstant At100 801 8540 a → HasK a (pos 942)
  pub above_half_100 : (a : Result Constant Refusal) → RightConstant At100 801 8600 a → HasK a (pos 948)

-- the sign of the fractions is forced where the logarithm is 0 (V 6.5), and where it is −3 (V′ 0.801), which is −50,331,648 over Q
pub record ForcedFractions : Type 0 where
  pub at_zero : (c : Constant) → RightFound At40 6500 8600 c → (c.lower ≤ℤ pos 0) × (pos 0 ≤ℤ c.upper)
  pub below_zero : (c : Constant) → RightFound At100 801 8540 c → (c.lower ≤ℤ negsuc 50331647) × (c.upper ≤ℤ negsuc 50331583)

-- what is left free, and no more: k is from −905 to 2592; two right constants of one oil have k at most 1 apart, and lower numerators at most 64
pub record LeftFree : Type 0 where
  pub least : (t : Temperature) (v d : ℕ) (c : Constant) → RightFound t v d c → negsuc 904 ≤ℤ c.thousandths
  pub most : (t : Temperature) (v d : ℕ) (c : Constant) → RightFound t v d c → c.thousandths ≤ℤ pos 2592
  pub constants : (t : Temperature) (v d : ℕ) (b c : Constant) → RightFound t v d b → RightFound t v d c → b.thousandths ≤ℤ (c.thousandths +ℤ pos 1)
  pub fractions : (t : Temperature) (v d : ℕ) (b c : Constant) → RightFound t v d b → RightFound t v d c → b.lower ≤ℤ (c.lower +ℤ pos 64)
