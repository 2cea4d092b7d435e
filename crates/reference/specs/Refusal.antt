-- Document 01, 'Questions to a pair': "the first no gives its number". The refusals of the four questions, and their numbers.
use Rattle.std.specs.Prelude.{ℕ, ◌<◌, ◌≤◌, ◌≡◌, cond, eqb}
use Rattle.reference.specs.declared.refusal.Refusal.{Refusal}
use Rattle.reference.specs.declared.refusal.Refusal.TheVariants.{ThinAt100, ThickAt100, ThickAt40, NotThicker}

-- "Is y at least 2,000? No: 1. Is y at most 500,000? No: 2. Is u at most 1,000,000,000? No: 3. Is u greater than y? No: 4."
abbrev pub number_of_refusal : Refusal → ℕ
number_of_refusal ThinAt100 = 1
number_of_refusal ThickAt100 = 2
number_of_refusal ThickAt40 = 3
number_of_refusal NotThicker = 4

-- the refusal of the question of that number; of any other number it is that of question 4
abbrev pub refusal_of : ℕ → Refusal
refusal_of n =
    cond (eqb n 1) ThinAt100
    (cond (eqb n 2) ThickAt100
    (cond (eqb n 3) ThickAt40
    NotThicker))

-- the four numbers, as document 01 gives them; of these each is that of its refusal, and each refusal that of its number
pub record NumberedRefusals : Type 0 where
  pub thin_at_100 : number_of_refusal ThinAt100 ≡ 1
  pub thick_at_100 : number_of_refusal ThickAt100 ≡ 2
  pub thick_at_40 : number_of_refusal ThickAt40 ≡ 3
  pub not_thicker : number_of_refusal NotThicker ≡ 4
  pub of_number : (n : ℕ) → 0 < n → n ≤ 4 → number_of_refusal (refusal_of n) ≡ n
  pub of_refusal : (r : Refusal) → refusal_of (number_of_refusal r) ≡ r
