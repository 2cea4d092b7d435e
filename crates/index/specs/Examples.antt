-- Document 01, 'Pairs and sheets to try': all starred examples, gathered into one statement about the definitions.
-- proofs/Examples.antt shows it by computation.
use Rattle.std.specs.Prelude.{◌*◌, ◌-◌, ◌≡◌, pos, negsuc, Ok}
use Rattle.reference.specs.Viscosity.{in_units}
use Rattle.reference.specs.Basis.{l_at, h_at}
use Rattle.reference.specs.Examples.{StarredBasis}
use Rattle.index.specs.declared.answer.Index.TheVariants.{A}
use Rattle.index.specs.Questions.{refusal}
use Rattle.index.specs.ChosenAnswer.{answer_of}

-- a negative number is `negsuc n`, which is −(n + 1)
pub record StarredExamples : Type 0 where
  -- those about L and H: y 8860, 5050, 70000, 70001
  pub basis : StarredBasis
  -- "(73300, 8860): A 92."
  pub a_92 : answer_of 73300 8860 ≡ Ok (A (pos 92))
  -- "(53470, 7080): A 87."
  pub a_87 : answer_of 53470 7080 ≡ Ok (A (pos 87))
  -- "(28490, 5000): A 100." U is H
  pub at_h : in_units 28490 ≡ h_at 5000
  pub a_100 : answer_of 28490 5000 ≡ Ok (A (pos 100))
  -- "(7986, 2000): exactly 0.5", which "becomes 0" (#106). 100·(L − U) is half of L − H
  pub half_exact : 200 * (l_at 2000 - in_units 7986) ≡ l_at 2000 - h_at 2000
  pub half : answer_of 7986 2000 ≡ Ok (A (pos 0))
  -- "(8018, 2000): −1.5", which "becomes −2" (#106). 100·(U − L) is three halves of L − H
  pub negative_half_exact : 200 * (in_units 8018 - l_at 2000) ≡ 3 * (l_at 2000 - h_at 2000)
  pub negative_half : answer_of 8018 2000 ≡ Ok (A (negsuc 1))
  -- "(7970, 2000), exactly 1.5, is still 2" (#106)
  pub one_and_a_half_exact : 200 * (l_at 2000 - in_units 7970) ≡ 3 * (l_at 2000 - h_at 2000)
  pub one_and_a_half : answer_of 7970 2000 ≡ Ok (A (pos 2))
  -- the slip on a negative half "now reads −3 for −2.5" (#106): (8034, 2000) is exactly −2.5, and −2
  pub minus_two_and_a_half_exact : 200 * (in_units 8034 - l_at 2000) ≡ 5 * (l_at 2000 - h_at 2000)
  pub minus_two_and_a_half : answer_of 8034 2000 ≡ Ok (A (negsuc 1))
  -- "(1000000000, 2000): A −62,499,500."
  pub thickest : answer_of 1000000000 2000 ≡ Ok (A (negsuc 62499499))
  -- "(6188000, 100000): A 50." It is exactly 50: L − U is half of L − H
  pub above_70_exact : 2 * (l_at 100000 - in_units 6188000) ≡ l_at 100000 - h_at 100000
  pub above_70 : answer_of 6188000 100000 ≡ Ok (A (pos 50))

-- and those that are refused: "y 1999: 1. y 500001: 2. (1000000001, 2000): 3. (2000, 2000): 4.", with the pairs beside them that are not
pub record RefusedExamples : Type 0 where
  pub refused_1 : refusal 20000 1999 ≡ 1
  pub refused_2 : refusal 900000 500001 ≡ 2
  pub refused_3 : refusal 1000000001 2000 ≡ 3
  pub refused_4 : refusal 2000 2000 ≡ 4
  -- "the first no gives its number": of questions 2 and 3
  pub refused_first : refusal 1000000001 500001 ≡ 2
  pub thinnest : refusal 2001 2000 ≡ 0
  pub thickest : refusal 1000000000 500000 ≡ 0
