-- The starred examples of document 01, computed from the definitions.
use mathlib.Core.Path.{refl}
use Rattle.reference.specs.Table1.{table1}
use Rattle.reference.specs.Basis.{entry, at_place, l_at, h_at}
use Rattle.reference.proofs.Examples.{starred_basis}
use Rattle.index.specs.ProcedureA.{rounded_a, index_a}
use Rattle.index.specs.ChosenAnswer.{index_passed, answer_of}
use Rattle.index.specs.Examples.{StarredExamples, RefusedExamples}

pub starred_examples : StarredExamples
unfolding answer_of index_passed index_a rounded_a l_at h_at at_place entry table1
starred_examples =
    record {
      basis = starred_basis;
      a_92 = refl;
      a_87 = refl;
      at_h = refl;
      a_100 = refl;
      half_exact = refl;
      half = refl;
      negative_half_exact = refl;
      negative_half = refl;
      one_and_a_half_exact = refl;
      one_and_a_half = refl;
      minus_two_and_a_half_exact = refl;
      minus_two_and_a_half = refl;
      thickest = refl;
      above_70_exact = refl;
      above_70 = refl;
    }

pub refused_examples : RefusedExamples
refused_examples = record { refused_1 = refl; refused_2 = refl; refused_3 = refl; refused_4 = refl; refused_first = refl; thinnest = refl; thickest = refl }
