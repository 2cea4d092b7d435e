-- The starred examples of document 01 about L and H, the quadratics by hand and the rows where the sources differ, computed from the definitions.
use mathlib.Core.Path.{refl}
use lib.Dec.{lit<}
use Rattle.reference.specs.Table1.{table1}
use Rattle.reference.specs.Basis.{entry, at_place, l_at, h_at}
use Rattle.reference.specs.Examples.{StarredBasis, Limits, QuadraticsByHand, KnownDifferences}

pub starred_basis : StarredBasis
unfolding l_at h_at at_place entry table1
starred_basis =
    record {
      l_8860 = refl;
      h_8860 = refl;
      h_5050 = refl;
      l_70000 = refl;
      h_70000 = refl;
      l_70001 = refl;
      below_70 = lit< tt;
    }

pub limits : Limits
limits = record { below_least = refl; least = refl; greatest = refl; above_greatest = refl; thickest = refl; too_thick = refl }

pub quadratics_by_hand : QuadraticsByHand
unfolding l_at h_at
quadratics_by_hand = record { l_100 = refl; h_100 = refl; l_200 = refl; h_200 = refl; l_500 = refl; h_500 = refl }

pub known_differences : KnownDifferences
unfolding entry table1
known_differences =
    record {
      row_39 = (refl, refl);
      row_21_8 = (refl, refl);
      row_45_5 = (refl, refl, refl);
      row_7_5 = (refl, refl);
      row_24_2 = (refl, refl);
      row_70 = (refl, refl);
    }
