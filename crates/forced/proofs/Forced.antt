-- What a sheet's records are forced to be: each is that of a right answer, and the right answers to these pairs are forced.
use Prim.Native.Nat.{ℕ}
use mathlib.Core.Path.{◌≡◌, refl, ◌∙◌, ap, subst₂}
use mathlib.Core.List.{List}
use native.Mathlib.Omega.{arith}
use lib.ListN.{length}
use Rattle.index.specs.Answer.{RightAnswer}
use Rattle.answer_record.specs.Bytes.{number_at, bytes_of}
use Rattle.answer_record.specs.Record.{record_of}
use Rattle.sheet.specs.Sheet.{stands_within, share_no_byte, blocks_of, sheet_refusal}
use Rattle.sheet.specs.Demand3.{RightRecords}
use Rattle.sheet.proofs.Demand3.{read, certified, ordered}
use Rattle.forced.specs.Forced.{PairIs, Forced, FourPairs, SheetForced}
use Rattle.forced.proofs.ForcedAnswers.{forced_answers}

module _ (before after : List ℕ) (records : RightRecords before after) where
  right_of : (i v w : ℕ) (p : PairIs before after i v w) → RightAnswer v w (records i p.among).answer
  right_of i v w p =
      let r = records i p.among in
      subst₂ (λ (s t : ℕ). RightAnswer s t r.answer) p.u_is p.y_is r.right

  forced : Forced before after
  forced =
      record {
        by_a = λ i p. (records i p.among).laid_out ∙ ap record_of (forced_answers.by_a _ (right_of i 73300 8860 p));
        by_b = λ i p.
            let f = read before after records i p.among in
            rw (f.method, f.index, f.lower, f.upper) (forced_answers.by_b _ (right_of i 22830 5050 p));
        near = λ i p.
            let f = read before after records i p.among in
            rw (f.method, f.index, f.lower, f.upper) (forced_answers.near _ (right_of i 144936 16776 p));
        refused = λ i p. (records i p.among).laid_out ∙ ap record_of (forced_answers.refused _ (right_of i 20000 1999 p));
      }

there_is_one : (found after : List ℕ) → length found ≡ 64 → FourPairs found after
unfolding sheet_refusal blocks_of stands_within share_no_byte number_at bytes_of
there_is_one found after e =
    record {
      accepted = rw e refl;
      first = record { among = omega arith; u_is = refl; y_is = refl };
      second = record { among = omega arith; u_is = refl; y_is = refl };
      third = record { among = omega arith; u_is = refl; y_is = refl };
      fourth = record { among = omega arith; u_is = refl; y_is = refl };
    }

pub sheet_forced : SheetForced
sheet_forced =
    record {
      forced = forced;
      there_is_one = there_is_one;
      from_demand3 = λ before after d q i h. ((d q).records i h).of_right;
      second_sentence = certified;
      third_sentence = ordered;
    }
