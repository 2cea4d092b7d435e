-- The fields of a record read back from its bytes, wherever it stands.
use Prim.Native.Nat.{ℕ, ◌+◌, ◌≤◌, ◌<◌}
use mathlib.Core.Path.{◌≡◌, refl, sym, ap, ◌∙◌}
use mathlib.Core.List.{List}
use native.Mathlib.Nat.{add-zero, add_assoc}
use native.Mathlib.Omega.{arith}
use lib.ListN.{get_or, drop}
use lib.Seq.{get_or-take, get_or-drop}
use mir.Syntax.{w32}
use mir.Val.{SFits}
use Rattle.index.specs.Answer.{Answer, number_of, method_of, index_of, lower_of, upper_of}
use Rattle.index.proofs.Fits.{Fits}
use Rattle.laws.specs.Bits.{span32}
use Rattle.answer_record.specs.Bytes.{number_size, number_at, bytes_of, signed_of}
use Rattle.answer_record.specs.Record.{result_size, method_offset, index_offset, lower_offset, upper_offset, head_of, laid_out_bytes, record_of, record_at, refusal_at, method_at, index_at, lower_at, upper_at}
use Rattle.answer_record.proofs.Numbers.{joined_again}
use Rattle.answer_record.proofs.Signed.{signed_back, twos_complement_fits}

-- the fields of a record that stands alone
module _ (number method index lower upper : ℕ) where
  pub laid_refusal : get_or (laid_out_bytes number method index lower upper) 0 0 ≡ number
  unfolding laid_out_bytes head_of
  laid_refusal = refl

  pub laid_method : get_or (laid_out_bytes number method index lower upper) method_offset 0 ≡ method
  unfolding laid_out_bytes head_of
  laid_method = refl

  pub laid_index : index < span32 → number_at (laid_out_bytes number method index lower upper) index_offset ≡ index
  unfolding laid_out_bytes head_of bytes_of number_at
  laid_index h = joined_again index h

  pub laid_lower : lower < span32 → number_at (laid_out_bytes number method index lower upper) lower_offset ≡ lower
  unfolding laid_out_bytes head_of bytes_of number_at
  laid_lower h = joined_again lower h

  pub laid_upper : upper < span32 → number_at (laid_out_bytes number method index lower upper) upper_offset ≡ upper
  unfolding laid_out_bytes head_of bytes_of number_at
  laid_upper h = joined_again upper h

-- a byte and a number of a record within a longer list
part_byte : (l : List ℕ) (at j : ℕ) → j < result_size → get_or l (at + j) 0 ≡ get_or (record_at l at) j 0
part_byte l at j h = sym (get_or-take result_size (drop at l) j 0 h ∙ get_or-drop at l j 0)

part_number : (l : List ℕ) (at j : ℕ) → j + number_size ≤ result_size → number_at l (at + j) ≡ number_at (record_at l at) j
unfolding number_at
part_number l at j h =
    rw (
      add_assoc at j 1,
      add_assoc at j 2,
      add_assoc at j 3,
      part_byte l at j (omega arith),
      part_byte l at (j + 1) (omega arith),
      part_byte l at (j + 2) (omega arith),
      part_byte l at (j + 3) (omega arith),
    )

-- the fields of the record of an answer, wherever it stands
pub record FieldsRead (l : List ℕ) (at : ℕ) (a : Answer) : Type 0 where
  pub refusal : refusal_at l at ≡ number_of a
  pub method : method_at l at ≡ method_of a
  pub index : index_at l at ≡ index_of a
  pub lower : lower_at l at ≡ lower_of a
  pub upper : upper_at l at ≡ upper_of a

module _ (l : List ℕ) (at : ℕ) (a : Answer) (e : record_at l at ≡ record_of a) where
  byte_read : (j : ℕ) {x : ℕ} → j < result_size → get_or (record_of a) j 0 ≡ x → get_or l (at + j) 0 ≡ x
  byte_read j h is = part_byte l at j h ∙ ap (λ (r : List ℕ). get_or r j 0) e ∙ is

  number_read : (j : ℕ) {x : ℕ} → j + number_size ≤ result_size → number_at (record_of a) j ≡ x → number_at l (at + j) ≡ x
  number_read j h is = part_number l at j h ∙ ap (λ (r : List ℕ). number_at r j) e ∙ is

  pub fields_read : Fits a → FieldsRead l at a
  fields_read f =
      let small : SFits w32 (index_of a) = record { sfits = f.index } in
      record {
        refusal = rw (add-zero at) at (byte_read 0 (omega arith) (laid_refusal _ _ _ _ _));
        method = byte_read method_offset (omega arith) (laid_method _ _ _ _ _);
        index =
            ap signed_of (number_read index_offset (omega arith) (laid_index _ _ _ _ _ (twos_complement_fits _ small)))
            ∙ signed_back _ small;
        lower = number_read lower_offset (omega arith) (laid_lower _ _ _ _ _ f.lower);
        upper = number_read upper_offset (omega arith) (laid_upper _ _ _ _ _ f.upper);
      }
