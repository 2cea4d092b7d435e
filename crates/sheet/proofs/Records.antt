-- The records of a sheet: their length, and one turn of the loop over the pairs.
use Rattle.index.specs.Answer.{Answer}
use Prim.Native.Nat.{ℕ, zero, suc, ◌+◌, ◌*◌, ◌-◌, ◌≤◌, ◌<◌}
use mathlib.Core.Path.{◌≡◌, refl, ap, ap₂, ◌∙◌}
use mathlib.Core.List.{List, ◌++◌}
use mathlib.Core.Logic.{◌⊎◌, inl, inr, ⊎_elim}
use native.Mathlib.Numerals.{add-one}
use native.Mathlib.Omega.{arith}
use lib.ListN.{length, take, drop, length-append}
use Rattle.index.specs.ChosenAnswer.{answer_of}
use Rattle.answer_record.specs.Bytes.{number_size, number_at, stored}
use Rattle.answer_record.specs.Record.{result_size, record_of}
use Rattle.answer_record.proofs.Stores.{stored_append, number_kept, part_back}
use Rattle.answer_record.proofs.Records.{length_record}
use Rattle.sheet.specs.declared.questions.Blocks.{Blocks}
use Rattle.sheet.specs.Sheet.{pair_size, y_offset, u_at, y_at, answer_at, records_of}
use Rattle.sheet.specs.Preconditions.{BlocksWithin}
use Rattle.sheet.proofs.Within.{pair_apart}

pub length_records : (s : List ℕ) (pairs n : ℕ) → length (records_of s pairs n) ≡ result_size * n
unfolding records_of
length_records s pairs zero = refl
length_records s pairs (suc n) =
    rw length-append (omega (arith, length_records s pairs n, length_record (answer_at s pairs n)))

-- the part that starts at the result offset comes back with the record of pair i in it
pub part_worked : (s part : List ℕ) (results pairs i : ℕ) {a : Answer} → results ≤ length s → a ≡ answer_at s pairs i
    → part ≡ stored (take (length s - results) (drop results s)) (result_size * i) (record_of a)
    → take results s ++ (part ++ drop (length s - results) (drop results s)) ≡ stored s (results + result_size * i) (record_of (answer_at s pairs i))
part_worked s part results pairs i {a} h same e =
    part_back s part (record_of a) results (result_size * i) h e
    ∙ ap (λ (b : Answer). stored s (results + result_size * i) (record_of b)) same

-- the loop's invariant before the first turn
pub none_stored : (s : List ℕ) (pairs results : ℕ) → s ≡ stored s results (records_of s pairs 0)
unfolding stored records_of
none_stored s pairs results = refl

-- pair i of a sheet with the first k records stored, where they share no byte with it, is the pair that was handed in
module _ (s : List ℕ) (pairs results i k : ℕ)
    (apart : (pairs + pair_size * i + pair_size ≤ results) ⊎ (results + result_size * k ≤ pairs + pair_size * i)) where
  kept : (at : ℕ) → pairs + pair_size * i ≤ at → at + number_size ≤ pairs + pair_size * i + pair_size
      → number_at (stored s results (records_of s pairs k)) at ≡ number_at s at
  kept at h m =
      let n = length_records s pairs k in
      number_kept s (records_of s pairs k) results at
      (⊎_elim (λ (l : pairs + pair_size * i + pair_size ≤ results). inl (omega arith))
      (λ (l : results + result_size * k ≤ pairs + pair_size * i). inr (omega arith)) apart)

  pub u_kept : u_at (stored s results (records_of s pairs k)) pairs i ≡ u_at s pairs i
  u_kept = kept (pairs + pair_size * i) (omega arith) (omega arith)

  pub y_kept : y_at (stored s results (records_of s pairs k)) pairs i ≡ y_at s pairs i
  y_kept = kept (pairs + pair_size * i + y_offset) (omega arith) (omega arith)

  pub answer_kept : answer_at (stored s results (records_of s pairs k)) pairs i ≡ answer_at s pairs i
  answer_kept = ap₂ answer_of u_kept y_kept

-- one turn: pair i is read as it was at entry, and its record comes after those before it
pub next_turn : (s t t' : List ℕ) (size : ℕ) (blocks : Blocks) (i : ℕ) → BlocksWithin size blocks → i < blocks.count
    → t ≡ stored s blocks.results (records_of s blocks.pairs i)
    → t' ≡ stored t (blocks.results + result_size * i) (record_of (answer_at t blocks.pairs i))
    → t' ≡ stored s blocks.results (records_of s blocks.pairs (i + 1))
unfolding records_of
next_turn s t t' size blocks i b h e f =
    let pairs = blocks.pairs in
    let results = blocks.results in
    let apart = pair_apart b i h i (omega arith) in
    rw e at f
    ∙ rw (u_kept s pairs results i i apart, y_kept s pairs results i i apart, add-one, ← length_records s pairs i)
    (stored_append s (records_of s pairs i) (record_of (answer_at s pairs i)) results)
