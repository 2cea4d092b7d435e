-- Lists of calls with numbers up to 255: the lowest byte of such a number is the number, so each call is the same.
use Prim.Native.Nat.{ℕ}
use mathlib.Core.Path.{◌≡◌, refl, ap, ap₂, ◌∙◌}
use mathlib.Core.Bool.{true}
use mathlib.Core.List.{List, [], ◌∷◌}
use native.Mathlib.Nat.{mod-eq_of_lt}
use native.Mathlib.Omega.{arith}
use borrow.Author.Tests.{leb-true}
use Rattle.laws.proofs.Computed.{both_pass}
use Rattle.tray_places.specs.Places.{empty_tray}
use Rattle.tray.specs.Calls.{Call, Put, Take, Ask, CallAnswer, ToPut, ToTake, ToAsk, after, after_all, call_answer, answers_to}
use Rattle.summary_tray.proofs.Lists.{no_answer_moved}
use Rattle.one_byte_tray.specs.OneByteTray as one_byte
use Rattle.one_byte_tray.specs.SameAnswers.{up_to_255, call_up_to_255, all_up_to_255, SameAnswers}
use Rattle.one_byte_tray.proofs.Kept.{empty_same, numbers_told, put_same, after_put_same, take_same, after_take_same, state_same}

its_byte : (number : ℕ) → up_to_255 number ≡ true → one_byte.one_byte number ≡ number
its_byte number h = mod-eq_of_lt (omega (arith, leb-true number _ h))

answer_same : (tray : List ℕ) (call : Call) → call_up_to_255 call ≡ true → call_answer tray call ≡ one_byte.call_answer tray call
answer_same tray (Put number u y) h = rw (its_byte number h) (ap ToPut (put_same tray number u y))
answer_same tray (Take number) h = rw (its_byte number h) (ap ToTake (take_same tray number))
answer_same tray Ask h = ap ToAsk (state_same tray)

after_same : (tray : List ℕ) (call : Call) → call_up_to_255 call ≡ true → after tray call ≡ one_byte.after tray call
after_same tray (Put number u y) h = rw (its_byte number h) (after_put_same tray number u y)
after_same tray (Take number) h = rw (its_byte number h) (after_take_same tray number)
after_same tray Ask h = refl

answers_same : (calls : List Call) → all_up_to_255 calls ≡ true → (tray : List ℕ) → answers_to tray calls ≡ one_byte.answers_to tray calls
unfolding all_up_to_255 answers_to one_byte.answers_to
answers_same [] h tray = refl
answers_same (call ∷ calls) h tray =
    let both = both_pass (call_up_to_255 call) (all_up_to_255 calls) h in
    ap₂ (λ (x : CallAnswer) (xs : List CallAnswer). x ∷ xs) (answer_same tray call both.0)
    (answers_same calls both.1 (after tray call) ∙ ap (λ (t : List ℕ). one_byte.answers_to t calls) (after_same tray call both.0))

left_same : (calls : List Call) → all_up_to_255 calls ≡ true → (tray : List ℕ) → after_all tray calls ≡ one_byte.after_all tray calls
unfolding all_up_to_255 after_all one_byte.after_all
left_same [] h tray = refl
left_same (call ∷ calls) h tray =
    let both = both_pass (call_up_to_255 call) (all_up_to_255 calls) h in
    left_same calls both.1 (after tray call) ∙ ap (λ (t : List ℕ). one_byte.after_all t calls) (after_same tray call both.0)

empty_answers : (calls : List Call) → all_up_to_255 calls ≡ true → answers_to empty_tray calls ≡ one_byte.answers_to one_byte.empty_tray calls
empty_answers calls used = answers_same calls used empty_tray ∙ ap (λ (t : List ℕ). one_byte.answers_to t calls) empty_same

pub same_answers : (calls : List Call) (used : all_up_to_255 calls ≡ true) → SameAnswers calls used
same_answers calls used = record {
  from_empty = empty_answers calls used;
  since_105 = (no_answer_moved calls).answers ∙ empty_answers calls used;
  from_any = answers_same calls used;
  left = left_same calls used;
  numbers = numbers_told;
}
