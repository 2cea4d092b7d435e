-- The number of an answer to a pair: each refusal of a pair gives that of its question.
use Prim.Native.Nat.{ℕ}
use mathlib.Core.Path.{◌≡◌}
use Rattle.std.specs.Prelude.{Ok, Err}
use Rattle.reference.specs.Refusal.{number_of_refusal}
use Rattle.index.specs.Answer.{Answer, number_of, NumberOf}

pub number_of_pair : (a : Answer) {n : ℕ} → NumberOf (λ refusal number. number ≡ number_of_refusal refusal) a n → n ≡ number_of a
number_of_pair (Err refusal) e = e
number_of_pair (Ok index) e = e
