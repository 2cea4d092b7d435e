-- What document 01 leaves free, and nothing else: any two right answers to one pair agree but for p and P and, where the exact value is within 0.01 of a
-- half, but for the mark and which of the two whole numbers beside that half is the index. No program is mentioned. proofs/Determined.antt shows it.
use Rattle.std.specs.Prelude.{ℕ, ◌+◌, ◌*◌, ◌-◌, ◌≡◌, ◌⊎◌, Ok, Err}
use Rattle.shown_index.specs.declared.ByB.{ByB}
use Rattle.index.specs.declared.answer.Index.TheVariants.{A, B}
use Rattle.index.specs.ProcedureB.{AtLeast, AtMost}
use Rattle.index.specs.Answer.{Answer, RightAnswer}

-- the exact value is within 0.01 of the half between k and k + 1: some p and P show that it is at least 100k + 49 and at most 100k + 51 hundredths
pub record BesideTheHalf (u y k : ℕ) : Type 0 where
  pub lower : ℕ
  pub upper : ℕ
  pub at_least : AtLeast u y (100 * k + 49) lower
  pub at_most : AtMost u y (100 * k + 51) upper

-- two answers by B: one index, and one mark unless the exact value is beside the half below it; or two indices that are next to each other, with the exact
-- value beside the half between them
abbrev pub AgreeByB : ℕ → ℕ → ByB → ByB → Type 0
AgreeByB u y b d =
    ((b.index ≡ d.index) × ((b.mark ≡ d.mark) ⊎ BesideTheHalf u y (b.index - 1)))
    ⊎ ((d.index ≡ b.index + 1) × BesideTheHalf u y b.index)
    ⊎ ((b.index ≡ d.index + 1) × BesideTheHalf u y d.index)

-- two answers that agree: refused by the same question, or both by A with the same index, or both by B as above
abbrev pub Agree : ℕ → ℕ → Answer → Answer → Type 0
Agree u y (Err r) (Err s) = r ≡ s
Agree u y (Ok (A i)) (Ok (A j)) = i ≡ j
Agree u y (Ok (B b)) (Ok (B d)) = AgreeByB u y b d
Agree u y (Err r) (Ok (A i)) = ⊥
Agree u y (Err r) (Ok (B b)) = ⊥
Agree u y (Ok (A i)) (Err r) = ⊥
Agree u y (Ok (A i)) (Ok (B b)) = ⊥
Agree u y (Ok (B b)) (Err r) = ⊥
Agree u y (Ok (B b)) (Ok (A i)) = ⊥

pub record Determined : Type 0 where
  pub agree : (u y : ℕ) (a b : Answer) → RightAnswer u y a → RightAnswer u y b → Agree u y a b
