-- The answer to a pair and what the questions say of it, case by case.
use Prim.Native.Nat.{ℕ, ◌<◌, ◌≤◌}
use mathlib.Core.Path.{◌≡◌, sym, ◌∙◌, ap, subst}
use native.Mathlib.Omega.{arith}
use borrow.Author.Tests.{lt-ltb, le-ltb, ne_eqb}
use lib.IntN.{ℤ}
use Rattle.std.specs.Prelude.{Result, Ok, Err}
use Rattle.laws.proofs.Contradiction.{impossible}
use Rattle.laws.proofs.Order.{by_order}
use Rattle.reference.specs.declared.refusal.Refusal.{Refusal}
use Rattle.reference.specs.declared.refusal.Refusal.TheVariants.{ThickAt40, NotThicker}
use Rattle.reference.specs.Viscosity.{asked100, asked40, in_units}
use Rattle.reference.specs.Refusal.{number_of_refusal, refusal_of}
use Rattle.reference.specs.Basis.{l_at, h_at}
use Rattle.reference.proofs.Asked.{by_asked100, by_asked40, within100, within40}
use Rattle.reference.proofs.Refusals.{numbered_refusals}
use Rattle.index.specs.declared.questions.Viscosities.{Viscosities}
use Rattle.index.specs.declared.answer.Index.TheVariants.{A, B}
use Rattle.index.specs.Questions.{refusal, asked_of}
use Rattle.index.specs.ProcedureA.{rounded_a, index_a}
use Rattle.index.specs.ChosenFractions.{by_b_of, answer_by_b}
use Rattle.index.specs.ChosenAnswer.{index_passed, answer_of}
use Rattle.index.specs.Preconditions.{Passes, FractionFits, OilBelowH}
use Rattle.index.proofs.ProcedureA.{pair_fits}
use Rattle.index.proofs.OilLogarithms.{pair_below}
use Rattle.index.proofs.QuestionOrder.{by_questions, none_refuses, number_most, refused_1, refused_2, refused_3, refused_4}

-- ---- the answer

-- a pair that a question refuses
pub record RefusedBy (u y : ℕ) (r : Refusal) : Type 0 where
  pub number : refusal u y ≡ number_of_refusal r
  pub some : 0 < number_of_refusal r
  pub answer : answer_of u y ≡ Err r

refused_by : (u y n : ℕ) → refusal u y ≡ n → 0 < n → RefusedBy u y (refusal_of (refusal u y))
unfolding answer_of
refused_by u y n e p =
    let same : number_of_refusal (refusal_of (refusal u y)) ≡ refusal u y = numbered_refusals.of_number (refusal u y) (omega arith) (number_most u y) in
    record { number = sym same; some = omega arith; answer = rw (ne_eqb (refusal u y) 0 (λ z. omega arith)) }

pub answer_passed : (u y : ℕ) → Passes u y → answer_of u y ≡ Ok (index_passed u y)
unfolding answer_of
answer_passed u y a = rw (none_refuses u y a)

pub index_a_is : (u y : ℕ) → h_at y ≤ in_units u → index_passed u y ≡ A (index_a u y)
unfolding index_passed
index_a_is u y l = rw (le-ltb (in_units u) (h_at y) l)

pub index_b_is : (u y : ℕ) → in_units u < h_at y → index_passed u y ≡ B (answer_by_b u y)
unfolding index_passed
index_b_is u y l = rw (lt-ltb (in_units u) (h_at y) l)

pub answer_a : (u y : ℕ) → Passes u y → h_at y ≤ in_units u → answer_of u y ≡ Ok (A (index_a u y))
answer_a u y a l = answer_passed u y a ∙ ap Ok (index_a_is u y l)

pub answer_b : (u y : ℕ) → Passes u y → in_units u < h_at y → answer_of u y ≡ Ok (B (answer_by_b u y))
answer_b u y a l = answer_passed u y a ∙ ap Ok (index_b_is u y l)

-- what holds of each of the three cases holds of every pair
pub by_answer : {P : Type 0} (u y : ℕ)
    → ((r : Refusal) → RefusedBy u y r → P)
    → (Passes u y → in_units u < h_at y → answer_of u y ≡ Ok (B (answer_by_b u y)) → P)
    → (Passes u y → h_at y ≤ in_units u → answer_of u y ≡ Ok (A (index_a u y)) → P) → P
by_answer u y refused below above =
    by_questions u y (λ n e p. refused _ (refused_by u y n e p))
    (λ a. by_order (in_units u) (h_at y)
    (λ l. below a l (answer_b u y a l))
    (λ h. above a h (answer_a u y a h)))

-- ---- the index, from L, H and U as the code holds them

module _ (u y h units : ℕ) (passes : Passes u y) (h_is : h ≡ h_at y) (units-are : units ≡ in_units u) where
  pub oil_below : units < h → OilBelowH (record { u = u; y = y; h = h })
  oil_below l = rw h_is (pair_below u y passes (omega (arith, l, units-are, h_is)))

  pub index_below : units < h → B (by_b_of (record { u = u; y = y; h = h })) ≡ index_passed u y
  index_below l = rw h_is (sym (index_b_is u y (omega (arith, l, units-are, h_is))))

  module _ (l : ℕ) (l-is : l ≡ l_at y) where
    pub fraction_fits : h ≤ units → FractionFits l h units
    fraction_fits a = rw (h_is, l-is, units-are) (pair_fits u y passes (omega (arith, a, units-are, h_is)))

    pub index_above : (k : ℤ) → k ≡ rounded_a l h units → h ≤ units → A k ≡ index_passed u y
    unfolding index_a
    index_above k e a = ap A (rw (h_is, l-is, units-are) at e) ∙ sym (index_a_is u y (omega (arith, a, units-are, h_is)))

-- ---- the questions

pub asked_refused : (u y n : ℕ) → refusal u y ≡ n → 0 < n → asked_of u y ≡ Err (refusal_of n)
unfolding asked_of
asked_refused u y n e p = rw (e, ne_eqb n 0 (λ z. omega arith))

pub asked_passed : (u y : ℕ) → Passes u y → asked_of u y ≡ Ok (record { u = u; y = y })
unfolding asked_of
asked_passed u y a = rw (none_refuses u y a)

-- what a constructor refuses, the pair is refused for
pub refused_at_100 : (u y : ℕ) (r : Refusal) → asked100 y ≡ Err r → Err r ≡ asked_of u y
refused_at_100 u y r e =
    by_asked100 y
    (λ a f. sym (asked_refused u y 1 (refused_1 u y a) (omega arith) ∙ again f e))
    (λ a b f. sym (asked_refused u y 2 (refused_2 u y a b) (omega arith) ∙ again f e))
    (λ a b f. let g : Ok y ≡ Err r = sym f ∙ e in impossible cc)
  where
    again : {s : Refusal} → asked100 y ≡ Err s → asked100 y ≡ Err r → ◌≡◌ {A = Result Viscosities Refusal} (Err s) (Err r)
    again {s = s} f e =
        let g : Err s ≡ Err r = sym f ∙ e in
        let h : s ≡ r = cc in ap Err h

pub refused_at_40 : (u y v : ℕ) (r : Refusal) → asked100 y ≡ Ok v → asked40 u ≡ Err r → Err r ≡ asked_of u y
refused_at_40 u y v r d e =
    let w = within100 y v d in
    by_asked40 u
    (λ a f. let g : Err ThickAt40 ≡ Err r = sym f ∙ e in
    let h : ThickAt40 ≡ r = cc in
    sym (asked_refused u y 3 (refused_3 u y w.least w.greatest a) (omega arith) ∙ ap Err h))
    (λ a f. let g : Ok u ≡ Err r = sym f ∙ e in impossible cc)

-- question 4, of a pair that passes the first three
pub not_thicker : (u y v w : ℕ) → asked100 y ≡ Ok v → asked40 u ≡ Ok w → u ≤ y → Err NotThicker ≡ asked_of u y
not_thicker u y v w d e l =
    let a = within100 y v d in
    let b = within40 u w e in
    sym (asked_refused u y 4 (refused_4 u y a.least a.greatest b.greatest l) (omega arith))

pub thicker : (u y v w : ℕ) → asked100 y ≡ Ok v → asked40 u ≡ Ok w → y < u → Ok (record { u = w; y = v }) ≡ asked_of u y
thicker u y v w d e l =
    let a = within100 y v d in
    let b = within40 u w e in
    rw (a.same, b.same) (sym (asked_passed u y (record { least = a.least; most = a.greatest; thickest = b.greatest; thicker = l })))

-- ---- from what the questions say to the answer

pub refused_answer : (u y : ℕ) (r : Refusal) → asked_of u y ≡ Err r → Err r ≡ answer_of u y
refused_answer u y r e =
    by_questions u y
    (λ n f p. let g : Err (refusal_of n) ≡ Err r = sym (asked_refused u y n f p) ∙ e in
    let h : refusal_of n ≡ r = cc in
    let same : refusal_of (refusal u y) ≡ r = ap refusal_of f ∙ h in
    sym ((refused_by u y n f p).answer ∙ ap Err same))
    (λ a. let f = asked_passed u y a in impossible cc)

-- a pair that the questions let through is the pair that was asked about
pub record Same (u y : ℕ) (pair : Viscosities) : Type 0 where
  pub passes : Passes pair.u pair.y
  pub answer : Ok (index_passed pair.u pair.y) ≡ answer_of u y

pub passed_pair : (u y : ℕ) (pair : Viscosities) → asked_of u y ≡ Ok pair → Same u y pair
passed_pair u y pair e =
    by_questions u y
    (λ n r p. let f = asked_refused u y n r p in impossible cc)
    (λ a. let f : Ok (record { u = u; y = y }) ≡ Ok pair = sym (asked_passed u y a) ∙ e in
    let g : ◌≡◌ {A = Viscosities} (record { u = u; y = y }) pair = cc in
    subst (Same u y) g (record { passes = a; answer = sym (answer_passed u y a) }))

pub passes_asked : (u y : ℕ) (pair : Viscosities) → asked_of u y ≡ Ok pair → Passes pair.u pair.y
passes_asked u y pair e = (passed_pair u y pair e).passes
