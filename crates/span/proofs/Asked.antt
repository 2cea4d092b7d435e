-- What the code that asks the questions answers, return by return.
use Prim.Native.Nat.{ℕ, ◌-◌, ◌<◌, ◌≤◌}
use mathlib.Core.Path.{◌≡◌, sym, ap, ◌∙◌}
use native.Mathlib.Omega.{arith}
use Rattle.std.specs.Prelude.{Ok, Err}
use Rattle.laws.proofs.Contradiction.{impossible}
use Rattle.reference.specs.Viscosity.{asked100, asked40}
use Rattle.reference.specs.declared.refusal.Refusal as pair
use Rattle.reference.specs.declared.refusal.Refusal.TheVariants.{ThinAt100, ThickAt100, ThickAt40, NotThicker}
use Rattle.reference.proofs.Asked.{by_asked100, by_asked40, within100, within40}
use Rattle.span.specs.declared.questions.Refusal.TheVariants.{LowerAboveUpper, TooWide, Pair}
use Rattle.span.specs.Questions.{widest, refusal, number_of_refusal, asked_of}
use Rattle.span.proofs.QuestionOrder.{refused_u, refused_y, refused_42, refused_1, refused_2, refused_3, refused_4}
use Rattle.span.proofs.Cases.{asked_refused, asked_passed}

module _ (u1 u2 y1 y2 : ℕ) where
  pub turned_u : u2 < u1 → Err LowerAboveUpper ≡ asked_of u1 u2 y1 y2
  turned_u a = sym (asked_refused u1 u2 y1 y2 LowerAboveUpper (refused_u u1 u2 y1 y2 a))

  pub turned_y : u1 ≤ u2 → y2 < y1 → Err LowerAboveUpper ≡ asked_of u1 u2 y1 y2
  turned_y a b = sym (asked_refused u1 u2 y1 y2 LowerAboveUpper (refused_y u1 u2 y1 y2 a b))

  module _ (a : u1 ≤ u2) (b : y1 ≤ y2) where
    pub too_wide : widest < y2 - y1 → Err TooWide ≡ asked_of u1 u2 y1 y2
    too_wide d = sym (asked_refused u1 u2 y1 y2 TooWide (refused_42 u1 u2 y1 y2 a b d))

    module _ (d : y2 - y1 ≤ widest) where
      -- y1 that is above the greatest is refused by question 2, as y2 is
      pub lower_refused : (r : pair.Refusal) → asked100 y1 ≡ Err r → Err (Pair r) ≡ asked_of u1 u2 y1 y2
      lower_refused r e =
          by_asked100 y1
          (λ f g. same ThinAt100 g (refused_1 u1 u2 y1 y2 a b d f))
          (λ f g h. same ThickAt100 h (refused_2 u1 u2 y1 y2 a b d f (omega arith)))
          (λ f g h. let k : Ok y1 ≡ Err r = sym h ∙ e in impossible cc)
        where
          same : (q : pair.Refusal) → asked100 y1 ≡ Err q → refusal u1 u2 y1 y2 ≡ number_of_refusal (Pair q) → Err (Pair r) ≡ asked_of u1 u2 y1 y2
          same q g f =
              let k : Err q ≡ Err r = sym g ∙ e in
              let h : q ≡ r = cc in
              sym (asked_refused u1 u2 y1 y2 (Pair q) f ∙ ap (λ (s : pair.Refusal). Err (Pair s)) h)

      module _ (v : ℕ) (low : asked100 y1 ≡ Ok v) where
        pub upper_refused : (r : pair.Refusal) → asked100 y2 ≡ Err r → Err (Pair r) ≡ asked_of u1 u2 y1 y2
        upper_refused r e =
            let l = within100 y1 v low in
            by_asked100 y2
            (λ f g. absurd (omega (arith, l.least)))
            (λ f g h. let k : Err ThickAt100 ≡ Err r = sym h ∙ e in
            let same : ThickAt100 ≡ r = cc in
            sym (asked_refused u1 u2 y1 y2 (Pair ThickAt100) (refused_2 u1 u2 y1 y2 a b d l.least g) ∙ ap (λ (s : pair.Refusal). Err (Pair s)) same))
            (λ f g h. let k : Ok y2 ≡ Err r = sym h ∙ e in impossible cc)

        module _ (w : ℕ) (high : asked100 y2 ≡ Ok w) where
          pub u_refused : (r : pair.Refusal) → asked40 u2 ≡ Err r → Err (Pair r) ≡ asked_of u1 u2 y1 y2
          u_refused r e =
              let l = within100 y1 v low in
              let h = within100 y2 w high in
              by_asked40 u2
              (λ f g. let k : Err ThickAt40 ≡ Err r = sym g ∙ e in
              let same : ThickAt40 ≡ r = cc in
              sym (asked_refused u1 u2 y1 y2 (Pair ThickAt40) (refused_3 u1 u2 y1 y2 a b d l.least h.greatest f) ∙ ap (λ (s : pair.Refusal). Err (Pair s)) same))
              (λ f g. let k : Ok u2 ≡ Err r = sym g ∙ e in impossible cc)

          module _ (x : ℕ) (most : asked40 u2 ≡ Ok x) where
            pub not_thicker : u1 ≤ y2 → Err (Pair NotThicker) ≡ asked_of u1 u2 y1 y2
            not_thicker f =
                let l = within100 y1 v low in
                let h = within100 y2 w high in
                sym (asked_refused u1 u2 y1 y2 (Pair NotThicker) (refused_4 u1 u2 y1 y2 a b d l.least h.greatest (within40 u2 x most).greatest f))

            pub all_pass : y2 < u1 → Ok (record { u1 = u1; u2 = u2; y1 = y1; y2 = y2 }) ≡ asked_of u1 u2 y1 y2
            all_pass f =
                let l = within100 y1 v low in
                let h = within100 y2 w high in
                sym (asked_passed u1 u2 y1 y2
                (record { u_order = a; y_order = b; narrow = d; least = l.least; most = h.greatest; thickest = (within40 u2 x most).greatest; thicker = f }))
