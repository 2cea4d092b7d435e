-- The order of the questions: which number refused limits get, and what holds of limits that pass all of them.
use Prim.Native.Nat.{ℕ, ◌-◌, ◌<◌, ◌≤◌}
use mathlib.Core.Path.{◌≡◌, refl}
use native.Mathlib.Omega.{arith}
use borrow.Author.Tests.{le-leb, lt-leb, lt-ltb, le-ltb}
use Rattle.laws.proofs.Order.{by_order}
use Rattle.reference.specs.Viscosity.{least100, greatest100, greatest40}
use Rattle.reference.specs.declared.refusal.Refusal.TheVariants.{ThinAt100, ThickAt100, ThickAt40, NotThicker}
use Rattle.span.specs.declared.questions.Refusal.{Refusal}
use Rattle.span.specs.declared.questions.Refusal.TheVariants.{LowerAboveUpper, TooWide, Pair}
use Rattle.span.specs.Questions.{widest, refusal, number_of_refusal, refusal_of}
use Rattle.span.specs.Preconditions.{InLimits}

module _ (u1 u2 y1 y2 : ℕ) where
  pub refused_u : u2 < u1 → refusal u1 u2 y1 y2 ≡ 41
  refused_u a = simp (lt-leb u1 u2 a)

  module _ (a : u1 ≤ u2) where
    pub refused_y : y2 < y1 → refusal u1 u2 y1 y2 ≡ 41
    refused_y b = simp (le-leb u1 u2 a, lt-leb y1 y2 b)

    module _ (b : y1 ≤ y2) where
      pub refused_42 : widest < y2 - y1 → refusal u1 u2 y1 y2 ≡ 42
      refused_42 d = simp (le-leb u1 u2 a, le-leb y1 y2 b, lt-leb (y2 - y1) widest d)

      module _ (d : y2 - y1 ≤ widest) where
        pub refused_1 : y1 < least100 → refusal u1 u2 y1 y2 ≡ 1
        refused_1 e = simp (le-leb u1 u2 a, le-leb y1 y2 b, le-leb (y2 - y1) widest d, lt-leb least100 y1 e)

        module _ (e : least100 ≤ y1) where
          pub refused_2 : greatest100 < y2 → refusal u1 u2 y1 y2 ≡ 2
          refused_2 f = simp (le-leb u1 u2 a, le-leb y1 y2 b, le-leb (y2 - y1) widest d, le-leb least100 y1 e, lt-leb y2 greatest100 f)

          module _ (f : y2 ≤ greatest100) where
            pub refused_3 : greatest40 < u2 → refusal u1 u2 y1 y2 ≡ 3
            refused_3 g = simp (le-leb u1 u2 a, le-leb y1 y2 b, le-leb (y2 - y1) widest d, le-leb least100 y1 e, le-leb y2 greatest100 f, lt-leb u2 greatest40 g)

            pub refused_4 : u2 ≤ greatest40 → u1 ≤ y2 → refusal u1 u2 y1 y2 ≡ 4
            refused_4 g h =
                simp (le-leb u1 u2 a, le-leb y1 y2 b, le-leb (y2 - y1) widest d, le-leb least100 y1 e, le-leb y2 greatest100 f, le-leb u2 greatest40 g, le-ltb y2 u1 h)

pub none_refuses : (u1 u2 y1 y2 : ℕ) → InLimits u1 u2 y1 y2 → refusal u1 u2 y1 y2 ≡ 0
none_refuses u1 u2 y1 y2 l =
    simp (le-leb u1 u2 l.u_order, le-leb y1 y2 l.y_order, le-leb (y2 - y1) widest l.narrow, le-leb least100 y1 l.least, le-leb y2 greatest100 l.most, le-leb u2 greatest40 l.thickest, lt-ltb y2 u1 l.thicker)

-- the questions one after the other: one of them refuses, or the limits pass
pub by_questions :
    {P : Type 0} (u1 u2 y1 y2 : ℕ) → ((r : Refusal) → refusal u1 u2 y1 y2 ≡ number_of_refusal r → P) → (InLimits u1 u2 y1 y2 → P) → P
by_questions u1 u2 y1 y2 refused all =
    by_order u2 u1 (λ a. refused LowerAboveUpper (refused_u u1 u2 y1 y2 a))
    (λ a. by_order y2 y1 (λ b. refused LowerAboveUpper (refused_y u1 u2 y1 y2 a b))
    (λ b. by_order widest (y2 - y1) (λ d. refused TooWide (refused_42 u1 u2 y1 y2 a b d))
    (λ d. by_order y1 least100 (λ e. refused (Pair ThinAt100) (refused_1 u1 u2 y1 y2 a b d e))
    (λ e. by_order greatest100 y2 (λ f. refused (Pair ThickAt100) (refused_2 u1 u2 y1 y2 a b d e f))
    (λ f. by_order greatest40 u2 (λ g. refused (Pair ThickAt40) (refused_3 u1 u2 y1 y2 a b d e f g))
    (λ g. by_order y2 u1
    (λ h. all (record { u_order = a; y_order = b; narrow = d; least = e; most = f; thickest = g; thicker = h }))
    (λ h. refused (Pair NotThicker) (refused_4 u1 u2 y1 y2 a b d e f g h))))))))

-- a refusal's number is not 0, and the refusal of that number is itself
pub some_number : (r : Refusal) → 0 < number_of_refusal r
some_number LowerAboveUpper = omega arith
some_number TooWide = omega arith
some_number (Pair ThinAt100) = omega arith
some_number (Pair ThickAt100) = omega arith
some_number (Pair ThickAt40) = omega arith
some_number (Pair NotThicker) = omega arith

pub of_number : (r : Refusal) → refusal_of (number_of_refusal r) ≡ r
of_number LowerAboveUpper = refl
of_number TooWide = refl
of_number (Pair ThinAt100) = refl
of_number (Pair ThickAt100) = refl
of_number (Pair ThickAt40) = refl
of_number (Pair NotThicker) = refl

pub in_limits : (u1 u2 y1 y2 : ℕ) → refusal u1 u2 y1 y2 ≡ 0 → InLimits u1 u2 y1 y2
in_limits u1 u2 y1 y2 z = by_questions u1 u2 y1 y2 (λ r e. absurd (omega (arith, some_number r))) (λ l. l)
