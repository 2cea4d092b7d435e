-- What the constructors of the two viscosities answer.
use Prim.Native.Nat.{ℕ, ◌<◌, ◌≤◌}
use Rattle.std.specs.Prelude.{Ok, Err}
use mathlib.Core.Path.{◌≡◌, sym, ◌∙◌}
use borrow.Author.Tests.{lt-ltb, le-ltb}
use Rattle.laws.proofs.Contradiction.{impossible}
use Rattle.laws.proofs.Order.{by_order}
use Rattle.reference.specs.declared.refusal.Refusal.TheVariants.{ThinAt100, ThickAt100, ThickAt40}
use Rattle.reference.specs.Viscosity.{least100, greatest100, greatest40, asked100, asked40}

-- ---- the cases of an answer

pub by_asked100 : {P : Type 0} (y : ℕ)
    → (y < least100 → asked100 y ≡ Err ThinAt100 → P)
    → (least100 ≤ y → greatest100 < y → asked100 y ≡ Err ThickAt100 → P)
    → (least100 ≤ y → y ≤ greatest100 → asked100 y ≡ Ok y → P) → P
by_asked100 y low high within =
    by_order y least100 (λ a. low a (rw (lt-ltb y least100 a)))
    (λ a. by_order greatest100 y
    (λ b. high a b (rw (le-ltb y least100 a, lt-ltb greatest100 y b)))
    (λ b. within a b (rw (le-ltb y least100 a, le-ltb greatest100 y b))))

pub by_asked40 : {P : Type 0} (u : ℕ)
    → (greatest40 < u → asked40 u ≡ Err ThickAt40 → P)
    → (u ≤ greatest40 → asked40 u ≡ Ok u → P) → P
by_asked40 u high within =
    by_order greatest40 u (λ b. high b (rw (lt-ltb greatest40 u b))) (λ b. within b (rw (le-ltb greatest40 u b)))

-- ---- a viscosity that is within its limits is the number asked about

pub record Within100 (y : ℕ) (v : ℕ) : Type 0 where
  pub least : least100 ≤ y
  pub greatest : y ≤ greatest100
  pub same : v ≡ y

pub within100 : (y : ℕ) (v : ℕ) → asked100 y ≡ Ok v → Within100 y v
within100 y v e =
    by_asked100 y
    (λ a r. let f : Err ThinAt100 ≡ Ok v = sym r ∙ e in impossible cc)
    (λ a b r. let f : Err ThickAt100 ≡ Ok v = sym r ∙ e in impossible cc)
    (λ a b r. let f : Ok y ≡ Ok v = sym r ∙ e in
    let g : y ≡ v = cc in
    record { least = a; greatest = b; same = sym g })

pub record Within40 (u : ℕ) (v : ℕ) : Type 0 where
  pub greatest : u ≤ greatest40
  pub same : v ≡ u

pub within40 : (u : ℕ) (v : ℕ) → asked40 u ≡ Ok v → Within40 u v
within40 u v e =
    by_asked40 u
    (λ b r. let f : Err ThickAt40 ≡ Ok v = sym r ∙ e in impossible cc)
    (λ b r. let f : Ok u ≡ Ok v = sym r ∙ e in
    let g : u ≡ v = cc in
    record { greatest = b; same = sym g })
