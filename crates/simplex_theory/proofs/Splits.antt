-- A number for each way to split the variables into basic ones, others at the low bound and others at the high bound.
use Rattle.std.specs.Prelude.{◌≡◌, ℕ, ◌+◌, ◌*◌, ◌<◌, ◌^◌, Bool, true, false, List, [], ◌∷◌, length, refl}
use Rattle.std.specs.List.{Contains}
use Rattle.std.proofs.Common.{arith, subst, inl, inr}
use Rattle.std.proofs.Math.Nat.{pow-succ'}
use Rattle.fraction_theory.proofs.ListSums.{Contains-cases}
use Rattle.linear_system.specs.Choices.{Choice}

digit : Bool → Bool → ℕ
digit true high = 0
digit false false = 1
digit false true = 2

digit-small : (basic high : Bool) → digit basic high < 3
unfolding digit
digit-small true high = Prim.omega arith
digit-small false false = Prim.omega arith
digit-small false true = Prim.omega arith

-- a digit says whether the variable is basic, and if not at which bound it stands
digit-same : (b f c g : Bool) → digit b f ≡ digit c g → (b ≡ c) × (b ≡ false → f ≡ g)
unfolding digit
digit-same true f true g e = (refl, λ d. absurd Prim.cc)
digit-same true f false false e = absurd (Prim.omega arith)
digit-same true f false true e = absurd (Prim.omega arith)
digit-same false false true g e = absurd (Prim.omega arith)
digit-same false true true g e = absurd (Prim.omega arith)
digit-same false false false false e = (refl, λ d. refl)
digit-same false false false true e = absurd (Prim.omega arith)
digit-same false true false false e = absurd (Prim.omega arith)
digit-same false true false true e = (refl, λ d. refl)

-- the split of these variables as a number, a digit below 3 for each
pub split_code : List ℕ → Choice → ℕ
split_code [] h = 0
split_code (x ∷ xs) h = digit (h.basic x) (h.high x) + 3 * split_code xs h

pub split_code-small : (xs : List ℕ) (h : Choice) → split_code xs h < 3 ^ length xs
unfolding split_code
split_code-small [] h = Prim.omega arith
split_code-small (x ∷ xs) h = Prim.omega (arith, split_code-small xs h, digit-small (h.basic x) (h.high x), pow-succ' 3 (length xs))

-- equal numbers are of equal splits
pub split_code-same : (xs : List ℕ) (h g : Choice) → split_code xs h ≡ split_code xs g → (w : ℕ) → Contains xs w → (h.basic w ≡ g.basic w) × (h.basic w ≡ false → h.high w ≡ g.high w)
unfolding split_code
split_code-same [] h g e w c = absurd (Prim.omega (arith, c.1))
split_code-same (x ∷ xs) h g e w c =
    let small = digit-small (h.basic x) (h.high x) in
    let small' = digit-small (g.basic x) (g.high x) in
    let first : digit (h.basic x) (h.high x) ≡ digit (g.basic x) (g.high x) = Prim.omega arith in
    let rest : split_code xs h ≡ split_code xs g = Prim.omega arith in
    elim (Contains-cases x xs w c) [
      | inl s ↦ subst (λ (y : ℕ). (h.basic y ≡ g.basic y) × (h.basic y ≡ false → h.high y ≡ g.high y)) s (digit-same (h.basic x) (h.high x) (g.basic x) (g.high x) first)
      | inr k ↦ split_code-same xs h g rest w k
    ]
