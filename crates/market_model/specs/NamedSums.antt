-- The operations that add up the terms of a sum in their order.
use Rattle.std.specs.Prelude.{◌≡◌, ℕ, ◌+◌, ◌<◌, pos, List, length, slice_index_or, ◌⊎◌, [], ◌∷◌}
use Rattle.fraction_theory.specs.Fraction.{Fraction, whole, neg_ℚ, ◌-ℚ◌}
use Rattle.fraction_theory.specs.Sums.{Term, Plain, Product, term_value, prefix}
use Rattle.exact_fraction.specs.declared.Op.{Op}
use Rattle.exact_fraction.specs.declared.Op.TheVariants.{Plus, Minus, Times}
use Rattle.exact_fraction.specs.declared.Passed.{Passed}
use Rattle.exact_fraction.specs.Passes.{IsShareRefused, IsTooLarge, Passes, outcome}

-- the same number, or its opposite
abbrev pub SameSize : Fraction → Fraction → Type 0
SameSize x y = (x ≡ y) ⊎ (x ≡ neg_ℚ y)

-- the terms of a sum of two numbers
abbrev pub two_terms : Fraction → Fraction → List Term
two_terms x y = Plain x ∷ Plain y ∷ []

-- the term at a place; one past the end stands for 0
abbrev pub term_at : List Term → ℕ → Term
term_at terms k = slice_index_or terms k (Plain (whole (pos 0)))

-- The sum of the first k terms and the next term, each up to sign, in an operation that makes of them the sum of the first k + 1 terms, up
-- to sign.
pub record IsNextTerm (terms : List Term) (op : Op) (l r : Fraction) (k : ℕ) : Type 0 where
  pub inside : k < length terms
  pub before : SameSize l (prefix k terms)
  pub next : SameSize r (term_value (term_at terms k))
  pub after : SameSize (outcome op l r) (prefix (k + 1) terms)

-- the factors of the term k, in either order
pub record AreProductSides (terms : List Term) (l r : Fraction) (k : ℕ) (a b : Fraction) : Type 0 where
  pub inside : k < length terms
  pub product : term_at terms k ≡ Product a b
  pub sides : (SameSize l a × SameSize r b) ⊎ (SameSize l b × SameSize r a)

-- the sides of an operation that adds up the terms, at the term k
abbrev pub IsSumStep : List Term → Op → Fraction → Fraction → ℕ → Type 0
IsSumStep terms Plus l r k = IsNextTerm terms Plus l r k
IsSumStep terms Minus l r k = IsNextTerm terms Minus l r k
IsSumStep terms Times l r k = (a : Fraction) × (b : Fraction) × AreProductSides terms l r k a b

-- An operation that passes the bound, where the terms are added up: at a term with which the sum so far is too large.
pub record IsRefusedIn (terms : List Term) (bound : ℕ) (p : Passed Fraction) : Type 0 where
  pub place : ℕ
  pub step : IsSumStep terms p.op p.left p.right place
  pub passes : Passes bound p.op p.left p.right
  pub too_large : IsTooLarge bound (prefix (place + 1) terms)

-- this operation on these two numbers, whose outcome is too large
pub record IsRefusal (op : Op) (left right : Fraction) (bound : ℕ) (p : Passed Fraction) : Type 0 where
  pub same_op : p.op ≡ op
  pub same_left : p.left ≡ left
  pub same_right : p.right ≡ right
  pub passes : Passes bound p.op p.left p.right
  pub too_large : IsTooLarge bound (outcome op left right)

-- an operation refused on the way to a sum with a product, which is too large
abbrev pub IsShareRefusal : Fraction → Fraction → Fraction → ℕ → Passed Fraction → Type 0
IsShareRefusal sum k x bound p = IsShareRefused bound sum k x p.op p.left p.right

-- what a number leaves of the most that it may be, or what a price makes of that on the way to a sum
abbrev pub IsMarginRefusal : Fraction → Fraction → Fraction → Fraction → ℕ → Passed Fraction → Type 0
IsMarginRefusal sum price most x bound p = IsRefusal Minus most x bound p ⊎ IsShareRefusal sum price (most -ℚ x) bound p
