-- Sums over lists, and named sums of terms in order with their prefix sums.
use Rattle.std.specs.Prelude.{ℕ, pos, List, [], ◌∷◌, take}
use Rattle.fraction_theory.specs.Fraction.{Fraction, whole, ◌+ℚ◌, ◌*ℚ◌}

-- the sum of f over a list
abbrev pub sum_by : {T : Type 0} → (T → Fraction) → List T → Fraction
sum_by f [] = whole (pos 0)
sum_by f (x ∷ xs) = f x +ℚ sum_by f xs

-- one term of a sum: a number, or a product of two
pub data Term : Type 0 where
  Plain : Fraction → Term
  Product : Fraction → Fraction → Term

-- the value of a term
abbrev pub term_value : Term → Fraction
term_value (Plain x) = x
term_value (Product x y) = x *ℚ y

-- the sum of the terms
abbrev pub total : List Term → Fraction
total ts = sum_by term_value ts

-- the sum of the first k terms
abbrev pub prefix : ℕ → List Term → Fraction
prefix k ts = total (take k ts)
