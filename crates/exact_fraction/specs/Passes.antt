-- Which sums, differences and products of fractions pass a bound.
use Rattle.std.specs.Prelude.{◌≡◌, ℕ, ◌<◌, ◌/◌, ℤ, pos, ◌+ℤ◌, ◌*ℤ◌, ◌⊎◌, Option, MatchOption, Result, MatchResult, unsigned_abs}
use Rattle.fraction_theory.specs.Fraction.{Fraction, ◌+ℚ◌, ◌-ℚ◌, ◌*ℚ◌, neg_ℚ}
use Rattle.fraction_theory.specs.Divisors.{lcm}
use Rattle.exact_fraction.specs.declared.Op.{Op}
use Rattle.exact_fraction.specs.declared.Op.TheVariants.{Plus, Minus, Times}
use Rattle.exact_fraction.specs.declared.Passed.{Passed}

-- Over the least common denominator, a numerator, their sum or the denominator itself passes the bound.
unfoldable pub SumPasses : ℕ → Fraction → Fraction → Type 0
SumPasses bound x y =
    let m : ℕ = lcm x.den y.den in
    let p : ℤ = x.num *ℤ pos (m / x.den) in
    let q : ℤ = y.num *ℤ pos (m / y.den) in
    (bound < unsigned_abs p) ⊎ (bound < unsigned_abs q) ⊎ (bound < unsigned_abs (p +ℤ q)) ⊎ (bound < m)

-- in lowest terms, the numerator or the denominator of a number passes the bound
abbrev pub IsTooLarge : ℕ → Fraction → Type 0
IsTooLarge bound x = (bound < unsigned_abs x.num) ⊎ (bound < x.den)

-- a product passes the bound where it is too large
unfoldable pub ProductPasses : ℕ → Fraction → Fraction → Type 0
ProductPasses bound x y = IsTooLarge bound (x *ℚ y)

-- The outcome passes the bound. A difference is the sum with the opposite, whose numerator has the same size.
abbrev pub Passes : ℕ → Op → Fraction → Fraction → Type 0
Passes bound Plus x y = SumPasses bound x y
Passes bound Minus x y = SumPasses bound x (neg_ℚ y)
Passes bound Times x y = ProductPasses bound x y

-- the exact outcome
abbrev pub outcome : Op → Fraction → Fraction → Fraction
outcome Plus x y = x +ℚ y
outcome Minus x y = x -ℚ y
outcome Times x y = x *ℚ y

-- r is the exact outcome, which doesn't pass the bound
pub record IsOutcome {N : Type 0} (value : N → Fraction) (bound : ℕ) (op : Op) (left right r : N) : Type 0 where
  pub exact : value r ≡ outcome op (value left) (value right)
  pub fits : ¬ (Passes bound op (value left) (value right))

-- e is the operation with its two sides, whose outcome passes the bound
pub record IsPassed {N : Type 0} (value : N → Fraction) (bound : ℕ) (op : Op) (left right : N) (e : Passed N) : Type 0 where
  pub same_op : e.op ≡ op
  pub same_left : e.left ≡ left
  pub same_right : e.right ≡ right
  pub passes : Passes bound op (value left) (value right)

-- the exact outcome, and nothing exactly where it passes the bound
abbrev pub IsExactOrNone : {N : Type 0} → (N → Fraction) → ℕ → Op → N → N → Option N → Type 0
IsExactOrNone value bound op left right result = MatchOption result (Passes bound op (value left) (value right)) (IsOutcome value bound op left right)

-- the exact outcome, or, exactly where it passes the bound, the operation with its two sides
abbrev pub IsExact : {N : Type 0} → (N → Fraction) → ℕ → Op → N → N → Result N (Passed N) → Type 0
IsExact value bound op left right result = MatchResult result (IsOutcome value bound op left right) (IsPassed value bound op left right)

-- The sum of x and the product of a and b is too large, and the operation, which is on the way to it, passes the bound: that product, or
-- the sum of x and it.
pub record IsShareRefused (bound : ℕ) (x a b : Fraction) (op : Op) (left right : Fraction) : Type 0 where
  pub too_large : IsTooLarge bound (x +ℚ a *ℚ b)
  pub passes : Passes bound op left right
  pub way : ((op ≡ Times) × (left ≡ a) × (right ≡ b)) ⊎ ((op ≡ Plus) × (left ≡ x) × (right ≡ a *ℚ b))

-- r is x plus the product of a and b
pub record IsSumWith {N : Type 0} (value : N → Fraction) (x a b r : N) : Type 0 where
  pub exact : value r ≡ value x +ℚ value a *ℚ value b

-- That sum is too large, and e is an operation on the way to it that passes the bound: the product of a and b where that passes, or else
-- the sum of x and that product.
pub record IsPassedWith {N : Type 0} (value : N → Fraction) (bound : ℕ) (x a b : N) (e : Passed N) : Type 0 where
  pub too_large : IsTooLarge bound (value x +ℚ value a *ℚ value b)
  pub passed : IsPassed value bound Times a b e ⊎ ((p : N) × (value p ≡ value a *ℚ value b) × IsPassed value bound Plus x p e)

-- the exact sum of x and the product of a and b, or, exactly where that is too large, an operation on the way that passes the bound
abbrev pub IsExactWith : {N : Type 0} → (N → Fraction) → ℕ → N → N → N → Result N (Passed N) → Type 0
IsExactWith value bound x a b result = MatchResult result (IsSumWith value x a b) (IsPassedWith value bound x a b)

-- r is the exact outcome
pub record IsValue {N : Type 0} (value : N → Fraction) (op : Op) (left right r : N) : Type 0 where
  pub exact : value r ≡ outcome op (value left) (value right)

-- the exact outcome is too large, and e is the operation with its two sides
pub record IsTooLargeAt {N : Type 0} (value : N → Fraction) (bound : ℕ) (op : Op) (left right : N) (e : Passed N) : Type 0 where
  pub too_large : IsTooLarge bound (outcome op (value left) (value right))
  pub passed : IsPassed value bound op left right e

-- the exact outcome, or, exactly where that is too large, the operation with its two sides
abbrev pub IsExactValue : {N : Type 0} → (N → Fraction) → ℕ → Op → N → N → Result N (Passed N) → Type 0
IsExactValue value bound op left right result = MatchResult result (IsValue value op left right) (IsTooLargeAt value bound op left right)
