-- Working pairs: two numbers of one choice, or of two neighbouring ones, that an exchange may have to add, subtract or
-- multiply, and whose outcome passes the bound of a type of numbers, on the way to a number of these choices that is too large itself.
-- So a refusal that names a working pair has its cause in the system: some way of solving it meets numbers that these are made of, and
-- may have to write down one that cannot be written.
-- Source: own. An exchange with entry p needs 1/p, products with 1/p or with the new row's entries, and for each number
-- one sum.
use Rattle.std.specs.Prelude.{◌≡◌, ℕ, ◌⊎◌}
use Rattle.fraction_theory.specs.Fraction.{Fraction, ◌+ℚ◌, ◌-ℚ◌, ◌*ℚ◌}
use Rattle.exact_fraction.specs.declared.Op.{Op}
use Rattle.exact_fraction.specs.declared.Op.TheVariants.{Plus, Minus, Times}
use Rattle.exact_fraction.specs.Passes.{IsTooLarge, Passes, outcome}
use Rattle.linear_system.specs.Systems.{System}
use Rattle.linear_system.specs.Choices.{Choice, IsChoice, OneExchange}
use Rattle.linear_system.specs.Numbers.{Kind, Factor, SolvingNumber, SystemNumber}

-- a number of a kind, or the sum or the difference of two such
pub data IsCombined (N : Kind → Fraction → Type 0) (kind : Kind) : Fraction → Type 0 where
  alone : (x : Fraction) → N kind x → IsCombined N kind x
  sum : (x y : Fraction) → N kind x → N kind y → IsCombined N kind (x +ℚ y)
  difference : (x y : Fraction) → N kind x → N kind y → IsCombined N kind (x -ℚ y)

-- one of these, or a factor times one of these
pub data IsSummand (N : Kind → Fraction → Type 0) (kind : Kind) : Fraction → Type 0 where
  plain : (x : Fraction) → IsCombined N kind x → IsSummand N kind x
  scaled : (f x : Fraction) → N Factor f → IsCombined N kind x → IsSummand N kind (f *ℚ x)

-- the two sides of an operation: summands of one kind, or a factor and what it scales
pub data IsPairCase (N : Kind → Fraction → Type 0) : Op → Fraction → Fraction → Type 0 where
  added : (kind : Kind) (l r : Fraction) → IsSummand N kind l → IsSummand N kind r → IsPairCase N Plus l r
  subtracted : (kind : Kind) (l r : Fraction) → IsSummand N kind l → IsSummand N kind r → IsPairCase N Minus l r
  scaled_right : (kind : Kind) (l r : Fraction) → N Factor l → IsCombined N kind r → IsPairCase N Times l r
  scaled_left : (kind : Kind) (l r : Fraction) → IsCombined N kind l → N Factor r → IsPairCase N Times l r

-- v is what the operation makes of its sides, or what their product makes of another number of these
pub data Makes (N : Fraction → Type 0) : Op → Fraction → Fraction → Fraction → Type 0 where
  itself : (op : Op) (l r : Fraction) → Makes N op l r (outcome op l r)
  added_to : (x l r : Fraction) → N x → Makes N Times l r (x +ℚ l *ℚ r)

-- the operation is on the way to a number of these that is too large
pub record IsForLarge (N : Fraction → Type 0) (bound : ℕ) (op : Op) (left right : Fraction) : Type 0 where
  pub number : Fraction
  pub is_number : N number
  pub too_large : IsTooLarge bound number
  pub made : Makes N op left right number

-- one choice, or two whose basic variables differ by one exchange
abbrev pub AreNear : System → Choice → Choice → Type 0
AreNear s h k = (h ≡ k) ⊎ ((a : ℕ) × (b : ℕ) × OneExchange s h k a b)

-- a number of the one choice or of the other
abbrev pub OfEither : (Choice → Kind → Fraction → Type 0) → Choice → Choice → Kind → Fraction → Type 0
OfEither N h k kind x = N h kind x ⊎ N k kind x

-- a number to be written at the one choice or at the other
abbrev pub AtEither : (Choice → Fraction → Type 0) → Choice → Choice → Fraction → Type 0
AtEither N h k x = N h x ⊎ N k x

-- the pair passes the bound, is of one choice of the system or of two near ones, and is on the way to a number of these that is too large
pub record IsSystemPair (s : System) (bound : ℕ) (op : Op) (left right : Fraction) : Type 0 where
  pub passes : Passes bound op left right
  pub one : Choice
  pub near : Choice
  pub is_choice : IsChoice s one
  pub near_is_choice : IsChoice s near
  pub are_near : AreNear s one near
  pub sides : IsPairCase (OfEither (SystemNumber s) one near) op left right
  pub large : IsForLarge (AtEither (SolvingNumber s) one near) bound op left right
