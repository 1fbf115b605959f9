-- Working pairs of a market: two of its numbers that clearing it may have to combine, and whose outcome passes the bound of
-- a type of numbers, on the way to a number that clearing it may have to write down and that is too large. An answer that numbers became too
-- large names one.
-- Source: own.
use Rattle.std.specs.Prelude.{ℕ, List, None, ◌⊎◌}
use Rattle.fraction_theory.specs.Fraction.{Fraction}
use Rattle.fraction_theory.specs.Sums.{Term}
use Rattle.exact_fraction.specs.declared.Op.{Op}
use Rattle.exact_fraction.specs.declared.Passed.{Passed}
use Rattle.exact_fraction.specs.Passes.{IsTooLarge, Passes}
use Rattle.linear_system.specs.Choices.{Choice, IsChoice}
use Rattle.linear_system.specs.Pairs.{IsPairCase, AreNear, AtEither, IsForLarge, OfEither}
use Rattle.market_model.specs.declared.participants.Parts.{Parts}
use Rattle.market_model.specs.declared.limits.Row.{Row}
use Rattle.market_model.specs.Optimality.{Taken}
use Rattle.market_system.specs.MarketSystem.{system_of}
use Rattle.market_system.specs.MarketNumbers.{ClearingNumber, MarketNumber, NamedSum}
use Rattle.market_system.specs.Growth.{Growth}
use Rattle.market_model.specs.NamedSums.{IsSumStep}

-- the sides of an operation that adds up the welfare, or what a settlement adds up
pub record IsSettledCase (m : Parts) (g : Taken) (h : Choice) (op : Op) (left right : Fraction) : Type 0 where
  pub terms : List Term
  pub sum : NamedSum m g h None terms
  pub place : ℕ
  pub step : IsSumStep terms op left right place

-- The pair passes the bound. It is of one choice of the market's system over these rows and rooms or of two near ones: two sides of one kind (numbers,
-- sums or differences of two, or factors times these), or a factor and what it scales, or a step in adding up the welfare or the settlement of the first choice.
-- And it is on the way to a number that a clear may have to write down at one of these choices, and that is too large.
pub record IsWorkingPair (m : Parts) (g : Taken) (bound : ℕ) (op : Op) (left right : Fraction) : Type 0 where
  pub passes : Passes bound op left right
  pub one : Choice
  pub near : Choice
  pub is_choice : IsChoice (system_of m g) one
  pub near_is_choice : IsChoice (system_of m g) near
  pub are_near : AreNear (system_of m g) one near
  pub sides : IsPairCase (OfEither (MarketNumber m g) one near) op left right ⊎ IsSettledCase m g one op left right
  pub large : IsForLarge (AtEither (ClearingNumber m g) one near) bound op left right

-- a working pair of the market over rows that a clear may stand on, after those taken before it, and over any rooms
pub record IsRangeOf (m : Parts) (taken : List Row) (bound : ℕ) (p : Passed Fraction) : Type 0 where
  pub over : Taken
  pub reached : Growth m taken over.limits
  pub pair : IsWorkingPair m over bound p.op p.left p.right

-- no working pair of the market over rows that such a clear may stand on passes the bound
abbrev pub NoPairPasses : Parts → List Row → ℕ → Type 0
NoPairPasses m taken bound = (p : Passed Fraction) → ¬ (IsRangeOf m taken bound p)

-- no number that such a clear may have to write down, at whatever choice over such rows and rooms, is too large
abbrev pub AllNumbersFit : Parts → List Row → ℕ → Type 0
AllNumbersFit m taken bound = (g : Taken) (h : Choice) (x : Fraction) → Growth m taken g.limits → IsChoice (system_of m g) h → ClearingNumber m g h x → ¬ (IsTooLarge bound x)
