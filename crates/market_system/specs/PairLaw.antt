-- Which refused operations are working pairs of the market over the rows in hand.
-- Source: own.
use Rattle.std.specs.Prelude.{ℕ, List, Option}
use Rattle.fraction_theory.specs.Fraction.{Fraction, ◌-ℚ◌}
use Rattle.fraction_theory.specs.Sums.{Term}
use Rattle.exact_fraction.specs.declared.Op.TheVariants.{Minus}
use Rattle.exact_fraction.specs.declared.Passed.{Passed}
use Rattle.linear_system.specs.Choices.{Choice, IsChoice}
use Rattle.linear_system.specs.Numbers.{Kind}
use Rattle.linear_system.specs.Pairs.{IsSystemPair}
use Rattle.market_model.specs.declared.limits.Row.{Row}
use Rattle.market_model.specs.declared.participants.Parts.{Parts}
use Rattle.market_model.specs.Market.{IsMarket}
use Rattle.market_model.specs.Optimality.{Taken}
use Rattle.market_model.specs.NamedSums.{IsRefusedIn, IsRefusal}
use Rattle.market_system.specs.Growth.{Growth}
use Rattle.market_system.specs.MarketNumbers.{ClearingNumber, MarketNumber, NamedSum}
use Rattle.market_system.specs.MarketSystem.{system_of}
use Rattle.market_system.specs.WorkingPairs.{IsRangeOf}

-- over rows that are reached and some rooms, at a choice of their system
pub record RefusalsArePairs (m : Parts) (taken : List Row) (g : Taken) (h : Choice) (bound : ℕ) (p : Passed Fraction) : Type 0 where
  -- those of the dictionary and of the method, which are pairs of the system
  pub system : IsSystemPair (system_of m g) bound p.op p.left p.right → IsRangeOf m taken bound p
  -- an operation that adds up a sum
  pub sum : (kind : Option Kind) (terms : List Term) → NamedSum m g h kind terms → IsRefusedIn terms bound p → IsRangeOf m taken bound p
  -- the difference of two numbers of one kind, that is a number to be written down
  pub less : (kind : Kind) (x y : Fraction) → MarketNumber m g h kind x → MarketNumber m g h kind y → ClearingNumber m g h (x -ℚ y) → IsRefusal Minus x y bound p → IsRangeOf m taken bound p

abbrev pub LawOfThePairs : Type 0
LawOfThePairs = (m : Parts) (taken : List Row) (g : Taken) (h : Choice) (bound : ℕ) (p : Passed Fraction) → IsMarket m → Growth m taken g.limits → IsChoice (system_of m g) h → RefusalsArePairs m taken g h bound p
