-- When what is right of a market decides whether anything is feasible.
use Rattle.std.specs.Prelude.{ℕ, List}
use Rattle.fraction_theory.specs.Fraction.{Fraction}
use Rattle.market_model.specs.declared.participants.Parts.{Parts}
use Rattle.market_model.specs.declared.answered.Outcome.{Outcome}
use Rattle.market_model.specs.declared.limits.Row.{Row}
use Rattle.market_model.specs.Market.{IsMarket}
use Rattle.market_system.specs.Outcomes.{IsRightOutcome, IsDecided}
use Rattle.market_system.specs.WorkingPairs.{AllNumbersFit, NoPairPasses}

-- where no working pair passes the bound, what is right of a market decides whether anything is feasible
abbrev pub LawOfCompleteness : Type 0
LawOfCompleteness = (m : Parts) (taken : List Row) (bound : ℕ) (o : Outcome Fraction) → IsMarket m → NoPairPasses m taken bound → IsRightOutcome bound m taken o → IsDecided m o

-- where no number that a clear may have to write down is too large, no working pair passes the bound
abbrev pub LawOfTheNumbers : Type 0
LawOfTheNumbers = (m : Parts) (taken : List Row) (bound : ℕ) → AllNumbersFit m taken bound → NoPairPasses m taken bound
