-- Laws of clears, one after another.
use Rattle.std.specs.Prelude.{ℕ, List}
use Rattle.fraction_theory.specs.Fraction.{Fraction}
use Rattle.market_model.specs.declared.answered.Outcome.{Outcome}
use Rattle.market_model.specs.declared.participants.Parts.{Parts}
use Rattle.market_model.specs.Frame.{SameFrame}
use Rattle.market_model.specs.declared.limits.Row.{Row}
use Rattle.market_model.specs.Market.{IsMarket}
use Rattle.market_system.specs.Outcomes.{IsClear, IsDecided}
use Rattle.market_system.specs.WorkingPairs.{NoPairPasses}
use Rattle.clear_loop.specs.Keeping.{Kept, FitsFrame}

-- what is kept of a market is a start for each market of its frame
abbrev pub LawOfTheStart : Type 0
LawOfTheStart = (m n : Parts) (k : Kept) → SameFrame m n → FitsFrame m k → FitsFrame n k

-- where no working pair over rows reached from those taken before passes the bound, a clear decides whether anything is feasible
abbrev pub LawOfClears : Type 0
LawOfClears = (bound : ℕ) (m : Parts) (before after : List Row) (o : Outcome Fraction) → IsMarket m → NoPairPasses m before bound → IsClear bound m before o after → IsDecided m o
