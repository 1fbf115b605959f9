-- The names of a market's rows.
use Rattle.std.specs.Prelude.{◌≢◌, AllPairs}
use Rattle.market_model.specs.declared.participants.Parts.{Parts}
use Rattle.market_model.specs.Market.{IsMarket}
use Rattle.market_model.specs.LimitRows.{rows, row_id}

-- no two rows of a market have one name
abbrev pub LawOfTheNames : Type 0
LawOfTheNames = (m : Parts) → IsMarket m → AllPairs (λ r s. row_id m r ≢ row_id m s) (rows m)
