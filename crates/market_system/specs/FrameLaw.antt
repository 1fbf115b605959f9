-- What of a market's system no edit changes.
use Rattle.std.specs.Prelude.{◌≡◌}
use Rattle.linear_system.specs.SameSystems.{SameRows}
use Rattle.market_model.specs.declared.participants.Parts.{Parts}
use Rattle.market_model.specs.Frame.{SameFrame}
use Rattle.market_model.specs.LimitRows.{rows, row_id}
use Rattle.market_model.specs.Optimality.{Taken}
use Rattle.market_system.specs.MarketSystem.{balance_name, need_name, offer_name, room_name, row_name, system_of}

-- the same limit rows with the same names, and the same names of variables
pub record SameNames (m n : Parts) : Type 0 where
  pub rows : rows m ≡ rows n
  pub ids : row_id m ≡ row_id n
  pub balance : balance_name m ≡ balance_name n
  pub names : row_name m ≡ row_name n
  pub offers : offer_name m ≡ offer_name n
  pub need : need_name m ≡ need_name n
  pub rooms : room_name m ≡ room_name n

-- markets of one frame have these, and over the same of their rows and rooms systems with the same rows
abbrev pub LawOfTheFrame : Type 0
LawOfTheFrame = (m n : Parts) (t : Taken) → SameFrame m n → SameNames m n × SameRows (system_of m t) (system_of n t)
