-- An answer has an entry for each part of its market, and a rent for each limit with duals.
use Rattle.std.specs.Prelude.{◌≡◌, length, map}
use Rattle.market_model.specs.declared.participants.Parts.{Parts}
use Rattle.market_model.specs.declared.answered.Answer.{Answer}
use Rattle.market_model.specs.declared.answered.Duals.{Duals}
use Rattle.market_model.specs.declared.answered.Money.{Money}
use Rattle.market_model.specs.declared.answered.Outcome.{Outcome}
use Rattle.market_model.specs.declared.answered.Outcome.TheVariants as outcome

-- of a settlement: an entry for each unit, each bus and each offer of reserve, and an own price for each outage of a unit; the rents are of the same limits as the duals, in the same order
pub record FitsMoney {N : Type 0} (market : Parts) (duals : Duals N) (money : Money N) : Type 0 where
  pub units : length money.units ≡ length market.units
  pub own : length money.own ≡ length market.unit_outages
  pub loads : length money.loads ≡ length market.buses
  pub rents : map (λ r. r.row) money.rents ≡ map (λ d. d.row) duals.limits
  pub reserve : length money.reserve ≡ length market.reserve.offers

-- of an answer: an entry for each block, each offer of reserve and each bus, and in the settlement as there
pub record FitsMarket {N : Type 0} (market : Parts) (answer : Answer N) : Type 0 where
  pub dispatch : length answer.dispatch ≡ length market.blocks
  pub reserve : length answer.reserve ≡ length market.reserve.offers
  pub prices : length answer.prices ≡ length market.buses
  pub money : FitsMoney market answer.duals answer.money

-- an answer in an outcome does
abbrev pub FitsOutcome : {N : Type 0} → Parts → Outcome N → Type 0
FitsOutcome m (outcome.Cleared a) = FitsMarket m a
FitsOutcome m (outcome.Infeasible f) = Unit {0}
FitsOutcome m (outcome.Range p) = Unit {0}
