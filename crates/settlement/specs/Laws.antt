-- When the money of a settlement is that of a right answer.
use Rattle.std.specs.Prelude.{◌≡◌, ℕ}
use Rattle.fraction_theory.specs.Fraction.{Fraction}
use Rattle.market_model.specs.declared.answered.Duals.{Duals}
use Rattle.market_model.specs.declared.participants.Parts.{Parts}
use Rattle.market_model.specs.Dispatch.{Dispatch}
use Rattle.market_model.specs.Market.{IsMarket}
use Rattle.market_model.specs.Optimality.{bus_price, ArePricesOf}
use Rattle.market_model.specs.RightAnswers.{settlement_at}

-- at prices that are those of the duals at each bus it is what a right answer with this dispatch and these duals says
abbrev pub LawOfRightMoney : Type 0
LawOfRightMoney = (m : Parts) (x : Dispatch) (price : ℕ → Fraction) (d : Duals Fraction) → IsMarket m → ArePricesOf m d price → settlement_at m x price d ≡ settlement_at m x (bus_price m d) d
