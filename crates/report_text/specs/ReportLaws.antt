-- A report has one reading.
use Rattle.std.specs.Prelude.{◌≡◌, ◌≢◌, ◌⊎◌, ◌<◌, ℕ, All, AllPairs, List, ◌++◌, false, codes, length, map}
use Rattle.std.specs.List.{flat_map}
use Rattle.fraction_theory.specs.Fraction.{Fraction}
use Rattle.fraction_theory.specs.Order.{◌≤ℚ◌, ◌<ℚ◌}
use Rattle.market_model.specs.declared.participants.Parts.{Parts}
use Rattle.market_model.specs.declared.answered.Answer.{Answer}
use Rattle.market_model.specs.declared.answered.Duals.{Duals}
use Rattle.market_model.specs.declared.answered.Farkas.{Farkas}
use Rattle.market_model.specs.declared.answered.RoomDual.{RoomDual}
use Rattle.market_model.specs.declared.answered.Outcome.{Outcome}
use Rattle.market_model.specs.declared.answered.Outcome.TheVariants as outcome
use Rattle.market_model.specs.Dispatch.{places, zero}
use Rattle.market_model.specs.Fitting.{FitsMarket}
use Rattle.market_model.specs.LimitRows.{lost_unit}
use Rattle.market_model.specs.Optimality.{unit_price}
use Rattle.market_model.specs.Reserves.{no_reserve}
use Rattle.market_model.specs.RightAnswers.{IsRightBy}
use Rattle.report_text.specs.Reports.{head_text, surplus_text, lines_of_buses, lines_of_blocks, lines_of_limits, lines_of_units, lines_of_loads, limit_text, bound_text, plain_energy_text, report_text}

-- each outage of a unit is of a unit of the market, and none is lost twice, as in every market
pub record LosesUnitsOnce (m : Parts) : Type 0 where
  pub each : All (λ u. u < length m.units) m.unit_outages
  pub once : AllPairs (λ a b. a ≢ b) m.unit_outages

-- own prices are those that the duals make
abbrev pub MakesOwnPrices : Parts → Answer Fraction → Type 0
MakesOwnPrices m a = a.money.own ≡ map (λ k. unit_price m a.duals (lost_unit m k)) (places (length m.unit_outages))

-- Duals of which a report leaves nothing out: each price of a room is above 0, since it is silent of one that is not, and the price of reserve
-- is 0 where reserve is not listed.
pub record DualsFitReport (m : Parts) (d : Duals Fraction) : Type 0 where
  pub rooms : All (λ (e : RoomDual Fraction). zero <ℚ e.price) d.rooms
  pub unlisted : m.reserve.listed ≡ false → d.reserve ≡ zero

-- An entry for each part of the market and a rent for each limit with duals, and each bus price made from the one price of energy. No flow
-- exceeds its limit by less than 0: a report is silent where it does not exceed it. Each own price has the line of a unit of its own, or is
-- what the duals make it. What is accepted of offers of reserve is what these are paid for. Its duals fit.
pub record FitsReport (m : Parts) (a : Answer Fraction) : Type 0 where
  pub fits : FitsMarket m a
  pub energy : All (λ p. p.energy ≡ a.duals.energy) a.prices
  pub over : All (λ r. zero ≤ℚ r.over) a.money.rents
  pub own : LosesUnitsOnce m ⊎ MakesOwnPrices m a
  pub reserve : map (λ p. p.mw) a.money.reserve ≡ a.reserve
  pub duals : DualsFitReport m a.duals

-- an answer in an outcome does, and Farkas duals do
abbrev pub OutcomeFitsReport : Parts → Outcome Fraction → Type 0
OutcomeFitsReport m (outcome.Cleared a) = FitsReport m a
OutcomeFitsReport m (outcome.Infeasible f) = DualsFitReport m f.duals
OutcomeFitsReport m (outcome.Range p) = Unit {0}

-- two outcomes that fit a market and have one report are one
abbrev pub ReportsApart : Type 0
ReportsApart = (m : Parts) (a b : Outcome Fraction) → OutcomeFitsReport m a → OutcomeFitsReport m b → report_text m a ≡ report_text m b → a ≡ b

-- right, where nothing is asked of numbers that became too large
abbrev pub IsRightIn : Parts → Outcome Fraction → Type 0
IsRightIn m o = IsRightBy (λ p. Unit {0}) m o

-- two outcomes of a market that are right in this sense and have one report are one
abbrev pub RightReportsApart : Type 0
RightReportsApart = (m : Parts) (a b : Outcome Fraction) → IsRightIn m a → IsRightIn m b → report_text m a ≡ report_text m b → a ≡ b

-- ---- markets of energy alone
-- the lines of an answer without those of reserve
abbrev pub energy_lines : Parts → Answer Fraction → List ℕ
energy_lines m a = head_text a.welfare a.duals.energy ++ lines_of_buses m a ++ lines_of_blocks m a ++ lines_of_limits a ++ lines_of_units m a ++ lines_of_loads m a ++ surplus_text a.money.surplus

-- and those of duals that show that nothing is feasible
abbrev pub plain_lines : Farkas Fraction → List ℕ
plain_lines f = codes "infeasible\n" ++ bound_text f.bound ++ plain_energy_text f.duals.energy ++ flat_map limit_text f.duals.limits

abbrev pub TellsEnergyAlone : Parts → Outcome Fraction → Type 0
TellsEnergyAlone m (outcome.Cleared a) = report_text m (outcome.Cleared a) ≡ energy_lines m a
TellsEnergyAlone m (outcome.Infeasible f) = report_text m (outcome.Infeasible f) ≡ plain_lines f
TellsEnergyAlone m (outcome.Range p) = Unit {0}

-- the report of a right outcome of a market of energy alone has no line of reserve
abbrev pub LawOfEnergyAlone : Type 0
LawOfEnergyAlone = (m : Parts) (o : Outcome Fraction) → m.reserve ≡ no_reserve → IsRightIn m o → TellsEnergyAlone m o
