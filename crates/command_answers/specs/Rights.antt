-- What clearing a market comes to, with the rights to what its limits earn.
use Rattle.std.specs.Prelude.{◌≡◌, ◌⊎◌, ℕ, ◌++◌, List, [], All, length}
use Rattle.fraction_theory.specs.Fraction.{Fraction}
use Rattle.exact_fraction.specs.declared.Passed.{Passed}
use Rattle.market_model.specs.declared.answered.Outcome.{Outcome}
use Rattle.market_model.specs.declared.answered.Outcome.TheVariants as outcome
use Rattle.market_model.specs.declared.participants.Parts.{Parts}
use Rattle.market_model.specs.declared.participants.TransmissionRight.{TransmissionRight}
use Rattle.market_model.specs.Market.{IsMarket}
use Rattle.market_model.specs.Rights.{IsTransmissionRight}
use Rattle.market_model.specs.Valued.{total_at}
use Rattle.market_system.specs.Outcomes.{IsRightOutcome}
use Rattle.report_text.specs.Reports.{range_text, report_text}
use Rattle.settled_answer.specs.Settled.{IsSettledOutcome}
use Rattle.rights_test.specs.declared.right_parts.Fit.{Fit}
use Rattle.rights_test.specs.declared.right_parts.Fit.TheVariants as fit
use Rattle.rights_test.specs.Fits.{IsFit, IsFitRefusal}
use Rattle.rights_test.specs.Paid.{IsPayRefusal, payments_of}
use Rattle.command_answers.specs.declared.status.Status.{Status}
use Rattle.command_answers.specs.declared.status.Status.TheVariants as status
use Rattle.command_answers.specs.Bounds.{ArePassedWithin, ArePaymentsWithin, IsFitWithin, IsOutcomeWithin}
use Rattle.command_answers.specs.Inputs.{MarketRights}
use Rattle.command_answers.specs.RightsLines.{rights_lines}
use Rattle.command_answers.specs.Tellings.{Telling, uncertified}

-- done where they fit, and refuted where they do not
abbrev pub fit_status : Fit Fraction → Status
fit_status fit.Fits = status.Done
fit_status (fit.Breaks row flow) = status.Refuted

-- an operation refused where it is told whether rights fit and what they are paid
abbrev pub IsRightsRefusal : Parts → List TransmissionRight → (ℕ → Fraction) → ℕ → Passed Fraction → Type 0
IsRightsRefusal m rights price bound p = IsFitRefusal m rights bound p ⊎ IsPayRefusal price rights bound p

-- Behind the report of an answer come whether the rights fit and what they are paid at these bus prices, each number within the bound; or, in
-- place of all these lines, two numbers of one of these sums, each within the bound, whose outcome passes it.
pub data TellsFit (bound : ℕ) (m : Parts) (rights : List TransmissionRight) (price : ℕ → Fraction) (report : List ℕ) (t : Telling) : Type 0 where
  fitted : (f : Fit Fraction) → IsFit m rights f → IsFitWithin bound f → ArePaymentsWithin bound (payments_of price rights)
      → t ≡ uncertified (fit_status f) (report ++ rights_lines f (payments_of price rights)) → TellsFit bound m rights price report t
  passed : (p : Passed Fraction) → IsRightsRefusal m rights price bound p → ArePassedWithin bound p → t ≡ uncertified status.Range (report ++ range_text p)
      → TellsFit bound m rights price report t

-- Rights are told of where a market is cleared, by the prices that are reported; where it is not, the report stands alone.
abbrev pub TellsOutcome : ℕ → Parts → List TransmissionRight → Outcome Fraction → Telling → Type 0
TellsOutcome bound m rights (outcome.Cleared a) t = TellsFit bound m rights (total_at (λ x. x) a.prices) (report_text m (outcome.Cleared a)) t
TellsOutcome bound m rights (outcome.Infeasible f) t = t ≡ uncertified status.Infeasible (report_text m (outcome.Infeasible f))
TellsOutcome bound m rights (outcome.Range p) t = t ≡ uncertified status.Range (report_text m (outcome.Range p))

-- what is told is that of a right and settled outcome of the market with no limits taken before, as for a clear
pub record EntitlesTo (bound : ℕ) (m : Parts) (rights : List TransmissionRight) (t : Telling) : Type 0 where
  pub outcome : Outcome Fraction
  pub right : IsRightOutcome bound m [] outcome
  pub priced : IsSettledOutcome bound m outcome
  pub within : IsOutcomeWithin bound outcome
  pub told : TellsOutcome bound m rights outcome t

-- the same of a market, which keeps what every market keeps, and of rights between its buses
pub record TellsRights (bound : ℕ) (r : MarketRights) (t : Telling) : Type 0 where
  pub market : IsMarket r.market
  pub rights : All (IsTransmissionRight (length r.market.buses)) r.rights
  pub entitles : EntitlesTo bound r.market r.rights t
