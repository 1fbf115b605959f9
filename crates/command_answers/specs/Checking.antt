-- What a check of tables comes to.
use Rattle.std.specs.Prelude.{◌≡◌, Bool, not, ◌&&◌, is_some, if◌then◌else◌}
use Rattle.factor_residuals.specs.Residuals.{IsBusResidual, IsLoopResidual, IsOutageBusResidual, IsOutageLoopResidual}
use Rattle.residual_text.specs.ResidualLines.{residuals_text}
use Rattle.market_inputs.specs.declared.checking.Inputs.{Inputs}
use Rattle.command_answers.specs.declared.checking.Residuals.{Residuals}
use Rattle.command_answers.specs.declared.status.Status.{Status}
use Rattle.command_answers.specs.declared.status.Status.TheVariants as status
use Rattle.command_answers.specs.Tellings.{Telling, uncertified}

-- ---- the residuals
-- those of the tables
pub record AreResiduals (inputs : Inputs) (residuals : Residuals) : Type 0 where
  pub bus : IsBusResidual inputs.network inputs.shift residuals.bus
  pub round : IsLoopResidual inputs.network inputs.reactances inputs.shift residuals.round
  pub outage_bus : IsOutageBusResidual inputs.network inputs.loss inputs.outages residuals.outage_bus
  pub outage_round : IsOutageLoopResidual inputs.network inputs.reactances inputs.loss inputs.outages residuals.outage_round

-- none exceeds its bound
abbrev pub are_within : Residuals → Bool
are_within r = not (is_some r.bus.over) && not (is_some r.round.over) && not (is_some r.outage_bus.over) && not (is_some r.outage_round.over)

abbrev pub check_status_of : Residuals → Status
check_status_of r = if are_within r then status.Done else status.Refuted

-- ---- what is told
-- the status and the text are those of the residuals of the inputs
abbrev pub TellsCheck : Inputs → Telling → Type 0
TellsCheck inputs t =
    (r : Residuals) × AreResiduals inputs r × (t ≡ uncertified (check_status_of r) (residuals_text r.bus r.round r.outage_bus r.outage_round))
