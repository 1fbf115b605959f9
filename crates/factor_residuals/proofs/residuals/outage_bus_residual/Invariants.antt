use Rattle.std.proofs.Common.{take}
use Rattle.factor_residuals.specs.Residuals.{IsOutageBusResidual}
use Rattle.factor_residuals.proofs.residuals.outage_bus_residual.Given as goal

abbrev pub invariant-loop-outage : goal.invariant-loop-outage
invariant-loop-outage l = IsOutageBusResidual l.network l.loss (take l.outage-index l.outages) l.residual
