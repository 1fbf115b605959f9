use Rattle.std.proofs.Common.{take}
use Rattle.factor_residuals.specs.Residuals.{IsOutageLoopResidual}
use Rattle.factor_residuals.proofs.residuals.outage_loop_residual.Given as goal

abbrev pub invariant-loop-outage : goal.invariant-loop-outage
invariant-loop-outage l = IsOutageLoopResidual l.network l.reactances l.loss (take l.outage-index l.outages) l.residual
