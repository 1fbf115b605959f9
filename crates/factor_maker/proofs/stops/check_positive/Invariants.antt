use Rattle.std.proofs.Common.{take}
use Rattle.dc_network.specs.DcNetworks.{ArePositive}
use Rattle.factor_maker.proofs.stops.check_positive.Given as goal

abbrev pub invariant-loop-place : goal.invariant-loop-place
invariant-loop-place g l = ArePositive (take l.place l.reactances)
