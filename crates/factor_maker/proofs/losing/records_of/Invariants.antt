use Rattle.std.proofs.Common.{take}
use Rattle.factor_maker.specs.Columns.{AreLossRecords}
use Rattle.factor_maker.proofs.losing.records_of.Given as goal

abbrev pub invariant-loop-outage : goal.invariant-loop-outage
invariant-loop-outage l = AreLossRecords l.network l.reactances l.places (take l.outage-index l.outages) l.records
