use Rattle.std.proofs.Common.{arith, ◌<◌, length}
use Rattle.preparation.proofs.MustRunLemmas.{sum-step}
use Rattle.preparation.proofs.lines.must_run.Goals as goal

pub loop-unit-preserved : goal.loop-unit-preserved
loop-unit-preserved c =
    sum-step c.args.units.now c.loop-unit.unit-index _ _ c.must_run_of.result c.from-sum.result c.well_formed.0.0 c.loop-unit-test.true c.loop-unit.invariant
    c.must_run_of.ensures.is c.must_run_of.ensures.least c.must_run_of.ensures.datum c.from-sum.ensures
