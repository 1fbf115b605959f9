use Rattle.case_maker.specs.Rings.{ring_shift}
use Rattle.case_maker.proofs.FactorLemmas.{one-factor_more, one-row_more}
use Rattle.case_maker.proofs.factors.shift_factors.Goals as goal

pub loop-of-preserved : goal.loop-of-preserved
loop-of-preserved c = one-factor_more (ring_shift c.args.size) c.args.size c.loop-line.line c.loop-of.of c.loop-of.factors c.push.new.self _ c.loop-of.invariant c.shift_factor.ensures c.in_ok-push.ensures

pub loop-line-preserved : goal.loop-line-preserved
loop-line-preserved c = one-row_more (ring_shift c.args.size) c.args.size c.loop-line.line c.loop-of.of c.loop-of.factors c.loop-of.auto.of-end c.loop-of-test.false c.loop-of.invariant
