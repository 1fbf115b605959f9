use Rattle.net_case.proofs.ReactanceLemmas.{size_kept}
use Rattle.net_case.proofs.branch_reactances.reactance.Goals as goal

pub returns-clause-size : goal.returns-clause-size
returns-clause-size c = size_kept c.in_ok-x.x c.ratio_of.result c.product.result c.in_ok-x.ensures.range.0 c.in_ok-x.ensures.range.1 c.ratio_of.ensures.range.0 c.ratio_of.ensures.range.1 c.product.ensures
