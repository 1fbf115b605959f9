use Rattle.case_maker.proofs.RingCounts.{has-counts}
use Rattle.case_maker.proofs.RingMarkets.{size-some}
use Rattle.case_maker.proofs.laws.counts_by_size.Goals as goal

pub returns : goal.returns
returns c = λ n seed size. has-counts n seed (size-some n size)
