use Rattle.case_maker.proofs.RingMarkets.{ring-kept, size-few}
use Rattle.case_maker.proofs.Serving.{is-feasible, serving}
use Rattle.case_maker.proofs.laws.serves_itself.Goals as goal

pub returns : goal.returns
returns c = λ n seed size few. (serving n seed, is-feasible n seed (ring-kept n seed (size-few n size)))
