use Rattle.std.proofs.Common.{refl, subst}
use Rattle.market_model.specs.Stops.{StopsBy}
use Rattle.market_model.specs.Valued.{answer_at}
use Rattle.settled_answer.specs.Settled.{IsSettlingRefusal}
use Rattle.settled_answer.proofs.settling.settled.Goals as goal

pub returns-in-Err-Passed-clause-settled : goal.returns-in-Err-Passed-clause-settled
returns-in-Err-Passed-clause-settled g c = (
  refl,
  subst (StopsBy g.N.Exact.value (IsSettlingRefusal g.N.Exact.bound c.args.market.now (answer_at g.N.Exact.value c.args.answer))) c.in-Err-Passed.field-0-is c.in-Err-Passed.ensures.stops,
)
