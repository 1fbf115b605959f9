use Rattle.std.proofs.Common.{[]}
use Rattle.settled_answer.proofs.SettledOutcomes.{settled_at}
use Rattle.settled_replay.proofs.RefusalLemmas.{tells_at}
use Rattle.settled_replay.proofs.clearing.settled_clear.Goals as goal

pub settled_outcome-requires-clause-right : goal.settled_outcome-requires-clause-right
settled_outcome-requires-clause-right g c = (g.N.Exact.bound, [], c.in_ok-reached.ensures.right)

pub returns-clause-right : goal.returns-clause-right
returns-clause-right g c = c.in_ok-settled.ensures.right g.N.Exact.bound [] c.in_ok-reached.ensures.right

pub returns-clause-settled : goal.returns-clause-settled
returns-clause-settled g c =
    let settled = c.in_ok-settled.settled in
    settled_at g.N.Exact.value g.N.Exact.bound c.args.market.now c.in_ok-reached.reached.outcome settled.outcome settled.passed c.in_ok-reached.ensures.chosen c.in_ok-settled.ensures.settled

pub returns-clause-passed : goal.returns-clause-passed
returns-clause-passed g c =
    let settled = c.in_ok-settled.settled in
    rw c.is_some.ensures
    (tells_at g.N.Exact.value g.N.Exact.bound c.args.market.now c.in_ok-reached.reached.outcome settled.outcome settled.passed c.in_ok-settled.ensures.settled)
