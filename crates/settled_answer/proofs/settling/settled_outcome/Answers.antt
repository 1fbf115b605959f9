use Rattle.std.proofs.Common.{refl}
use Rattle.settled_answer.proofs.SettledOutcomes.{settled_in}
use Rattle.settled_answer.proofs.settling.settled_outcome.Goals as goal

pub returns-in_ok-made-in-Cleared-clause-dispatch : goal.returns-in_ok-made-in-Cleared-clause-dispatch
returns-in_ok-made-in-Cleared-clause-dispatch g c = rw c.in-Cleared.is (c.in_ok-made-in-Cleared.made.answer, refl, c.in_ok-made-in-Cleared.ensures.dispatch)

pub returns-in_ok-made-in-Cleared-clause-settled : goal.returns-in_ok-made-in-Cleared-clause-settled
returns-in_ok-made-in-Cleared-clause-settled g c =
    let made = c.in_ok-made-in-Cleared.made in
    rw c.in-Cleared.is (settled_in g.N.Exact.value g.N.Exact.bound c.args.market.now c.in-Cleared.answer made.answer made.passed c.in_ok-made-in-Cleared.ensures.settled)
