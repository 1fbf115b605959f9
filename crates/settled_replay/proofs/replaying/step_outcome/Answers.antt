use Rattle.edit_replay.specs.Replays.{step_outcome_at}
use Rattle.settled_replay.proofs.PrintLemmas.{prints_edit}
use Rattle.settled_replay.proofs.replaying.step_outcome.Goals as goal

pub returns-in-Edit-clause-reply : goal.returns-in-Edit-clause-reply
returns-in-Edit-clause-reply g c =
    rw c.in-Edit.is
    (prints_edit g.N.Exact.bound c.args.session.now.market c.args.session.now.kept.taken.takings c.edit_outcome.new.session.kept.taken.takings c.in-Edit.asked (step_outcome_at g.N.Exact.value c.edit_outcome.result) c.edit_outcome.ensures.reply)
