use Rattle.command_answers.proofs.IfOkLemmas.{if_ok-map}
use Rattle.command_answers.proofs.replaying.replay_by.Goals as goal

pub returns-in-Ok-clause-wider : goal.returns-in-Ok-clause-wider
returns-in-Ok-clause-wider g c = λ bound wide.
    if_ok-map _ _ c.replay_outcome.result
    (λ made is none. record { told = _; stands = c.in-Ok.ensures.told; comes = (c.in-Ok.ensures.kept.0, is none) })
    (c.replay_outcome.ensures.wider bound wide)
