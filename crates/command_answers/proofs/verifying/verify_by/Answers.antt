use Rattle.command_answers.proofs.IfOkLemmas.{if_ok-map}
use Rattle.command_answers.proofs.verifying.verify_by.Goals as goal

pub returns-in-Ok-clause-tells : goal.returns-in-Ok-clause-tells
returns-in-Ok-clause-tells g c =
    if_ok-map _ _ c.verdict_told.result
    (λ told is. record { told = _; stands = c.in-Ok.ensures.told; comes = (c.in-Ok.ensures.kept, is) })
    c.verdict_told.ensures.verifies
