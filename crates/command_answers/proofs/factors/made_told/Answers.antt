use Rattle.command_answers.specs.Factors.{made, stop_at, stopped}
use Rattle.command_answers.proofs.IfOkLemmas.{if_ok-map}
use Rattle.command_answers.proofs.factors.made_told.Goals as goal

pub returns-in-Ok-clause-makes : goal.returns-in-Ok-clause-makes
returns-in-Ok-clause-makes c = if_ok-map _ _ c.tables_told.result (λ told is. made c.in-Ok.tables c.in-Ok.ensures.made is) c.tables_told.ensures.tells

pub returns-in-Err-clause-makes : goal.returns-in-Err-clause-makes
returns-in-Err-clause-makes c = if_ok-map _ _ c.stop_told.result (λ told tells. stopped _ c.in-Err.ensures.stop tells) c.stop_told.ensures.tells
