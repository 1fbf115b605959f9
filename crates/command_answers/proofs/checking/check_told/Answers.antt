use Rattle.market_tables.specs.Tables.{grid_lent}
use Rattle.command_answers.specs.Checking.{TellsCheck}
use Rattle.command_answers.specs.Tellings.{telling_of}
use Rattle.command_answers.proofs.IfOkLemmas.{if_ok-map}
use Rattle.command_answers.proofs.TellingLemmas.{refused-tells}
use Rattle.command_answers.proofs.checking.check_told.Goals as goal
use Rattle.market_inputs.specs.Texts.{IsCheck}

pub returns-in-Err-Refused-clause-tells : goal.returns-in-Err-Refused-clause-tells
returns-in-Err-Refused-clause-tells c =
    if_ok-map _ _ c.refused.result
    (λ told is. refused-tells (IsCheck c.args.places (grid_lent c.args.bytes.now)) TellsCheck c.in-Err-Refused.field-0 c.in-Err-Refused.refusal (telling_of told) c.in-Err-Refused.field-0-is c.in-Err-Refused.ensures.told is)
    c.refused.ensures.telling
