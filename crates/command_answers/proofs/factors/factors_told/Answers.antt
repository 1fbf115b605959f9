use Rattle.command_answers.specs.Factors.{TellsFactors}
use Rattle.command_answers.specs.Inputs.{IsFactorWork}
use Rattle.command_answers.proofs.IfOkLemmas.{if_ok-map}
use Rattle.command_answers.proofs.TellingLemmas.{refusal-tells}
use Rattle.command_answers.proofs.factors.factors_told.Goals as goal

pub returns-in-Ok-clause-tells : goal.returns-in-Ok-clause-tells
returns-in-Ok-clause-tells c =
    if_ok-map _ _ c.made_told.result
    (λ told is. record { told = _; stands = c.in-Ok.ensures.told; comes = (c.in-Ok.ensures.fit, is) })
    c.made_told.ensures.makes

pub returns-in-Err-Refused-clause-tells : goal.returns-in-Err-Refused-clause-tells
returns-in-Err-Refused-clause-tells c =
    refusal-tells (IsFactorWork c.args.case.now c.args.contingencies.now) (TellsFactors c.args.wanted c.args.places) c.in-Err-Refused.field-0 c.in-Err-Refused.refusal _ c.refused.result c.refused.ensures.telling
    c.in-Err-Refused.refusal-is c.in-Err-Refused.field-0-is c.in-Err-Refused.ensures.told
