use Rattle.std.proofs.Common.{◌∙◌, ap}
use Rattle.std.proofs.lemmas.Result.{IfOk-weaker}
use Rattle.clap.specs.Words.{app_of, with_rule}
use Rattle.command_words.proofs.command.with_bits.Goals as goal

pub returns-clause-app : goal.returns-clause-app
returns-clause-app c =
    IfOk-weaker c.arg.result _ _ (λ r h. h.shape c.choice_option.ensures.local ∙ ap (with_rule (app_of c.args.command)) c.choice_option.ensures.rule) c.arg.ensures
