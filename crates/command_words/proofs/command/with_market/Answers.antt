use Rattle.std.proofs.Common.{◌≡◌, ◌∙◌, ap, ap₂}
use Rattle.std.proofs.lemmas.Result.{IfOk-weaker}
use Rattle.clap.specs.Words.{app_of, with_rule}
use Rattle.command_words.specs.Words.{with_bits, with_needed, with_places, with_tables}
use Rattle.command_words.proofs.command.with_market.Goals as goal

pub returns-clause-app : goal.returns-clause-app
returns-clause-app c =
    let files : app_of c.in_ok-command.command ≡ with_needed (app_of c.args.command) = c.in_ok-command.ensures.app in
    let tables : app_of c.in_ok-command-2.command ≡ with_tables (with_needed (app_of c.args.command)) = c.in_ok-command-2.ensures.app ∙ ap with_tables files in
    let rating = c.in_ok-command-3.ensures.shape c.choice_option.ensures.local ∙ ap₂ with_rule tables c.choice_option.ensures.rule in
    let placed = c.in_ok-command-4.ensures.app ∙ ap (λ a. with_places a c.args.places) rating in
    IfOk-weaker c.with_bits.result _ _ (λ r h. h ∙ ap (λ a. with_bits a c.args.bits) placed) c.with_bits.ensures.app
