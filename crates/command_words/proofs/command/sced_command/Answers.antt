use Rattle.std.proofs.Common.{◌∙◌, ap}
use Rattle.std.proofs.lemmas.Result.{IfOk-weaker}
use Rattle.clap.specs.Words.{App, with_subcommand}
use Rattle.command_words.specs.Words.{check_app, clear_app, factors_app, make_app, migrate_app, pool_app, replay_app, rights_app, sced_app_over, verify_app}
use Rattle.command_words.proofs.command.sced_command.Goals as goal

abbrev joined : App → App → App
joined s a = with_subcommand a s.top

pub returns-clause-app : goal.returns-clause-app
unfolding sced_app_over
returns-clause-app c =
    let ratings = c.args.ratings in
    let places = c.args.places in
    let bits = c.args.bits in
    let pool = c.in_ok-command.ensures.app pool_app c.pool_command.ensures.app ∙ ap (joined pool_app) c.bare_command.ensures.app in
    let clear = c.in_ok-command-2.ensures.app (clear_app ratings places bits) c.clear_command.ensures.app ∙ ap (joined (clear_app ratings places bits)) pool in
    let replay = c.in_ok-command-3.ensures.app (replay_app ratings places bits) c.replay_command.ensures.app ∙ ap (joined (replay_app ratings places bits)) clear in
    let verify = c.in_ok-command-4.ensures.app (verify_app ratings places bits) c.verify_command.ensures.app ∙ ap (joined (verify_app ratings places bits)) replay in
    let rights = c.in_ok-command-5.ensures.app (rights_app ratings places bits) c.rights_command.ensures.app ∙ ap (joined (rights_app ratings places bits)) verify in
    let check = c.in_ok-command-6.ensures.app (check_app places) c.check_command.ensures.app ∙ ap (joined (check_app places)) rights in
    let factors = c.in_ok-command-7.ensures.app (factors_app places) c.factors_command.ensures.app ∙ ap (joined (factors_app places)) check in
    let migrate = c.in_ok-command-8.ensures.app (migrate_app bits) c.migrate_command.ensures.app ∙ ap (joined (migrate_app bits)) factors in
    IfOk-weaker c.with_subcommand-9.result _ _ (λ r h. h ∙ ap (joined (make_app c.args.sizes)) migrate) (c.with_subcommand-9.ensures.app (make_app c.args.sizes) c.make_command.ensures.app)
