use Rattle.std.proofs.Common.{◌≡◌, ◌∙◌, ap, codes}
use Rattle.std.proofs.lemmas.Result.{IfOk-weaker}
use Rattle.clap.specs.Words.{App, app_of, new_app}
use Rattle.command_words.specs.Words.{with_file, with_places, with_table}
use Rattle.command_words.proofs.command.check_command.Goals as goal

abbrev with_needed : App → App
with_needed a = with_file (with_file a (codes "case")) (codes "ptdf")

abbrev with_others : App → App
with_others a = with_table (with_table a (codes "lodf")) (codes "contingencies")

pub returns-clause-app : goal.returns-clause-app
returns-clause-app c =
    let files : app_of c.in_ok-command.command ≡ with_needed (new_app (codes "check")) = c.in_ok-command.ensures.app ∙ ap with_needed c.described-command.ensures.app in
    let tables : app_of c.in_ok-command-2.command ≡ with_others (with_needed (new_app (codes "check"))) = c.in_ok-command-2.ensures.app ∙ ap with_others files in
    IfOk-weaker c.with_places.result _ _ (λ r h. h ∙ ap (λ a. with_places a c.args.places) tables) c.with_places.ensures.app
