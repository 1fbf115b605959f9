use Rattle.std.proofs.Common.{subst}
use Rattle.std.specs.Prelude.{vec_items}
use Rattle.market_tables.specs.Tables.{map_grid}
use Rattle.command_answers.specs.Checking.{TellsCheck}
use Rattle.command_answers.specs.Tellings.{Tells, telling_of}
use Rattle.command_files.proofs.FileLemmas.{files-check}
use Rattle.command_files.proofs.ReadingLemmas.{if_ok-map, told-ok}
use Rattle.command_files.proofs.commands.check_files.Goals as goal
use Rattle.market_inputs.specs.Texts.{IsCheck}

pub returns-clause-right : goal.returns-clause-right
returns-clause-right g c =
    told-ok _ _ c.or_memory.result c.check_told.result c.or_memory.ensures
    (if_ok-map _ _ c.check_told.result
    (λ told is. files-check _ _ (map_grid vec_items vec_items c.in_ok-grid.grid) (telling_of told) c.in_ok-grid.ensures.bytes
    (subst (λ texts. Tells (IsCheck c.args.files.now.places texts) TellsCheck (telling_of told)) c.as_slices.ensures is))
    c.check_told.ensures.tells)
