use Rattle.std.proofs.Common.{subst}
use Rattle.std.specs.Prelude.{vec_items}
use Rattle.market_tables.specs.Tables.{map_tables}
use Rattle.command_answers.specs.Clearing.{TellsClear}
use Rattle.command_answers.specs.Tellings.{Tells, telling_of}
use Rattle.number_bits.specs.Bits.{most_of}
use Rattle.command_words.specs.Requests.{names_of_market}
use Rattle.command_files.proofs.FileLemmas.{files-clear}
use Rattle.command_files.proofs.ReadingLemmas.{if_ok-map, told-ok}
use Rattle.command_files.proofs.commands.clear_files.Goals as goal
use Rattle.market_inputs.specs.Texts.{IsLimited}

pub returns-clause-right : goal.returns-clause-right
returns-clause-right g c =
    let files = g.S.Store.files c.args.store.now in
    let names = names_of_market c.args.files.now in
    told-ok _ _ c.or_memory.result c.clear_told.result c.or_memory.ensures
    (if_ok-map _ _ c.clear_told.result
    (λ told is. files-clear files names (map_tables vec_items vec_items c.in_ok-bytes.bytes) (telling_of told) c.in_ok-bytes.ensures.bytes (subst (λ x. Tells (IsLimited names.rating names.places x) (TellsClear (most_of names.bits)) (telling_of told)) c.as_slices-lent.ensures is))
    c.clear_told.ensures.tells)
