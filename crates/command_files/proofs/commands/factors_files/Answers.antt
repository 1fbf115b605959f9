use Rattle.std.proofs.Common.{◌∙◌, subst, sym}
use Rattle.factor_tables.specs.OutageNumbers.{outage_header}
use Rattle.outside_store.specs.Files.{Reads}
use Rattle.command_answers.specs.Factors.{TellsFactors}
use Rattle.command_answers.specs.Inputs.{IsFactorWork}
use Rattle.command_answers.specs.Tellings.{Tells, telling_of}
use Rattle.command_words.specs.Requests.{names_of_factors}
use Rattle.command_files.specs.Reading.{ReadsTable, source_of}
use Rattle.command_files.proofs.FileLemmas.{files-factors}
use Rattle.command_files.proofs.ReadingLemmas.{if_ok-map, name-there, table-same, told-ok}
use Rattle.command_files.proofs.commands.factors_files.Goals as goal

pub returns-clause-right : goal.returns-clause-right
returns-clause-right g c =
    let files = g.S.Store.files c.args.store.now in
    let names = names_of_factors c.args.files.now in
    let case : Reads files names.case 33554432 c.as_slice.result.now = rw c.as_slice.ensures.value c.in_ok-case.ensures.bytes in
    let outages : ReadsTable files (source_of outage_header names.contingencies) c.as_slice-2.result.now =
    table-same _ _ _ _ c.read_file.ensures.reads.same (rw c.as_slice-2.ensures.value c.in_ok-outages.ensures.bytes) in
    let wanted = c.is_some.ensures ∙ sym (name-there c.args.files.now.lodf_out) in
    told-ok _ _ c.or_memory.result c.factors_told.result c.or_memory.ensures
    (if_ok-map _ _ c.factors_told.result
    (λ told is. files-factors files names c.as_slice.result.now c.as_slice-2.result.now (telling_of told) case outages
    (subst (λ loss. Tells (IsFactorWork c.as_slice.result.now c.as_slice-2.result.now) (TellsFactors loss names.places) (telling_of told)) wanted is))
    c.factors_told.ensures.tells)
