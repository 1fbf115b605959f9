use Rattle.outside_store.specs.Files.{Reads}
use Rattle.command_answers.specs.Tellings.{telling_of}
use Rattle.command_files.proofs.FileLemmas.{files-pool}
use Rattle.command_files.proofs.ReadingLemmas.{if_ok-map, reads-same, told-ok}
use Rattle.command_files.proofs.commands.pool_files.Goals as goal

pub returns-clause-right : goal.returns-clause-right
returns-clause-right g c =
    let files = g.S.Store.files c.args.store.now in
    let case : Reads files c.args.files.now.case.now 33554432 c.as_slice.result.now = rw c.as_slice.ensures.value c.in_ok-case.ensures.bytes in
    let offers : Reads files c.args.files.now.offers.now 33554432 c.as_slice-2.result.now =
    reads-same _ _ _ _ c.read_file.ensures.reads.same (rw c.as_slice-2.ensures.value c.in_ok-offers.ensures.bytes) in
    told-ok _ _ c.or_memory.result c.pool_told.result c.or_memory.ensures
    (if_ok-map _ _ c.pool_told.result (λ told. files-pool files _ _ _ _ (telling_of told) case offers) c.pool_told.ensures.tells)
