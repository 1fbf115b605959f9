use Rattle.outside_store.specs.Files.{Reads}
use Rattle.command_answers.specs.Tellings.{telling_of}
use Rattle.command_files.proofs.FileLemmas.{file-migrate}
use Rattle.command_files.proofs.ReadingLemmas.{if_ok-map, told-ok}
use Rattle.command_files.proofs.commands.migrate_file.Goals as goal

pub returns-clause-right : goal.returns-clause-right
returns-clause-right g c =
    let files = g.S.Store.files c.args.store.now in
    let read : Reads files c.args.files.now.certificate.now 33554432 c.as_slice.result.now = rw c.as_slice.ensures.value c.in_ok-certificate.ensures.bytes in
    told-ok _ _ c.or_memory.result c.migrate_told.result c.or_memory.ensures
    (if_ok-map _ _ c.migrate_told.result
    (λ told is. file-migrate files c.args.files.now.certificate.now c.as_slice.result.now c.args.files.now.bits (telling_of told) read is)
    c.migrate_told.ensures.tells)
