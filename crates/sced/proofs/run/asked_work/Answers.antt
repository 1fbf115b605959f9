use Rattle.std.proofs.Common.{None, Some, inl, inr, refl, subst}
use Rattle.std.specs.Prelude.{map, string_bytes, unwrap_or}
use Rattle.command_answers.specs.Tellings.{certified, tabled}
use Rattle.command_words.specs.Requests.{names_of_factors, names_of_market, names_to_check, text_of_name}
use Rattle.command_words.specs.Words.{AsksClear, AsksMigrate, AsksReplay, NamesToWrite}
use Rattle.command_words.proofs.RequestLemmas.{asks-check, asks-clear, asks-factors, asks-make, asks-migrate, asks-pool, asks-replay, asks-rights, asks-verify}
use Rattle.sced.specs.Told.{checked, cleared, entitled, factored, made, migrated, pooled, refused, replayed, verified}
use Rattle.sced.proofs.AnswerLemmas.{certificate-named, named-by, named-ok, none-named, tables-named, work-ok}
use Rattle.command_files.proofs.ReadingLemmas.{told-ok}
use Rattle.sced.proofs.run.asked_work.Goals as goal

pub returns-in-Ok-Pool-clause-answers : goal.returns-in-Ok-Pool-clause-answers
returns-in-Ok-Pool-clause-answers g c =
    let files = g.S.Store.files c.args.store.now in
    let words = map string_bytes c.args.words.now in
    let asks = asks-pool words c.in-Ok-Pool.field-0 c.in-Ok-Pool.files c.in-Ok-Pool.field-0-is c.in-Ok-Pool.ensures.asked in
    work-ok _ _ c.with_files.result c.pool_files.result (certified None) (rw c.certified-none.ensures at c.with_files.ensures) c.pool_files.ensures.right
    (λ work right name. named-by files words work (certified None) name (pooled c.in-Ok-Pool.files.case.now c.in-Ok-Pool.files.offers.now asks right))

pub returns-in-Ok-Clear-clause-answers : goal.returns-in-Ok-Clear-clause-answers
returns-in-Ok-Clear-clause-answers g c =
    let files = g.S.Store.files c.args.store.now in
    let words = map string_bytes c.args.words.now in
    let asks = asks-clear words c.in-Ok-Clear.field-0 c.in-Ok-Clear.files c.in-Ok-Clear.field-0-is c.in-Ok-Clear.ensures.asked in
    work-ok _ _ c.with_files-in-Ok-Clear.result c.clear_files.result (certified (text_of_name c.in-Ok-Clear.files.certificate)) (rw c.certified.ensures at c.with_files-in-Ok-Clear.ensures) c.clear_files.ensures.right
    (λ work right name. named-by files words work (certified (text_of_name c.in-Ok-Clear.files.certificate)) name (cleared (names_of_market c.in-Ok-Clear.files.market) (text_of_name c.in-Ok-Clear.files.certificate) asks right))

pub returns-in-Ok-Replay-clause-answers : goal.returns-in-Ok-Replay-clause-answers
returns-in-Ok-Replay-clause-answers g c =
    let files = g.S.Store.files c.args.store.now in
    let words = map string_bytes c.args.words.now in
    let asks = asks-replay words c.in-Ok-Replay.field-0 c.in-Ok-Replay.files c.in-Ok-Replay.field-0-is c.in-Ok-Replay.ensures.asked in
    work-ok _ _ c.with_files-in-Ok-Replay.result c.replay_files.result (certified (text_of_name c.in-Ok-Replay.files.certificate)) (rw c.certified-in-Ok-Replay.ensures at c.with_files-in-Ok-Replay.ensures) c.replay_files.ensures.right
    (λ work right name. named-by files words work (certified (text_of_name c.in-Ok-Replay.files.certificate)) name (replayed (names_of_market c.in-Ok-Replay.files.market) c.in-Ok-Replay.files.edits.now (text_of_name c.in-Ok-Replay.files.certificate) asks right))

pub returns-in-Ok-Verify-clause-answers : goal.returns-in-Ok-Verify-clause-answers
returns-in-Ok-Verify-clause-answers g c =
    let files = g.S.Store.files c.args.store.now in
    let words = map string_bytes c.args.words.now in
    let asks = asks-verify words c.in-Ok-Verify.field-0 c.in-Ok-Verify.files c.in-Ok-Verify.field-0-is c.in-Ok-Verify.ensures.asked in
    work-ok _ _ c.with_files-in-Ok-Verify.result c.verify_files.result (certified None) (rw c.certified-none.ensures at c.with_files-in-Ok-Verify.ensures) c.verify_files.ensures.right
    (λ work right name. named-by files words work (certified None) name (verified (names_of_market c.in-Ok-Verify.files.market) (text_of_name c.in-Ok-Verify.files.edits) c.in-Ok-Verify.files.certificate.now asks right))

pub returns-in-Ok-Rights-clause-answers : goal.returns-in-Ok-Rights-clause-answers
returns-in-Ok-Rights-clause-answers g c =
    let files = g.S.Store.files c.args.store.now in
    let words = map string_bytes c.args.words.now in
    let asks = asks-rights words c.in-Ok-Rights.field-0 c.in-Ok-Rights.files c.in-Ok-Rights.field-0-is c.in-Ok-Rights.ensures.asked in
    work-ok _ _ c.with_files-in-Ok-Rights.result c.rights_files.result (certified None) (rw c.certified-none.ensures at c.with_files-in-Ok-Rights.ensures) c.rights_files.ensures.right
    (λ work right name. named-by files words work (certified None) name (entitled (names_of_market c.in-Ok-Rights.files.market) c.in-Ok-Rights.files.rights.now asks right))

pub returns-in-Ok-Migrate-clause-answers : goal.returns-in-Ok-Migrate-clause-answers
returns-in-Ok-Migrate-clause-answers g c =
    let files = g.S.Store.files c.args.store.now in
    let words = map string_bytes c.args.words.now in
    let out = c.in-Ok-Migrate.files.out.now in
    let asks = asks-migrate words c.in-Ok-Migrate.field-0 c.in-Ok-Migrate.files c.in-Ok-Migrate.field-0-is c.in-Ok-Migrate.ensures.asked in
    work-ok _ _ c.with_files-in-Ok-Migrate.result c.migrate_file.result (certified (Some out)) (rw c.certified-in-Ok-Migrate.ensures at c.with_files-in-Ok-Migrate.ensures) c.migrate_file.ensures.right
    (λ work right name. named-by files words work (certified (Some out)) name (migrated c.in-Ok-Migrate.files.certificate.now out c.in-Ok-Migrate.files.bits asks right))

pub returns-in-Ok-Check-clause-answers : goal.returns-in-Ok-Check-clause-answers
returns-in-Ok-Check-clause-answers g c =
    let files = g.S.Store.files c.args.store.now in
    let words = map string_bytes c.args.words.now in
    let asks = asks-check words c.in-Ok-Check.field-0 c.in-Ok-Check.files c.in-Ok-Check.field-0-is c.in-Ok-Check.ensures.asked in
    work-ok _ _ c.with_files-in-Ok-Check.result c.check_files.result (certified None) (rw c.certified-none.ensures at c.with_files-in-Ok-Check.ensures) c.check_files.ensures.right
    (λ work right name. named-by files words work (certified None) name (checked (names_to_check c.in-Ok-Check.files) asks right))

pub returns-in-Ok-Factors-clause-answers : goal.returns-in-Ok-Factors-clause-answers
returns-in-Ok-Factors-clause-answers g c =
    let files = g.S.Store.files c.args.store.now in
    let words = map string_bytes c.args.words.now in
    let names = names_of_factors c.in-Ok-Factors.files in
    let asks = asks-factors words c.in-Ok-Factors.field-0 c.in-Ok-Factors.files c.in-Ok-Factors.field-0-is c.in-Ok-Factors.ensures.asked in
    work-ok _ _ c.with_files-in-Ok-Factors.result c.factors_files.result (tabled names.ptdf_out names.lodf_out) (rw c.tabled.ensures at c.with_files-in-Ok-Factors.ensures) c.factors_files.ensures.right
    (λ work right name. named-by files words work (tabled names.ptdf_out names.lodf_out) name (factored names asks right))

pub returns-in-Ok-Make-clause-answers : goal.returns-in-Ok-Make-clause-answers
returns-in-Ok-Make-clause-answers g c =
    let files = g.S.Store.files c.args.store.now in
    let words = map string_bytes c.args.words.now in
    let ring = c.in-Ok-Make.ring in
    let asks = asks-make words c.in-Ok-Make.field-0 ring c.in-Ok-Make.field-0-is c.in-Ok-Make.ensures.asked in
    work-ok _ _ c.with_files-in-Ok-Make.result c.or_memory.result (certified None) (rw c.certified-none.ensures at c.with_files-in-Ok-Make.ensures) (told-ok _ _ c.or_memory.result c.make_told.result c.or_memory.ensures c.make_told.ensures.makes)
    (λ work right name. named-by files words work (certified None) name (made ring.buses ring.seed asks right))

pub returns-in-Err-Usage-clause-answers : goal.returns-in-Err-Usage-clause-answers
returns-in-Err-Usage-clause-answers g c =
    rw c.certified-none.ensures (refused (c.in-Err-Usage.ensures.refused (λ bad. absurd (let is = c.in-Err-Usage.field-0-is in cc (is, bad)))) refl)

pub returns-in-Ok-Pool-clause-named : goal.returns-in-Ok-Pool-clause-named
returns-in-Ok-Pool-clause-named g c =
    let words = map string_bytes c.args.words.now in
    named-ok words c.with_files.result c.pool_files.result (certified None) (rw c.certified-none.ensures at c.with_files.ensures) (none-named (NamesToWrite words))

pub returns-in-Ok-Verify-clause-named : goal.returns-in-Ok-Verify-clause-named
returns-in-Ok-Verify-clause-named g c =
    let words = map string_bytes c.args.words.now in
    named-ok words c.with_files-in-Ok-Verify.result c.verify_files.result (certified None) (rw c.certified-none.ensures at c.with_files-in-Ok-Verify.ensures) (none-named (NamesToWrite words))

pub returns-in-Ok-Rights-clause-named : goal.returns-in-Ok-Rights-clause-named
returns-in-Ok-Rights-clause-named g c =
    let words = map string_bytes c.args.words.now in
    named-ok words c.with_files-in-Ok-Rights.result c.rights_files.result (certified None) (rw c.certified-none.ensures at c.with_files-in-Ok-Rights.ensures) (none-named (NamesToWrite words))

pub returns-in-Ok-Check-clause-named : goal.returns-in-Ok-Check-clause-named
returns-in-Ok-Check-clause-named g c =
    let words = map string_bytes c.args.words.now in
    named-ok words c.with_files-in-Ok-Check.result c.check_files.result (certified None) (rw c.certified-none.ensures at c.with_files-in-Ok-Check.ensures) (none-named (NamesToWrite words))

pub returns-in-Ok-Make-clause-named : goal.returns-in-Ok-Make-clause-named
returns-in-Ok-Make-clause-named g c =
    let words = map string_bytes c.args.words.now in
    named-ok words c.with_files-in-Ok-Make.result c.or_memory.result (certified None) (rw c.certified-none.ensures at c.with_files-in-Ok-Make.ensures) (none-named (NamesToWrite words))

pub returns-in-Ok-Clear-clause-named : goal.returns-in-Ok-Clear-clause-named
returns-in-Ok-Clear-clause-named g c =
    let words = map string_bytes c.args.words.now in
    let names = names_of_market c.in-Ok-Clear.files.market in
    let certificate = text_of_name c.in-Ok-Clear.files.certificate in
    let asks = asks-clear words c.in-Ok-Clear.field-0 c.in-Ok-Clear.files c.in-Ok-Clear.field-0-is c.in-Ok-Clear.ensures.asked in
    named-ok words c.with_files-in-Ok-Clear.result c.clear_files.result (certified certificate) (rw c.certified.ensures at c.with_files-in-Ok-Clear.ensures)
    (certificate-named (NamesToWrite words) certificate (λ file is. inl (names, subst (AsksClear words names) is asks)))

pub returns-in-Ok-Replay-clause-named : goal.returns-in-Ok-Replay-clause-named
returns-in-Ok-Replay-clause-named g c =
    let words = map string_bytes c.args.words.now in
    let names = names_of_market c.in-Ok-Replay.files.market in
    let edits = c.in-Ok-Replay.files.edits.now in
    let certificate = text_of_name c.in-Ok-Replay.files.certificate in
    let asks = asks-replay words c.in-Ok-Replay.field-0 c.in-Ok-Replay.files c.in-Ok-Replay.field-0-is c.in-Ok-Replay.ensures.asked in
    named-ok words c.with_files-in-Ok-Replay.result c.replay_files.result (certified certificate) (rw c.certified-in-Ok-Replay.ensures at c.with_files-in-Ok-Replay.ensures)
    (certificate-named (NamesToWrite words) certificate (λ file is. inr (inl (names, edits, subst (AsksReplay words names edits) is asks))))

pub returns-in-Ok-Migrate-clause-named : goal.returns-in-Ok-Migrate-clause-named
returns-in-Ok-Migrate-clause-named g c =
    let words = map string_bytes c.args.words.now in
    let old = c.in-Ok-Migrate.files.certificate.now in
    let out = c.in-Ok-Migrate.files.out.now in
    let bits = c.in-Ok-Migrate.files.bits in
    let asks = asks-migrate words c.in-Ok-Migrate.field-0 c.in-Ok-Migrate.files c.in-Ok-Migrate.field-0-is c.in-Ok-Migrate.ensures.asked in
    named-ok words c.with_files-in-Ok-Migrate.result c.migrate_file.result (certified (Some out)) (rw c.certified-in-Ok-Migrate.ensures at c.with_files-in-Ok-Migrate.ensures)
    (certificate-named (NamesToWrite words) (Some out) (λ file is. inr (inr (inl (old, bits, subst (λ o. AsksMigrate words old (unwrap_or o out) bits) is asks)))))

pub returns-in-Ok-Factors-clause-named : goal.returns-in-Ok-Factors-clause-named
returns-in-Ok-Factors-clause-named g c =
    let words = map string_bytes c.args.words.now in
    let names = names_of_factors c.in-Ok-Factors.files in
    let asks = asks-factors words c.in-Ok-Factors.field-0 c.in-Ok-Factors.files c.in-Ok-Factors.field-0-is c.in-Ok-Factors.ensures.asked in
    named-ok words c.with_files-in-Ok-Factors.result c.factors_files.result (tabled names.ptdf_out names.lodf_out) (rw c.tabled.ensures at c.with_files-in-Ok-Factors.ensures)
    (λ file is. inr (inr (inr (names, asks, tables-named names.ptdf_out names.lodf_out file is))))

pub returns-in-Err-Usage-clause-named : goal.returns-in-Err-Usage-clause-named
returns-in-Err-Usage-clause-named g c = rw c.certified-none.ensures (none-named (NamesToWrite (map string_bytes c.args.words.now)))
