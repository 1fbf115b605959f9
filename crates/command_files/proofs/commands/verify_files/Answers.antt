use Rattle.std.proofs.Common.{◌≡◌, ◌∙◌, ℕ, Err, Ok, inl, inr, rules, subst}
use Rattle.std.specs.Prelude.{MatchResult, option_map, vec_items}
use Rattle.edit_table.specs.EditTable.{edit_header}
use Rattle.market_tables.specs.Tables.{map_tables}
use Rattle.outside_store.specs.Causes.{Rose, Still}
use Rattle.outside_store.specs.Files.{Reads, SameFiles}
use Rattle.number_bits.specs.Bits.{most_of}
use Rattle.command_answers.specs.Inputs.{IsCertified}
use Rattle.command_answers.specs.Tellings.{Tells, telling_of}
use Rattle.command_answers.specs.Verifying.{TellsVerdict}
use Rattle.command_answers.specs.declared.status.Status.TheVariants as status
use Rattle.command_words.specs.Requests.{names_of_market}
use Rattle.command_files.specs.Reading.{ReadsTable, source_of}
use Rattle.command_files.proofs.FileLemmas.{files-verify}
use Rattle.command_files.proofs.ReadingLemmas.{if_ok-map, reads-same, same_then, table-same, told-ok}
use Rattle.command_files.proofs.commands.verify_files.Goals as goal

pub returns-clause-right : goal.returns-clause-right
returns-clause-right g c =
    let files = g.S.Store.files c.args.store.now in
    let names = names_of_market c.args.files.now.market in
    let later : SameFiles files (g.S.Store.files c.read_table.new.store) = same_then _ _ _ c.read_market.ensures.reads.same c.read_table.ensures.reads.same in
    let edits : ReadsTable files (source_of edit_header (option_map (λ n. n.now) c.args.files.now.edits)) c.as_slice.result.now =
    table-same _ _ _ _ c.read_market.ensures.reads.same (rw c.as_slice.ensures.value c.in_ok-edits.ensures.bytes) in
    let certificate : Reads files c.args.files.now.certificate.now 33554432 c.as_slice-2.result.now = reads-same _ _ _ _ later (rw c.as_slice-2.ensures.value c.in_ok-certificate.ensures.bytes) in
    told-ok _ _ c.or_memory.result c.verify_told.result c.or_memory.ensures
    (if_ok-map _ _ c.verify_told.result
    (λ told is. files-verify files names _ _ (map_tables vec_items vec_items c.in_ok-bytes.bytes) _ _ (telling_of told) c.in_ok-bytes.ensures.bytes edits certificate
    (subst (λ x. Tells (IsCertified (most_of names.bits) names.rating names.places x c.as_slice.result.now c.as_slice-2.result.now) (TellsVerdict (most_of names.bits)) (telling_of told)) c.as_slices.ensures is))
    c.verify_told.ensures.tells)

pub returns-in_err-edits-clause-reads : goal.returns-in_err-edits-clause-reads
returns-in_err-edits-clause-reads g c =
    let first = c.read_market.ensures.reads in
    let second = c.read_table.ensures.reads in
    let was = c.in_err-edits.was in
    let given : c.from_residual-in_err-edits.result ≡ Err c.in_err-edits.field-0.0 = search rules in
    let still : Still (g.S.Store.failed_reads c.args.store.now) (g.S.Store.failed_reads c.read_market.new.store) = first.reads (λ bad. let was = c.in_ok-bytes.was in cc (was, bad)) in
    record {
      same = same_then _ _ _ first.same second.same;
      failed_read = λ bad.
          let (file, is, rose) = second.failed_read (let e_is : c.in_err-edits.field-0.0 ≡ status.ReadFailed = cc (given, bad) in cc (was, e_is)) in
          (file, inr (inl is), subst (λ (n : ℕ). Rose n (g.S.Store.failed_reads c.read_table.new.store file)) (still file) rose);
      reads = λ good n. second.reads (λ bad. good (let e_is : c.in_err-edits.field-0.0 ≡ status.ReadFailed = cc (was, bad) in cc (given, e_is))) n ∙ still n;
      writes = λ n. second.writes n ∙ first.writes n;
    }

pub returns-in_err-certificate-clause-reads : goal.returns-in_err-certificate-clause-reads
returns-in_err-certificate-clause-reads g c =
    let first = c.read_market.ensures.reads in
    let second = c.read_table.ensures.reads in
    let third = c.read_file.ensures.reads in
    let was = c.in_err-certificate.was in
    let given : c.from_residual-in_err-certificate.result ≡ Err c.in_err-certificate.field-0.0 = search rules in
    let still : Still (g.S.Store.failed_reads c.args.store.now) (g.S.Store.failed_reads c.read_table.new.store) =
    λ n. second.reads (λ bad. let was = c.in_ok-edits.was in cc (was, bad)) n ∙ first.reads (λ bad. let was = c.in_ok-bytes.was in cc (was, bad)) n in
    record {
      same = same_then _ _ _ (same_then _ _ _ first.same second.same) third.same;
      failed_read = λ bad.
          let (file, is, rose) = third.failed_read (let e_is : c.in_err-certificate.field-0.0 ≡ status.ReadFailed = cc (given, bad) in cc (was, e_is)) in
          (file, inr (inr is), subst (λ (n : ℕ). Rose n (g.S.Store.failed_reads c.read_file.new.store file)) (still file) rose);
      reads = λ good n. third.reads (λ bad. good (let e_is : c.in_err-certificate.field-0.0 ≡ status.ReadFailed = cc (was, bad) in cc (given, e_is))) n ∙ still n;
      writes = λ n. third.writes n ∙ second.writes n ∙ first.writes n;
    }

pub returns-clause-reads : goal.returns-clause-reads
returns-clause-reads g c =
    let first = c.read_market.ensures.reads in
    let second = c.read_table.ensures.reads in
    let third = c.read_file.ensures.reads in
    record {
      same = same_then _ _ _ (same_then _ _ _ first.same second.same) third.same;
      failed_read = λ bad. absurd (not-memory (subst (λ r. MatchResult r (λ made. c.verify_told.result ≡ Ok made) (λ s. s ≡ status.Memory)) bad c.or_memory.ensures));
      reads = λ _ n.
          third.reads (λ bad. let was = c.in_ok-certificate.was in cc (was, bad)) n ∙ second.reads (λ bad. let was = c.in_ok-edits.was in cc (was, bad)) n
          ∙ first.reads (λ bad. let was = c.in_ok-bytes.was in cc (was, bad)) n;
      writes = λ n. third.writes n ∙ second.writes n ∙ first.writes n;
    }
  where
    not-memory : status.ReadFailed ≡ status.Memory → ⊥
    not-memory bad = cc
