use Rattle.std.proofs.Common.{◌≡◌, ◌∙◌, Ok, subst}
use Rattle.std.specs.Prelude.{MatchResult, vec_items}
use Rattle.market_tables.specs.Tables.{map_tables}
use Rattle.outside_store.specs.Files.{Reads}
use Rattle.command_answers.specs.Inputs.{IsReplayed}
use Rattle.command_answers.specs.Replaying.{TellsReplay}
use Rattle.command_answers.specs.Tellings.{Tells, telling_of}
use Rattle.command_answers.specs.declared.status.Status.TheVariants as status
use Rattle.number_bits.specs.Bits.{most_of}
use Rattle.command_words.specs.Requests.{names_of_market}
use Rattle.command_files.proofs.FileLemmas.{files-replay}
use Rattle.command_files.proofs.ReadingLemmas.{if_ok-map, reads-same, same_then, told-ok}
use Rattle.command_files.proofs.commands.replay_files.Goals as goal

pub returns-clause-right : goal.returns-clause-right
returns-clause-right g c =
    let files = g.S.Store.files c.args.store.now in
    let names = names_of_market c.args.files.now.market in
    let edits : Reads files c.args.files.now.edits.now 33554432 c.as_slice.result.now = reads-same _ _ _ _ c.read_market.ensures.reads.same (rw c.as_slice.ensures.value c.in_ok-edits.ensures.bytes) in
    told-ok _ _ c.or_memory.result c.replay_told-told.result c.or_memory.ensures
    (if_ok-map _ _ c.replay_told-told.result
    (λ told is. files-replay files names _ (map_tables vec_items vec_items c.in_ok-bytes.bytes) _ (telling_of told) c.in_ok-bytes.ensures.bytes edits
    (subst (λ x. Tells (IsReplayed names.rating names.places x c.as_slice.result.now) (TellsReplay (most_of names.bits)) (telling_of told)) c.as_slices.ensures is))
    c.replay_told-told.ensures.tells)

pub returns-clause-reads : goal.returns-clause-reads
returns-clause-reads g c =
    let first = c.read_market.ensures.reads in
    let second = c.read_file.ensures.reads in
    record {
      same = same_then _ _ _ first.same second.same;
      failed_read = λ bad. absurd (not-memory (subst (λ r. MatchResult r (λ made. c.replay_told-told.result ≡ Ok made) (λ s. s ≡ status.Memory)) bad c.or_memory.ensures));
      reads = λ _ n. second.reads (λ bad. let was = c.in_ok-edits.was in cc (was, bad)) n ∙ first.reads (λ bad. let was = c.in_ok-bytes.was in cc (was, bad)) n;
      writes = λ n. second.writes n ∙ first.writes n;
    }
  where
    not-memory : status.ReadFailed ≡ status.Memory → ⊥
    not-memory bad = cc
