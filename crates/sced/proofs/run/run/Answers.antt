use Rattle.std.proofs.Common.{refl}
use Rattle.std.specs.Prelude.{map, string_bytes}
use Rattle.command_answers.specs.Tellings.{telling_of}
use Rattle.sced.specs.Runs.{outside_of}
use Rattle.sced.specs.Told.{IsOutputFile, names_for, written_by}
use Rattle.sced.proofs.PromiseLemmas.{runs-told}
use Rattle.sced.proofs.run.run.Goals as goal

pub returns-in-Ok : goal.returns-in-Ok
returns-in-Ok g c =
    let words = map string_bytes c.args.words.now in
    let reads = c.asked_work.ensures.reads in
    record {
      runs = runs-told words (outside_of g.S.Store g.K.Sink c.args.store.now c.args.out.now) (outside_of g.S.Store g.K.Sink c.asked_work.new.store c.args.out.now)
          (outside_of g.S.Store g.K.Sink c.finish.new.store c.finish.new.out) (telling_of c.in-Ok.work.told) (written_by c.in-Ok.work) c.finish.result (IsOutputFile (names_for c.in-Ok.work)) c.in-Ok.ensures.named
          c.in-Ok.ensures.usage c.in-Ok.ensures.told c.in-Ok.ensures.answers reads.same (reads.reads (λ bad. cc bad)) reads.writes
          c.finish.ensures.status c.finish.ensures.ends c.finish.ensures.cut c.finish.ensures.reads
          refl refl c.finish.ensures.failed
          c.finish.ensures.still;
    }
