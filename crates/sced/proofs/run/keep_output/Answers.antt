use Rattle.sced.proofs.EndLemmas.{keeps-one}
use Rattle.sced.proofs.run.keep_output.Goals as goal

pub returns-in-Some-Some-clause-kept : goal.returns-in-Some-Some-clause-kept
returns-in-Some-Some-clause-kept g c =
    rw (c.in-Some-Some.is-0, c.in-Some-Some.is-1)
    (keeps-one c.write.result c.in-Some-Some.name.now c.in-Some-Some.bytes.now (g.S.Store.files c.args.store.now) (g.S.Store.files c.write.new.self) c.write.ensures.wrote)
