use Rattle.price_dict.proofs.AddingLaws.{none_refused}
use Rattle.price_dict.proofs.rows.put_row.Goals as goal

pub unreachable-requires : goal.unreachable-requires
unreachable-requires g c =
    let refused = rw c.in-Err-Passed.field-0-is at c.in-Err-Passed.ensures.stops in
    none_refused g.N.Exact.value g.N.Exact.bound g.met.N.Exact.value_fits c.args.dict.now c.args.entries.now c.in-Err-Passed.field-0-0 c.requires.sound c.requires.others c.requires.entries refused
