use Rattle.std.proofs.Common.{length}
use Rattle.one_point.proofs.Exchanges.{one_point}
use Rattle.one_point.proofs.solving.leaves_one_point.Goals as goal

pub returns-in-Ok : goal.returns-in-Ok
returns-in-Ok g c = λ all.
    one_point c.args.dict.now c.args.known.now (length c.args.dict.now.basics) c.solve.new.dict c.solve.new.known c.in-Ok.ensures (c.are_all_marked.ensures all)
