use Rattle.std.proofs.Common.{length, ap, arith}
use Rattle.limit_rows.proofs.GroupLemmas.{length-causes}
use Rattle.limit_rows.proofs.causes.cause_count.Goals as goal

pub returns-clause-count : goal.returns-clause-count
returns-clause-count c =
    let outages = ap length c.outages.ensures.list in
    let units = ap length c.unit_outages.ensures.list in
    omega (arith, c.len.ensures, c.len-2.ensures, outages, units, length-causes c.args.market.now)
