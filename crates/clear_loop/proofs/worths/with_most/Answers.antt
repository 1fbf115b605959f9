use Rattle.limit_rows.proofs.DualLemmas.{none_above}
use Rattle.clear_loop.proofs.worths.with_most.Goals as goal

pub returns-in-Below : goal.returns-in-Below
returns-in-Below g c = record {
  sum = none_above (g.N.Exact.value c.args.sum) (g.N.Exact.value c.args.weight) (g.N.Exact.value c.args.quantity) c.sign.result c.sign.ensures c.in-Below.is;
  stops = tt;
}
